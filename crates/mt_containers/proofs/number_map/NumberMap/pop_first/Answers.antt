use Rattle.std.proofs.Common.{sym, ◌∙◌}
use Rattle.std.proofs.lemmas.Option.{IfSome_then}
use Rattle.std.specs.Cmp.{nat_cmp_total}
use Rattle.std.specs.FinMap.{nat_cmp-IsAntisymmetric}
use Rattle.mt_containers.proofs.Seens.{first_seen, get_seen, none_left, remove_seen}
use Rattle.mt_containers.proofs.number_map.NumberMap.pop_first.Goals as goal

pub returns-clause-first : goal.returns-clause-first
returns-clause-first g c =
    first_seen nat_cmp_total c.self.inside.tree c.pop_first.new.self c.args.self.now c.pop_first.result c.self.view_is c.pop_first.ensures.removal c.pop_first.ensures.all_above c.pop_first.ensures.ordered
    (none_left c.pop_first.result c.self.inside.tree.entries c.pop_first.ensures.variant.1)

pub returns-clause-found : goal.returns-clause-found
returns-clause-found g c = IfSome_then c.pop_first.result c.pop_first.ensures.value (λ p h. sym (get_seen nat_cmp_total c.self.inside.tree c.args.self.now p.0 c.self.view_is) ∙ h)

pub returns-clause-rest : goal.returns-clause-rest
returns-clause-rest g c = IfSome_then c.pop_first.result c.pop_first.ensures.updates (λ p h. remove_seen nat_cmp_total nat_cmp-IsAntisymmetric c.self.inside.tree c.pop_first.new.self c.args.self.now p.0 c.self.view_is h)
