use Rattle.std.proofs.Common.{sym, ◌∙◌}
use Rattle.std.proofs.lemmas.Option.{IfSome_then}
use Rattle.mt_containers.proofs.Seens.{none_left}
use Rattle.mt_containers.proofs.Texts.{first_text, get_text, rest_text}
use Rattle.mt_containers.proofs.key_map.KeyMap.pop_first.Goals as goal

pub returns-clause-first : goal.returns-clause-first
returns-clause-first g c =
    first_text g.K.Ord.cmp g.K.TextKey.text g.K.TextKey.entries g.met.K.TextKey.by_text c.self.inside.tree c.pop_first.new.self c.args.self.now c.pop_first.result c.self.view_is
    c.pop_first.ensures.removal c.pop_first.ensures.all_above c.pop_first.ensures.ordered
    (none_left c.pop_first.result c.self.inside.tree.entries c.pop_first.ensures.variant.1)

pub returns-clause-found : goal.returns-clause-found
returns-clause-found g c = IfSome_then c.pop_first.result c.pop_first.ensures.value (λ p h. sym (get_text g.K.Ord.cmp g.K.TextKey.text g.K.TextKey.entries g.met.K.TextKey.by_text c.self.inside.tree c.args.self.now p.0 c.self.view_is) ∙ h)

pub returns-clause-rest : goal.returns-clause-rest
returns-clause-rest g c = rest_text g.K.Ord.cmp g.K.TextKey.text g.K.TextKey.entries g.met.K.TextKey.by_text c.self.inside.tree c.pop_first.new.self c.args.self.now c.pop_first.result c.self.view_is c.pop_first.ensures.removal c.pop_first.ensures.updates
