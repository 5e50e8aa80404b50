use Rattle.std.proofs.Common.{◌∙◌}
use Rattle.std.specs.Cmp.{nat_cmp_total}
use Rattle.std.specs.FinMap.{nat_cmp-IsAntisymmetric}
use Rattle.mt_containers.proofs.Seens.{get_seen, remove_seen}
use Rattle.mt_containers.proofs.number_map.NumberMap.remove.Goals as goal

pub returns-clause-taken : goal.returns-clause-taken
returns-clause-taken g c = c.remove.ensures.value ∙ get_seen nat_cmp_total c.self.inside.tree c.args.self.now c.args.key c.self.view_is

pub returns-clause-rest : goal.returns-clause-rest
returns-clause-rest g c = remove_seen nat_cmp_total nat_cmp-IsAntisymmetric c.self.inside.tree c.remove.new.self c.args.self.now c.args.key c.self.view_is c.remove.ensures.updates
