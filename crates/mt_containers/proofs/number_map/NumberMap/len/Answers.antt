use Rattle.std.proofs.Common.{◌∙◌}
use Rattle.std.specs.Cmp.{nat_cmp_total}
use Rattle.mt_containers.proofs.Seens.{len_seen}
use Rattle.mt_containers.proofs.number_map.NumberMap.len.Goals as goal

pub returns-clause-len : goal.returns-clause-len
returns-clause-len g c = c.len.ensures.len ∙ len_seen nat_cmp_total c.self.inside.tree c.args.self.now c.self.view_is c.len.ensures.ordered
