use Rattle.std.proofs.Common.{◌∙◌}
use Rattle.std.specs.Cmp.{nat_cmp_total}
use Rattle.mt_containers.proofs.Seens.{get_seen}
use Rattle.mt_containers.proofs.number_map.NumberMap.get.Goals as goal

pub returns : goal.returns
returns g c = record { found = c.get.ensures.value ∙ get_seen nat_cmp_total c.self.inside.tree c.args.self.now c.args.key c.self.view_is }
