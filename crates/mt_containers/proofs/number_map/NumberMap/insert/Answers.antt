use Rattle.std.specs.Cmp.{nat_cmp_total}
use Rattle.std.specs.FinMap.{nat_cmp-IsAntisymmetric}
use Rattle.mt_containers.proofs.Seens.{insert_seen}
use Rattle.mt_containers.proofs.number_map.NumberMap.insert.Goals as goal

pub returns-clause-ok : goal.returns-clause-ok
returns-clause-ok g c = insert_seen nat_cmp_total nat_cmp-IsAntisymmetric c.self.inside.tree c.insert.new.self c.args.self.now c.args.key c.args.value c.self.view_is c.in_ok-insert.ensures.updates
