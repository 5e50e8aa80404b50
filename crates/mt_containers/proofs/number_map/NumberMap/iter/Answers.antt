use Rattle.std.proofs.Common.{◌∙◌}
use Rattle.std.specs.Cmp.{nat_cmp_total}
use Rattle.mt_containers.proofs.Seens.{entries_seen, sorted_seen}
use Rattle.mt_containers.proofs.number_map.NumberMap.iter.Goals as goal

pub returns-clause-rest : goal.returns-clause-rest
returns-clause-rest g c = c.iter.ensures.rest ∙ entries_seen nat_cmp_total c.self.inside.tree c.args.self.now c.self.view_is c.iter.ensures.ordered

pub returns-clause-sorted : goal.returns-clause-sorted
returns-clause-sorted g c = sorted_seen c.args.self.now
