use Rattle.std.proofs.Common.{◌∙◌}
use Rattle.std.specs.Cmp.{nat_cmp_total}
use Rattle.mt_containers.proofs.Seens.{entries_seen}
use Rattle.mt_containers.proofs.number_map.NumberMapIntoIterator.into_iter.Goals as goal

pub returns : goal.returns
returns g c = let h = c.into_iter.ensures.into_iter_gives in record { into_iter_gives = h.0 ∙ entries_seen nat_cmp_total c.self.inside.tree c.args.self c.self.view_is h.5 }
