use Rattle.std.proofs.Common.{sym, subst}
use Rattle.mt_files.specs.Snapshots.{IsSnapshot}
use Rattle.mt_files.proofs.Snapshots.{empty_kept}
use Rattle.mt_files.proofs.file_map.FileMap.new.Goals as goal

pub invariant_of-result : goal.invariant_of-result
invariant_of-result c = subst IsSnapshot (sym c.new.ensures.empty) empty_kept
