use Rattle.std.proofs.Common.{sym, subst}
use Rattle.mt_files.specs.Snapshots.{IsSnapshot}
use Rattle.mt_files.proofs.Snapshots.{remove_kept}
use Rattle.mt_files.proofs.file_map.FileMap.remove.Goals as goal

pub invariant_of-self : goal.invariant_of-self
invariant_of-self c = subst IsSnapshot (sym c.remove.ensures.rest) (remove_kept _ c.args.path.now c.self.invariant)
