use Rattle.std.proofs.Common.{subst}
use Rattle.mt_files.specs.Snapshots.{IsSnapshot}
use Rattle.mt_files.proofs.file_map.FileMap.get.Goals as goal

pub returns-clause-snapshot : goal.returns-clause-snapshot
returns-clause-snapshot c = subst IsSnapshot c.self.view_is c.self.invariant
