use Rattle.mt_files.proofs.Snapshots.{source_bounded}
use Rattle.mt_files.proofs.file_map.FileMap.source.Goals as goal

pub returns-in-Some-Source-clause-bound : goal.returns-in-Some-Source-clause-bound
returns-in-Some-Source-clause-bound c = source_bounded c.args.self.now c.args.path.now c.get.ensures.snapshot
