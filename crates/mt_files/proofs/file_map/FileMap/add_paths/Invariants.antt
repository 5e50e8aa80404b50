use Rattle.std.proofs.Common.{◌≡◌}
use Rattle.std.specs.FinMap as map
use Rattle.mt_files.specs.PathSets.{with_paths}
use Rattle.mt_files.proofs.file_map.FileMap.add_paths.Given as goal

abbrev pub invariant-loop-path : goal.invariant-loop-path
invariant-loop-path l = with_paths l.paths l.path-iterator ≡ with_paths l.fn.paths (map.keys l.self)
