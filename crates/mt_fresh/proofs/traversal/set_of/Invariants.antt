use Rattle.std.proofs.Common.{◌≡◌, take}
use Rattle.std.specs.FinMap.{empty}
use Rattle.mt_files.specs.PathSets.{with_paths}
use Rattle.mt_fresh.proofs.traversal.set_of.Given as goal

abbrev pub invariant-loop-path : goal.invariant-loop-path
invariant-loop-path l = l.set ≡ with_paths empty (take l.path-index l.paths)
