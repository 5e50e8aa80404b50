use Rattle.std.proofs.Common.{◌≡◌, ◌++◌, map}
use Rattle.std.specs.FinMap.{entries}
use Rattle.mt_fresh.specs.Visits.{found_of}
use Rattle.mt_fresh.proofs.traversal.founds_of.Given as goal

abbrev pub invariant-loop-path : goal.invariant-loop-path
invariant-loop-path l = l.founds ++ map found_of l.path-iterator ≡ map found_of (entries l.fn.visits)
