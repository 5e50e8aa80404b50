use Rattle.std.proofs.Common.{◌≡◌, ◌++◌}
use Rattle.std.specs.FinMap.{keys}
use Rattle.checks_base.proofs.callers.keys_of.Given as goal

abbrev pub invariant-loop-path : goal.invariant-loop-path
invariant-loop-path l = l.paths ++ l.path-iterator ≡ keys l.numbers
