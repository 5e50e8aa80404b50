use Rattle.std.proofs.Common.{◌≡◌, ◌++◌}
use Rattle.checks_base.proofs.callers.list_by_reference.Given as goal

abbrev pub invariant-loop-path : goal.invariant-loop-path
invariant-loop-path l = l.paths ++ l.path-iterator.rest.now ≡ l.list
