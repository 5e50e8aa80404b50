use Rattle.std.proofs.Common.{◌≡◌, ◌+◌}
use Rattle.mt_refs.proofs.steps.Steps.read.Given as goal

abbrev pub invariant-loop-target : goal.invariant-loop-target
invariant-loop-target g l = l.self ≡ l.fn.self + 1 + l._target-index
