use Rattle.std.proofs.Common.{◌≡◌, ◌++◌, take}
use Rattle.checks_live.proofs.trial.push_all.Given as goal

abbrev pub invariant-loop-number : goal.invariant-loop-number
invariant-loop-number l = l.stack ≡ l.fn.stack ++ take l.number-index l.numbers
