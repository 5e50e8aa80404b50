use Rattle.std.proofs.Common.{◌≡◌, ◌++◌, take}
use Rattle.mt_trial.proofs.walk.push_all.Given as goal

abbrev pub invariant-loop-number : goal.invariant-loop-number
invariant-loop-number l = l.stack ≡ l.fn.stack ++ take l.number-index l.numbers
