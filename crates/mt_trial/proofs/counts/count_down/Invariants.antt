use Rattle.std.proofs.Common.{◌≡◌, ℕ, ◌+◌, take}
use Rattle.mt_refs.specs.Lists.{times}
use Rattle.mt_trial.specs.Deaths.{left_at}
use Rattle.mt_trial.proofs.counts.count_down.Given as goal

abbrev pub invariant-loop-t : goal.invariant-loop-t
invariant-loop-t l = (n : ℕ) → left_at l.counts n + times n (take l.t-index l.targets) ≡ left_at l.fn.counts n
