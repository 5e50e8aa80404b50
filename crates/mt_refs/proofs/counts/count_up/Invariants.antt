use Rattle.std.proofs.Common.{◌≡◌, ℕ, ◌+◌, get_or, take}
use Rattle.mt_refs.specs.Lists.{times}
use Rattle.mt_refs.proofs.counts.count_up.Given as goal

abbrev pub invariant-loop-t : goal.invariant-loop-t
invariant-loop-t l = (n : ℕ) → get_or l.counts n 0 ≡ get_or l.fn.counts n 0 + times n (take l.t-index l.targets)
