use Rattle.std.proofs.Common.{◌≡◌, ℕ, ◌+◌, take}
use Rattle.mt_refs.specs.Lists.{times}
use Rattle.mt_refs.specs.Overlays.{count_in}
use Rattle.mt_refs.proofs.changes.count_down.Given as goal

abbrev pub invariant-loop-t : goal.invariant-loop-t
invariant-loop-t l = (n : ℕ) → count_in l.counts l.table n + times n (take l.t-index l.targets) ≡ count_in l.fn.counts l.table n
