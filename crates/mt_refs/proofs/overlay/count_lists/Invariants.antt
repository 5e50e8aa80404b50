use Rattle.std.proofs.Common.{◌≡◌, ℕ, ◌+◌, take}
use Rattle.mt_refs.specs.Lists.{times}
use Rattle.mt_refs.specs.Patches.{sum_then}
use Rattle.mt_refs.specs.Overlays.{count_in}
use Rattle.mt_refs.proofs.overlay.count_lists.Given as goal

abbrev pub invariant-loop-one : goal.invariant-loop-one
invariant-loop-one l = (n : ℕ) → count_in l.counts l.table n ≡ count_in l.fn.counts l.table n + sum_then (times n) (take l.one-index l.set)
