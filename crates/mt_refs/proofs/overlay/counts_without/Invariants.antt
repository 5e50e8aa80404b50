use Rattle.std.proofs.Common.{◌≡◌, ℕ, ◌+◌, ◌≤◌, length, take}
use Rattle.mt_refs.specs.Lists.{times}
use Rattle.mt_refs.specs.Graphs.{count}
use Rattle.mt_refs.specs.Patches.{sum_now}
use Rattle.mt_refs.specs.Overlays.{count_in}
use Rattle.mt_refs.proofs.overlay.counts_without.Given as goal

abbrev pub invariant-loop-one : goal.invariant-loop-one
invariant-loop-one g l = record {
  counts : (n : ℕ) → count_in l.counts l.table n + sum_now (times n) l.table.edges (take l.one-index l.set) ≡ count l.table n;
  cost : l.steps ≤ l.fn.steps + l.one-index + sum_now (λ targets. length targets) l.table.edges (take l.one-index l.set);
}
