use Rattle.std.proofs.Common.{◌≡◌, ◌≤◌, ◌-◌, ℕ, length, get_or, None}
use Rattle.mt_refs.specs.Tables.{into, size}
use Rattle.mt_refs.proofs.counts.grow.Given as goal

abbrev pub invariant-loop-counts : goal.invariant-loop-counts
invariant-loop-counts l = record {
  counted : length l.lists.items ≤ length l.counts.items;
  longer : length l.fn.lists.items ≤ length l.lists.items;
  lists : (n : ℕ) → get_or l.lists.items n None ≡ get_or l.fn.lists.items n None;
  counts : (n : ℕ) → get_or l.counts.items n 0 ≡ get_or l.fn.counts.items n 0;
  into : (n : ℕ) → into n l.lists.items ≡ into n l.fn.lists.items;
  size : size l.lists.items ≡ size l.fn.lists.items;
}

abbrev pub decreases-loop-counts : goal.decreases-loop-counts
decreases-loop-counts l = l.rows - length l.lists.items
