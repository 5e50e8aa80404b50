use Rattle.std.proofs.Common.{◌≡◌, ◌≤◌, ℕ, ◌+◌, cond, length, nat_eq, take}
use Rattle.std.specs.List.{list_any}
use Rattle.mt_refs.specs.Graphs.{count}
use Rattle.mt_trial.specs.Deaths.{inner, left_at, reads_of}
use Rattle.mt_trial.proofs.counts.outer_counts.Given as goal

abbrev pub invariant-loop-node : goal.invariant-loop-node
invariant-loop-node g l = record {
  counts : (n : ℕ) → left_at l.counts n + inner l.overlay n (take l.node-index l.nodes) ≡ cond (list_any (nat_eq n) l.nodes) (count l.overlay n) 0;
  cost : l.steps ≤ l.fn.steps + length l.nodes + reads_of l.overlay (take l.node-index l.nodes);
}
