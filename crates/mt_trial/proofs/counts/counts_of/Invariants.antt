use Rattle.std.proofs.Common.{◌≡◌, ℕ, ◌+◌, cond, nat_eq, take}
use Rattle.std.specs.List.{list_any}
use Rattle.mt_refs.specs.Graphs.{count}
use Rattle.mt_trial.specs.Deaths.{left_at}
use Rattle.mt_trial.proofs.counts.counts_of.Given as goal

abbrev pub invariant-loop-node : goal.invariant-loop-node
invariant-loop-node g l = record {
  counts : (n : ℕ) → left_at l.counts n ≡ cond (list_any (nat_eq n) (take l.node-index l.nodes)) (count l.overlay n) 0;
  cost : l.steps ≡ l.fn.steps + l.node-index;
}
