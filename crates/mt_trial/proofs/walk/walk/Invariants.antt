use Rattle.std.proofs.Common.{◌≡◌, ℕ, ◌+◌, ◌-◌, length}
use Rattle.std.specs.Bool.{IsTrue}
use Rattle.std.specs.List.{All}
use Rattle.std.specs.FinMap.{contains_key, get, keys}
use Rattle.mt_containers.specs.Explorations.{IsExplored}
use Rattle.mt_refs.specs.Graphs.{IsLive, edge_total, edges_from}
use Rattle.mt_trial.specs.Deaths.{reads_of}
use Rattle.mt_trial.proofs.Costs.{size_from}
use Rattle.mt_trial.proofs.walk.walk.Given as goal

abbrev pub invariant-loop-node : goal.invariant-loop-node
invariant-loop-node g l = record {
  explored : IsExplored (edges_from l.overlay) l.fn.starts (λ _. tt) (get l.reached) l.stack;
  waiting : All (IsLive l.overlay) l.stack;
  met : (n : ℕ) → IsTrue (contains_key l.reached n) → IsLive l.overlay n;
  cost : l.steps ≡ l.fn.steps + reads_of l.overlay (keys l.reached);
}

abbrev pub decreases-loop-node : goal.decreases-loop-node
decreases-loop-node g l = length l.stack + (edge_total l.overlay.edges - size_from l.overlay (keys l.reached))
