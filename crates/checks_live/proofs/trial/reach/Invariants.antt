use Rattle.std.proofs.Common.{ℕ}
use Rattle.std.specs.Bool.{IsTrue}
use Rattle.std.specs.List.{All}
use Rattle.std.specs.FinMap.{contains_key}
use Rattle.mt_containers.specs.Walks.{IsReached}
use Rattle.checks_live.specs.Shapes.{targets_by}
use Rattle.checks_live.proofs.trial.reach.Given as goal

abbrev pub invariant-loop-turn : goal.invariant-loop-turn
invariant-loop-turn l = record {
  met : (n : ℕ) → IsTrue (contains_key l.reached n) → IsReached (targets_by l.edges) l.starts n;
  ahead : All (IsReached (targets_by l.edges) l.starts) l.stack;
}
