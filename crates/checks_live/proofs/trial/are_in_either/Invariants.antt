use Rattle.std.proofs.Common.{◌||◌}
use Rattle.std.specs.Bool.{IsTrue}
use Rattle.std.specs.List.{All}
use Rattle.std.specs.FinMap.{contains_key, keys}
use Rattle.checks_live.proofs.trial.are_in_either.Given as goal

abbrev pub invariant-loop-node : goal.invariant-loop-node
invariant-loop-node l = All (λ n. IsTrue (contains_key l.first n || contains_key l.second n)) l.node-iterator → All (λ n. IsTrue (contains_key l.first n || contains_key l.second n)) (keys l.edges)
