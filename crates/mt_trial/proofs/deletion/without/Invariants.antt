use Rattle.std.proofs.Common.{◌≡◌, filter, not, take}
use Rattle.std.specs.FinMap.{contains_key}
use Rattle.mt_trial.proofs.deletion.without.Given as goal

abbrev pub invariant-loop-node : goal.invariant-loop-node
invariant-loop-node l = l.rest ≡ filter (λ n. not (contains_key l.kept n)) (take l.node-index l.nodes)
