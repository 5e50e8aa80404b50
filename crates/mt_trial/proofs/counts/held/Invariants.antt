use Rattle.std.proofs.Common.{◌≡◌, filter, nat_lt, take}
use Rattle.mt_trial.specs.Deaths.{left_at}
use Rattle.mt_trial.proofs.counts.held.Given as goal

abbrev pub invariant-loop-node : goal.invariant-loop-node
invariant-loop-node l = l.held ≡ filter (λ n. nat_lt 0 (left_at l.counts n)) (take l.node-index l.nodes)
