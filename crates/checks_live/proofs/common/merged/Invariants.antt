use Rattle.checks_live.proofs.Shapes.{IsMergedSoFar}
use Rattle.checks_live.proofs.common.merged.Given as goal

abbrev pub invariant-loop-node : goal.invariant-loop-node
invariant-loop-node l = IsMergedSoFar l.merged l.node-iterator l.change l.edges
