use Rattle.std.proofs.Common.{take}
use Rattle.checks_live.specs.Shapes.{AreInside}
use Rattle.checks_live.proofs.common.are_inside.Given as goal

abbrev pub invariant-loop-node : goal.invariant-loop-node
invariant-loop-node l = AreInside l.edges (take l.node-index l.nodes)
