use Rattle.std.specs.List.{All}
use Rattle.std.specs.FinMap.{entries}
use Rattle.checks_live.specs.Shapes.{AreInside}
use Rattle.checks_live.proofs.common.are_lists_inside.Given as goal

abbrev pub invariant-loop-node : goal.invariant-loop-node
invariant-loop-node l = All (λ e. AreInside l.edges e.1) l._node-iterator → All (λ e. AreInside l.edges e.1) (entries l.edges)
