use Rattle.std.proofs.Common.{◌≡◌, ◌≤◌, ◌+◌, length}
use Rattle.std.specs.List.{sum_by}
use Rattle.mt_refs.specs.Graphs.{edge_total}
use Rattle.checks_live.proofs.common.is_few.Given as goal

abbrev pub invariant-loop-node : goal.invariant-loop-node
invariant-loop-node l = record {
  within : l.total ≤ 1000000000;
  left : l.total + sum_by (λ e. length e.1) l._node-iterator ≡ edge_total l.edges;
}
