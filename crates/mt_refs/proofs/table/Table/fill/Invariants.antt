use Rattle.std.proofs.Common.{◌≡◌, ◌<◌, ◌+◌, ◌^◌, length}
use Rattle.std.specs.List.{All}
use Rattle.mt_refs.specs.Graphs.{edge_total}
use Rattle.mt_refs.specs.Patches.{filled, size_of}
use Rattle.mt_refs.proofs.table.Table.fill.Given as goal

abbrev pub invariant-loop-node : goal.invariant-loop-node
invariant-loop-node l = record {
  rest : filled l.set l.self.edges ≡ filled l.fn.set l.fn.self.edges;
  pins : l.self.pins ≡ l.fn.self.pins;
  spare : l.self.spare ≡ l.fn.self.spare;
  nodes : All (λ s. s.0 < l.fn.self.spare) l.set;
  targets : All (λ s. All (λ t. t < l.fn.self.spare) s.1) l.set;
  few : edge_total l.self.edges + size_of l.set + 1 < 2 ^ 32;
}

abbrev pub decreases-loop-node : goal.decreases-loop-node
decreases-loop-node l = length l.set
