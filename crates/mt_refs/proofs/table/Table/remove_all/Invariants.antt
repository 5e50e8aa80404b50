use Rattle.std.proofs.Common.{◌≡◌, drop}
use Rattle.mt_refs.specs.Patches.{removed}
use Rattle.mt_refs.proofs.table.Table.remove_all.Given as goal

abbrev pub invariant-loop-node : goal.invariant-loop-node
invariant-loop-node l = record {
  rest : removed (drop l.node-index l.nodes) l.self.edges ≡ removed l.nodes l.fn.self.edges;
  pins : l.self.pins ≡ l.fn.self.pins;
  spare : l.self.spare ≡ l.fn.self.spare;
}
