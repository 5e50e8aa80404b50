use Rattle.std.proofs.Common.{◌≡◌, drop}
use Rattle.mt_refs.specs.Patches.{nodes_of, removed}
use Rattle.mt_refs.proofs.table.Table.empty_set.Given as goal

abbrev pub invariant-loop-one : goal.invariant-loop-one
invariant-loop-one l = record {
  rest : removed (nodes_of (drop l.one-index l.set)) l.self.edges ≡ removed (nodes_of l.set) l.fn.self.edges;
  pins : l.self.pins ≡ l.fn.self.pins;
  spare : l.self.spare ≡ l.fn.self.spare;
}
