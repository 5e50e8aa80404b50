use Rattle.std.proofs.Common.{refl}
use Rattle.mt_refs.proofs.Rows.{no_edges, none_kept}
use Rattle.mt_refs.proofs.table.Table.new.Goals as goal

pub invariant_of-result : goal.invariant_of-result
invariant_of-result c = rw (c.new.ensures.items, c.new-2.ensures.items, c.new-3.ensures.empty) none_kept

pub returns : goal.returns
returns c = record { empty = rw (c.new.ensures.items, c.new-3.ensures.empty, no_edges) refl }
