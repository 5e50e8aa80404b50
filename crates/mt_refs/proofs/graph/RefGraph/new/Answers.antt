use Rattle.std.proofs.Common.{sym, subst}
use Rattle.mt_refs.specs.Graphs.{IsSound}
use Rattle.mt_refs.proofs.Closings.{sound_empty}
use Rattle.mt_refs.proofs.graph.RefGraph.new.Goals as goal

pub invariant_of-result : goal.invariant_of-result
invariant_of-result c = subst IsSound (sym c.new.ensures.empty) sound_empty
