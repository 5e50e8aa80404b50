use Rattle.std.proofs.Common.{◌≡◌, ℕ, map}
use Rattle.std.specs.List.Sorted.{IsStrictlySortedBy}
use Rattle.std.specs.Option.{option_or}
use Rattle.std.specs.Ordering.{nat_cmp}
use Rattle.std.specs.Cmp.Lexicographic.{slice_cmp}
use Rattle.std.specs.FinMap.{find, get}
use Rattle.mt_fresh.specs.GraphRevisions.{modules_of_graph}
use Rattle.mt_fresh.proofs.GraphRevisions.{modules_of}
use Rattle.mt_fresh.proofs.graph_revision.modules_of_graph.Given as goal

abbrev pub invariant-loop-path : goal.invariant-loop-path
invariant-loop-path l = record {
  left : (n : ℕ) → option_or (find nat_cmp n (modules_of l.numbering l.path-iterator)) (get l.modules n) ≡ get (modules_of_graph l.numbering l.fn.graph) n;
  sorted : IsStrictlySortedBy (slice_cmp nat_cmp) (map (λ e. e.0) l.path-iterator);
}
