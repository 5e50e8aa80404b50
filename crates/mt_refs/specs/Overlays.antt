-- An overlay by its parts: the graph below, the lists that are set, and the counts that differ.
use Rattle.std.specs.Prelude.{◌≡◌, ℕ, List}
use Rattle.std.specs.List.Sorted.{IsStrictlySortedBy}
use Rattle.std.specs.Option.{unwrap_or}
use Rattle.std.specs.Ordering.{nat_cmp}
use Rattle.std.specs.FinMap as map
use Rattle.mt_refs.specs.Graphs.{Edges, Graph, IsClosed, count}
use Rattle.mt_refs.specs.Patches.{overlaid}

-- a count that is kept beside the graph, or else the graph's
abbrev pub count_in : map.FinMap nat_cmp ℕ → Graph → ℕ → ℕ
count_in counts g n = unwrap_or (map.get counts n) (count g n)

abbrev pub laid : Graph → Edges → List ℕ → Graph
laid g lists pins = overlaid g (map.entries lists) pins

-- each count is exact, and no edge leads out
pub record IsLaid (g : Graph) (lists : Edges) (counts : map.FinMap nat_cmp ℕ) (pins : List ℕ) : Type 0 where
  pub ascending : IsStrictlySortedBy nat_cmp pins
  pub exact : (n : ℕ) → count_in counts g n ≡ count (laid g lists pins) n
  pub closed : IsClosed (laid g lists pins)
