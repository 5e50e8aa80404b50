-- A graph by rows.
use Rattle.std.specs.Prelude.{◌≡◌, ℕ, ◌+◌, ◌<◌, ◌≤◌, ◌^◌, List, [], ◌∷◌, length, Option, None, Some, slice_index}
use Rattle.std.specs.List.{sum_by, slice_index_or}
use Rattle.std.specs.List.Sorted.{IsStrictlySortedBy}
use Rattle.std.specs.Ordering.{nat_cmp}
use Rattle.std.specs.FinMap as map
use Rattle.mt_refs.specs.Lists.{times, targets_in}
use Rattle.mt_refs.specs.Graphs.{Edges, Graph}

-- how many edges of the rows lead to a number
abbrev pub into : ℕ → List (Option (List ℕ)) → ℕ
into n lists = sum_by (λ list. times n (targets_in list)) lists

-- how many edges the rows have
abbrev pub size : List (Option (List ℕ)) → ℕ
size lists = sum_by (λ list. length (targets_in list)) lists

-- the list of a row, if it has one
abbrev pub list_at : List (Option (List ℕ)) → ℕ → Option (List ℕ)
list_at lists n = slice_index_or lists n None

abbrev pub entry_before : ℕ → Option (List ℕ) → List (ℕ × List ℕ) → List (ℕ × List ℕ)
entry_before n None entries = entries
entry_before n (Some targets) entries = (n, targets) ∷ entries

-- the entries of the rows from n on
abbrev pub entries_from : ℕ → List (Option (List ℕ)) → List (ℕ × List ℕ)
entries_from n [] = []
entries_from n (list ∷ lists) = entry_before n list (entries_from (n + 1) lists)

abbrev pub edges_of : List (Option (List ℕ)) → Edges
edges_of lists = map.from_sorted (entries_from 0 lists)

abbrev pub graph_of : List (Option (List ℕ)) → List ℕ → ℕ → Graph
graph_of lists pins spare = record { edges = edges_of lists; pins = pins; spare = spare }

-- each count is exact, for numbers past the rows too: no edge leads there
pub record IsKept (lists : List (Option (List ℕ))) (counts : List ℕ) (pins : List ℕ) (spare : ℕ) : Type 0 where
  pub roomy : spare ≤ length lists
  pub above : (n : ℕ) → spare ≤ n → list_at lists n ≡ None
  pub counted : length lists ≤ length counts
  pub ascending : IsStrictlySortedBy nat_cmp pins
  pub small : size lists + 1 < 2 ^ 32
  pub exact : (n : ℕ) → slice_index counts n ≡ into n lists + times n pins
