-- What a graph is once lists are set and nodes are removed.
use Rattle.std.specs.Prelude.{ℕ, List, [], ◌∷◌, map as mapped, length, Option, Some, None}
use Rattle.std.specs.List.{sum_by}
use Rattle.std.specs.FinMap as map
use Rattle.mt_refs.specs.Lists.{targets_in}
use Rattle.mt_refs.specs.Graphs.{Edges, Graph}

-- the edges with another list at a node, or with none there
abbrev pub with_list : Edges → ℕ → Option (List ℕ) → Edges
with_list edges n None = map.remove edges n
with_list edges n (Some targets) = map.insert edges n targets

-- the edges without those of some nodes
abbrev pub removed : List ℕ → Edges → Edges
removed [] edges = edges
removed (n ∷ ns) edges = removed ns (with_list edges n None)

-- the edges with these lists set
abbrev pub filled : List (ℕ × List ℕ) → Edges → Edges
filled [] edges = edges
filled (s ∷ set) edges = with_list (filled set edges) s.0 (Some s.1)

abbrev pub nodes_of : List (ℕ × List ℕ) → List ℕ
nodes_of set = mapped (λ s. s.0) set

-- a sum over the lists that the nodes have before they are set
abbrev pub sum_now : (List ℕ → ℕ) → Edges → List (ℕ × List ℕ) → ℕ
sum_now f edges set = sum_by (λ s. f (targets_in (map.get edges s.0))) set

-- a sum over the lists that they get
abbrev pub sum_then : (List ℕ → ℕ) → List (ℕ × List ℕ) → ℕ
sum_then f set = sum_by (λ s. f s.1) set

-- how many edges the lists have
abbrev pub size_of : List (ℕ × List ℕ) → ℕ
size_of set = sum_then (λ targets. length targets) set

-- the graph with lists set, and with other pins
abbrev pub overlaid : Graph → List (ℕ × List ℕ) → List ℕ → Graph
overlaid g set pins = record { edges = filled set g.edges; pins = pins; spare = g.spare }

-- the graph with nodes removed, lists set, and with other pins
abbrev pub committed : Graph → List (ℕ × List ℕ) → List ℕ → List ℕ → Graph
committed g set pins dead = record { edges = filled set (removed dead g.edges); pins = pins; spare = g.spare }
