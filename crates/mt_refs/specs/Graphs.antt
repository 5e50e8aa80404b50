-- Graphs as plain data.
use Rattle.std.specs.Prelude.{ℕ, ◌+◌, ◌<◌, cond, nat_eq, List, length, IsTrue}
use Rattle.std.specs.List.{All, sum_by, list_any}
use Rattle.std.specs.Ordering.{nat_cmp}
use Rattle.std.specs.FinMap as map
use Rattle.std.specs.Coded.{Coded, code_by, coded×, coded_list, coded_ℕ}
use mathlib.Core.Path.{refl}
use Rattle.mt_refs.specs.Lists.{times, targets_in}

-- the live nodes with the lists of their edges
abbrev pub Edges : Type 0
Edges = map.FinMap nat_cmp (List ℕ)

-- a graph: its edges, its pinned nodes, and for how many numbers there is room
pub record Graph : Type 0 where
  pub edges : Edges
  pub pins : List ℕ
  pub spare : ℕ

abbrev pub coded_graph : Coded Graph
coded_graph = code_by (Edges × (List ℕ × ℕ))
    (coded× (map.code coded_ℕ (coded_list coded_ℕ)) (coded× (coded_list coded_ℕ) coded_ℕ))
    (λ g. (g.edges, (g.pins, g.spare)))
    (λ p. record { edges = p.0; pins = p.1.0; spare = p.1.1 })
    (λ _. refl)

abbrev pub IsLive : Graph → ℕ → Type 0
IsLive g n = IsTrue (map.contains_key g.edges n)

-- the targets of a node's edges, none where it isn't live
abbrev pub edges_from : Graph → ℕ → List ℕ
edges_from g n = targets_in (map.get g.edges n)

-- a sum over the lists of the live nodes
abbrev pub sum_lists : (List ℕ → ℕ) → Edges → ℕ
sum_lists f edges = sum_by (λ e. f e.1) (map.entries edges)

-- how many edges lead from live nodes to a node, and one more where it is pinned
abbrev pub count : Graph → ℕ → ℕ
count g n = sum_lists (times n) g.edges + cond (list_any (nat_eq n) g.pins) 1 0

-- how many edges there are
abbrev pub edge_total : Edges → ℕ
edge_total edges = sum_lists (λ targets. length targets) edges

-- each edge leads to a live node, and each pin is live
pub record IsClosed (g : Graph) : Type 0 where
  pub edges : (n : ℕ) → All (IsLive g) (edges_from g n)
  pub pins : All (IsLive g) g.pins

-- a graph that is closed, and that has room for each live node
pub record IsSound (g : Graph) : Type 0 where
  pub closed : IsClosed g
  pub below : (n : ℕ) → IsLive g n → n < g.spare
