-- What is dead, and what it takes to find it.
use Rattle.std.specs.Prelude.{ℕ, ◌+◌, ◌≡◌, ◌↔◌, List, filter, not, length}
use Rattle.std.specs.Bool.{IsTrue}
use Rattle.std.specs.List.{sum_by}
use Rattle.std.specs.Option.{unwrap_or}
use Rattle.std.specs.Ordering.{nat_cmp}
use Rattle.std.specs.FinMap as map
use Rattle.mt_containers.specs.Walks.{IsReached}
use Rattle.mt_refs.specs.Lists.{times}
use Rattle.mt_refs.specs.Graphs.{Graph, IsLive, edges_from}

-- a live node that no walk from a pinned node reaches
abbrev pub IsDead : Graph → ℕ → Type 0
IsDead g n = IsLive g n × (IsReached (edges_from g) g.pins n → ⊥)

-- the nodes of a list that a set of just what some nodes reach lacks
pub record IsRest (g : Graph) (holding nodes rest : List ℕ) : Type 0 where
  pub kept : map.FinMap nat_cmp Unit
  pub exact : (n : ℕ) → IsTrue (map.contains_key kept n) ↔ IsReached (edges_from g) holding n
  pub same : rest ≡ filter (λ n. not (map.contains_key kept n)) nodes

-- one for each of some nodes, and one for each edge from them
abbrev pub reads_of : Graph → List ℕ → ℕ
reads_of g nodes = sum_by (λ n. length (edges_from g n) + 1) nodes

-- how many edges lead from some nodes to a node
abbrev pub inner : Graph → ℕ → List ℕ → ℕ
inner g n nodes = sum_by (λ m. times n (edges_from g m)) nodes

-- the count that is kept of a node, 0 where there is none
abbrev pub left_at : map.FinMap nat_cmp ℕ → ℕ → ℕ
left_at counts n = unwrap_or (map.get counts n) 0
