-- Graphs by the lists of their live nodes.
use Rattle.std.specs.Prelude.{◌≡◌, ℕ, List, IsTrue}
use Rattle.std.specs.List.{All}
use Rattle.std.specs.Option.{option_or}
use Rattle.std.specs.FinMap as map
use Rattle.mt_containers.specs.Walks.{IsReached}
use Rattle.mt_refs.specs.Lists.{targets_in}
use Rattle.mt_refs.specs.Graphs.{Edges, Graph}

-- the graph of these lists and pins
abbrev pub shown : Edges → List ℕ → ℕ → Graph
shown edges pins spare = record { edges = edges; pins = pins; spare = spare }

-- each of some nodes has a list
abbrev pub AreInside : Edges → List ℕ → Type 0
AreInside edges nodes = All (λ n. IsTrue (map.contains_key edges n)) nodes

-- the lists that are changed, and the others as they are
abbrev pub IsMerged : Edges → Edges → Edges → Type 0
IsMerged merged change edges = (n : ℕ) → map.get merged n ≡ option_or (map.get change n) (map.get edges n)

-- the targets of a node's edges, by the lists
abbrev pub targets_by : Edges → ℕ → List ℕ
targets_by edges n = targets_in (map.get edges n)

-- each node that no walk from a pin reaches is reached from a candidate
abbrev pub IsCovered : Edges → List ℕ → List ℕ → Type 0
IsCovered edges pins candidates = (n : ℕ) → IsTrue (map.contains_key edges n) → (IsReached (targets_by edges) pins n → ⊥) → IsReached (targets_by edges) candidates n
