-- Sets of paths.
use Rattle.std.specs.Prelude.{ℕ, List}
use Rattle.std.specs.List.{fold}
use Rattle.std.specs.Ordering.{nat_cmp}
use Rattle.std.specs.Cmp.Lexicographic.{slice_cmp}
use Rattle.std.specs.FinMap.{FinMap, insert}

-- a set of paths
abbrev pub Paths : Type 0
Paths = FinMap (slice_cmp nat_cmp) (Unit {0})

-- a set of paths with one more
abbrev pub with_path : Paths → List ℕ → Paths
with_path paths path = insert paths path tt

-- a set of paths with more of them
abbrev pub with_paths : Paths → List (List ℕ) → Paths
with_paths paths more = fold with_path paths more
