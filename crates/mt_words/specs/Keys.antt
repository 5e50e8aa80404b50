-- The keys of a map.
use Rattle.std.specs.Prelude.{ℕ, ◌≡◌, List, is_some}
use Rattle.std.specs.FinMap.{FinMap, get}
use Rattle.std.specs.Cmp.Lexicographic.{slice_cmp}
use Rattle.std.specs.Ordering.{nat_cmp}
use Rattle.std.specs.List.{list_any}
use Rattle.std.specs.Str.{bytes_eq}

-- the map has values under these keys alone
pub record HasKeys {X : Type 0} (m : FinMap (slice_cmp nat_cmp) X) (keys : List (List ℕ)) : Type 0 where
  pub at : (key : List ℕ) → is_some (get m key) ≡ list_any (bytes_eq key) keys
