-- Entries that are distinct.
use Rattle.std.proofs.Common.{◌≡◌, ℕ, false, List, [], ◌∷◌}
use Rattle.std.specs.List.{IsDistinct}
use Rattle.std.specs.Str.{bytes_eq}

-- one path is distinct from no other
pub one_distinct : (p : List ℕ) → IsDistinct bytes_eq (p ∷ [])
unfolding IsDistinct
one_distinct p = (tt, tt)

-- two paths are distinct where they are not equal
pub two_distinct : (p q : List ℕ) → bytes_eq p q ≡ false → IsDistinct bytes_eq (p ∷ q ∷ [])
unfolding IsDistinct
two_distinct p q e = ((e, tt), (tt, tt))
