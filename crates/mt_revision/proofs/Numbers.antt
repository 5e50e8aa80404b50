-- The number of a path, and the path with a number.
use Rattle.std.proofs.Common.{◌≡◌, ◌+◌, ◌∙◌, ℕ, zero, suc, Bool, true, false, not, ◌||◌, cond, List, [], ◌∷◌, slice_get, Some, refl, ap, sym, arith}
use Rattle.std.specs.List.{IsDistinct, AllByRecursion}
use Rattle.std.specs.Str.{bytes_eq}
use Rattle.std.proofs.lemmas.Map.Keys.{IsDistinct-head, IsDistinct-tail}
use Rattle.std.proofs.lemmas.Cmp.{nat_list_eq_equiv}
use Rattle.mt_files.proofs.PathLists.{has_self, same_path}
use Rattle.mt_revision.specs.Numberings.{has_path, number_in}

one_more : (n : ℕ) → 1 + n ≡ suc n
one_more n = omega arith

path_by :
    (x : List ℕ) (xs : List (List ℕ)) (path : List ℕ) (here : Bool) → bytes_eq path x ≡ here → (here || has_path xs path) ≡ true → (has_path xs path ≡ true → slice_get xs (number_in xs path) ≡ Some path)
    → slice_get (x ∷ xs) (cond (not here) (1 + number_in xs path) 0) ≡ Some path
path_by x xs path true e h k = ap Some (sym (same_path path x e))
path_by x xs path false e h k = ap (slice_get (x ∷ xs)) (one_more (number_in xs path)) ∙ k h

-- under the number of a path is this path
pub path_with_number : (paths : List (List ℕ)) (path : List ℕ) → has_path paths path ≡ true → slice_get paths (number_in paths path) ≡ Some path
path_with_number [] path h = cc
path_with_number (x ∷ xs) path h = path_by x xs path (bytes_eq path x) refl h (path_with_number xs path)

-- paths with one number are one path
pub path_of_number : (paths : List (List ℕ)) (p q : List ℕ) → has_path paths p ≡ true → has_path paths q ≡ true → number_in paths p ≡ number_in paths q → p ≡ q
path_of_number paths p q h k e =
    let a = path_with_number paths p h in
    let b = path_with_number paths q k in
    let c : slice_get paths (number_in paths p) ≡ slice_get paths (number_in paths q) = ap (slice_get paths) e in
    let d : Some p ≡ Some q = sym a ∙ c ∙ b in
    cc

not_first : (x q : List ℕ) (xs : List (List ℕ)) (i : ℕ) → AllByRecursion (λ y. bytes_eq x y ≡ false) xs → slice_get xs i ≡ Some q → bytes_eq x q ≡ false
not_first x q [] i h e = cc
not_first x q (y ∷ ys) zero h e = let is : y ≡ q = cc in ap (bytes_eq x) (sym is) ∙ h.0
not_first x q (y ∷ ys) (suc i) h e = not_first x q ys i h.1 e

number_by : (x q : List ℕ) (xs : List (List ℕ)) (i : ℕ) → bytes_eq q x ≡ false → number_in xs q ≡ i → number_in (x ∷ xs) q ≡ suc i
number_by x q xs i e h = ap (λ b. cond (not b) (1 + number_in xs q) 0) e ∙ one_more (number_in xs q) ∙ ap suc h

zero_by : (x q : List ℕ) (xs : List (List ℕ)) → bytes_eq q x ≡ true → number_in (x ∷ xs) q ≡ 0
zero_by x q xs e = ap (λ b. cond (not b) (1 + number_in xs q) 0) e

-- the number of the path at a place is that place, where no path has two
pub number_at_place : (paths : List (List ℕ)) (i : ℕ) (q : List ℕ) → IsDistinct bytes_eq paths → slice_get paths i ≡ Some q → number_in paths q ≡ i
number_at_place [] i q d e = cc
number_at_place (x ∷ xs) zero q d e = let is : x ≡ q = cc in zero_by x q xs (ap (bytes_eq q) is ∙ has_self q)
number_at_place (x ∷ xs) (suc i) q d e = number_by x q xs i (nat_list_eq_equiv.symm q x ∙ not_first x q xs i (IsDistinct-head bytes_eq x xs d) e) (number_at_place xs i q (IsDistinct-tail bytes_eq x xs d) e)
