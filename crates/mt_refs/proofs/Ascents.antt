-- Search in ascending numbers.
use Rattle.std.proofs.Common.{ℕ, ◌<◌, ◌≤◌, ◌≡◌, nat_eq, List, length, get_or, Result, Ok, Err, inl, inr, sym, subst, arith, ⊎_elim, eq-eqb}
use Rattle.std.specs.Bool.{Decides}
use Rattle.std.specs.List.{list_any}
use Rattle.std.specs.List.Sorted.{IsBinarySearchResult, IsStrictlySortedBy}
use Rattle.std.specs.Ordering.{nat_cmp}
use Rattle.std.specs.Result.{is_ok}
use Rattle.std.proofs.lemmas.Bool.{cases_Bool, cases_lt, eqb-true}
use Rattle.std.proofs.lemmas.List.Sorted.{searched}
use Rattle.std.proofs.lemmas.Map.Keys.{below_from_sorted}
use Rattle.mt_containers.proofs.Members.{any_contains, contains_any}
use Rattle.mt_refs.proofs.Rows.{in_range}

pub nat_decides : (a b : ℕ) → Decides (nat_eq a b) (a ≡ b)
nat_decides a b = (λ h. eqb-true a b h, λ h. eq-eqb a b h)

rises : (xs : List ℕ) → IsStrictlySortedBy nat_cmp xs → (i j : ℕ) → i ≤ j → j < length xs → get_or xs i 0 ≤ get_or xs j 0
rises xs h i j le inside = ⊎_elim
    (λ low. let l = below_from_sorted xs i j 0 h low inside in omega arith)
    (λ high. let e : i ≡ j = omega arith in subst (λ k. get_or xs i 0 ≤ get_or xs k 0) e (omega arith))
    (cases_lt i j)

-- an answer of a search in ascending numbers says whether the number is there
pub among : (xs : List ℕ) (x : ℕ) (r : Result ℕ ℕ) → IsStrictlySortedBy nat_cmp xs → IsBinarySearchResult (λ y. nat_cmp y x) xs r → is_ok r ≡ list_any (nat_eq x) xs
among xs x (Ok i) h s =
    let found = searched xs x (Ok i) s (rises xs h) in
    sym (contains_any nat_eq nat_decides xs x (i, found.0, sym (in_range xs i 0 x x found.0 (sym found.1))))
among xs x (Err i) h s = elim (cases_Bool (list_any (nat_eq x) xs)) [
  | inl t ↦
      let place = searched xs x (Err i) s (rises xs h) in
      let at = any_contains nat_eq nat_decides xs x t in
      let is : x ≡ get_or xs at.0 0 = in_range xs at.0 x 0 x at.1 (sym at.2) in
      ⊎_elim
      (λ low. let less = place.1 at.0 low in absurd (omega arith))
      (λ high. let more = place.2 at.0 high at.1 in absurd (omega arith))
      (cases_lt at.0 i)
  | inr f ↦ sym f
]
