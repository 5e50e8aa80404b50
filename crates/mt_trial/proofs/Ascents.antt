-- Sums over ascending numbers.
use Rattle.std.proofs.Common.{ℕ, ◌<◌, ◌≤◌, ◌≡◌, List, [], ◌∷◌, inl, inr, ap, sym, arith}
use Rattle.std.specs.List.{AllByRecursion, Contains, sum_by}
use Rattle.std.specs.List.Sorted.{IsStrictlySortedBy}
use Rattle.std.specs.Ordering.{nat_cmp}
use Rattle.std.specs.Cmp.{ranked}
use Rattle.std.specs.declared.cmp.Ordering.TheVariants.{Less}
use Rattle.std.proofs.lemmas.List.Sums.{sum_by-cons}
use Rattle.std.proofs.lemmas.List.Elements.{All-contains, All-from_recursion}
use Rattle.mt_containers.proofs.Members.{contains_cases, contains_head, contains_none, contains_tail}

-- the numbers after the first are above it
above : (k n : ℕ) (ks : List ℕ) → AllByRecursion (λ y. nat_cmp k y ≡ Less) ks → Contains ks n → k < n
above k n ks h w = ranked k n Less (sym (All-contains (λ y. nat_cmp k y ≡ Less) ks n (All-from_recursion (λ y. nat_cmp k y ≡ Less) ks h) w))

-- a sum over ascending numbers is at most that over ascending numbers that have them all
pub sum_le : (h : ℕ → ℕ) (ks ms : List ℕ) → IsStrictlySortedBy nat_cmp ks → IsStrictlySortedBy nat_cmp ms → ((n : ℕ) → Contains ks n → Contains ms n) → sum_by h ks ≤ sum_by h ms
unfolding IsStrictlySortedBy
sum_le h [] ms a b inside = omega arith
sum_le h (k ∷ ks) [] a b inside = absurd (contains_none k (inside k (contains_head k ks)))
sum_le h (k ∷ ks) (m ∷ ms) a b inside =
    let left = sum_by-cons h k ks in
    let right = sum_by-cons h m ms in
    elim (contains_cases m k ms (inside k (contains_head k ks))) [
      | inl e ↦
          let same : h m ≡ h k = ap h e in
          let rest = sum_le h ks ms a.1 b.1 (λ n w. elim (contains_cases m n ms (inside n (contains_tail k n ks w))) [
            | inl s ↦ let low = above k n ks a.0 w in absurd (omega arith)
            | inr t ↦ t
          ]) in
          omega arith
      | inr t ↦
          let low = above m k ms b.0 t in
          let rest = sum_le h (k ∷ ks) ms a b.1 (λ n w. elim (contains_cases m n ms (inside n w)) [
            | inl s ↦ elim (contains_cases k n ks w) [
              | inl is ↦ absurd (omega arith)
              | inr more ↦ let high = above k n ks a.0 more in absurd (omega arith)
            ]
            | inr more ↦ more
          ]) in
          omega arith
    ]
