-- Sets of numbers, and sums over them.
use Rattle.std.proofs.Common.{ℕ, ◌+◌, ◌≡◌, cond, List, [], ◌∷◌, map as mapped, Some, None, is_some, ap, sym, refl, ◌∙◌, length, arith}
use Rattle.std.specs.List.{Contains, sum_by}
use Rattle.std.specs.Bool.{IsTrue}
use Rattle.std.specs.Ordering.{nat_cmp, eq_by_cmp, is_eq}
use Rattle.std.specs.Cmp.{nat_cmp_total}
use Rattle.std.specs.declared.cmp.Ordering.TheVariants.{Less, Equal, Greater}
use Rattle.std.specs.FinMap.{FinMap, contains_key, contains_key-keys, empty, entries, entries-insert, find, get, get-entries, insert, keys, len-empty, len-entries, put, nat_cmp-IsAntisymmetric}
use Rattle.std.specs.FinMap.Entries.{by_order}
use Rattle.std.proofs.lemmas.Bool.{false≢true}
use Rattle.std.proofs.lemmas.List.Sums.{sum_by-cons}
use Rattle.mt_containers.proofs.Members.{any_contains, contains_any, tie_decides}

no_entries : {Y : Type 0} (es : List Y) → length es ≡ 0 → es ≡ []
no_entries [] e = refl
no_entries (x ∷ es) e = absurd (omega arith)

module _ {X : Type 0} where
  pub keys_empty : (m : FinMap nat_cmp X) → m ≡ empty → keys m ≡ []
  keys_empty m is = ap keys is ∙ ap (mapped (λ (e : ℕ × X). e.0)) (no_entries (entries (empty {X = X} {R = nat_cmp})) (sym (len-entries (empty {X = X} {R = nat_cmp})) ∙ len-empty nat_cmp X))

  pub key_contains : (m : FinMap nat_cmp X) (q : ℕ) → Contains (keys m) q → IsTrue (contains_key m q)
  key_contains m q h = contains_key-keys m q ∙ contains_any (eq_by_cmp nat_cmp) (tie_decides nat_cmp_total nat_cmp-IsAntisymmetric) (keys m) q h

  pub contains_of_key : (m : FinMap nat_cmp X) (q : ℕ) → IsTrue (contains_key m q) → Contains (keys m) q
  contains_of_key m q h = any_contains (eq_by_cmp nat_cmp) (tie_decides nat_cmp_total nat_cmp-IsAntisymmetric) (keys m) q (sym (contains_key-keys m q) ∙ h)

  -- a sum over the keys with a new one
  put_sum : (h : ℕ → ℕ) (k : ℕ) (v : X) (es : List (ℕ × X)) → find nat_cmp k es ≡ None → sum_by h (mapped (λ e. e.0) (put nat_cmp k v es)) ≡ sum_by h (mapped (λ e. e.0) es) + h k
  put_sum h k v [] none = let one = sum_by-cons h k [] in omega arith
  put_sum h k v (e ∷ es) none =
      let whole = sum_by-cons h e.0 (mapped (λ (e : ℕ × X). e.0) es) in
      elim (nat_cmp k e.0) as (λ r. cond (is_eq r) (Some e.1) (find nat_cmp k es) ≡ None → sum_by h (mapped (λ (e : ℕ × X). e.0) (by_order r ((k, v) ∷ e ∷ es) ((e.0, v) ∷ es) (e ∷ put nat_cmp k v es))) ≡ sum_by h (mapped (λ (e : ℕ × X). e.0) (e ∷ es)) + h k) [
        | Less ↦ λ f. let more = sum_by-cons h k (mapped (λ (e : ℕ × X). e.0) (e ∷ es)) in omega arith
        | Equal ↦ λ f. absurd (false≢true (ap is_some (sym f)))
        | Greater ↦ λ f. let rest = put_sum h k v es f in let more = sum_by-cons h e.0 (mapped (λ (e : ℕ × X). e.0) (put nat_cmp k v es)) in omega arith
      ] none

  pub sum_insert : (h : ℕ → ℕ) (m : FinMap nat_cmp X) (k : ℕ) (v : X) → get m k ≡ None → sum_by h (keys (insert m k v)) ≡ sum_by h (keys m) + h k
  sum_insert h m k v none = ap (λ es. sum_by h (mapped (λ e. e.0) es)) (entries-insert nat_cmp_total m k v) ∙ put_sum h k v (entries m) (sym (get-entries m k) ∙ none)
