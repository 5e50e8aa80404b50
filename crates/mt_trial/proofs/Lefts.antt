-- Counts that are kept beside a graph, one changed.
use Rattle.std.proofs.Common.{ℕ, ◌+◌, ◌<◌, ◌≤◌, ◌≡◌, ◌||◌, Bool, true, false, cond, nat_eq, List, [], ◌∷◌, ◌++◌, Option, Some, inl, inr, ◌⊎◌, ⊎_elim, ap, sym, refl, ◌∙◌, arith}
use Rattle.std.specs.List.{Contains, list_any}
use Rattle.std.specs.List.Sorted.{IsStrictlySortedBy}
use Rattle.std.specs.Option.{unwrap_or}
use Rattle.std.specs.Ordering.{nat_cmp, eq_by_cmp}
use Rattle.std.specs.Cmp.{nat_cmp_total}
use Rattle.std.specs.FinMap.{FinMap, empty, get, get-empty, get-insert, insert}
use Rattle.std.proofs.lemmas.Bool.{cases_Bool, cases_lt, false≢true}
use Rattle.std.proofs.lemmas.List.Folds.{list_any-append}
use Rattle.mt_containers.proofs.Members.{contains_any}
use Rattle.mt_refs.specs.Lists.{times}
use Rattle.mt_refs.specs.Graphs.{Graph, count, edges_from}
use Rattle.mt_refs.proofs.Ascents.{nat_decides}
use Rattle.mt_refs.proofs.Laid.{none, one, tie}
use Rattle.mt_trial.specs.Deaths.{inner, left_at}
use Rattle.mt_trial.proofs.Outers.{counted_contains, outer_and_inner}

chosen : (b : Bool) (x : ℕ) (o : Option ℕ) → unwrap_or (cond b (Some x) o) 0 ≡ cond b x (unwrap_or o 0)
chosen true x o = refl
chosen false x o = refl

left_insert : (counts : FinMap nat_cmp ℕ) (t x n : ℕ) → left_at (insert counts t x) n ≡ cond (eq_by_cmp nat_cmp n t) x (left_at counts n)
left_insert counts t x n = ap (λ o. unwrap_or o 0) (get-insert nat_cmp_total counts t x n) ∙ chosen (eq_by_cmp nat_cmp n t) x (get counts n)

pub left_empty : (n : ℕ) → left_at empty n ≡ 0
left_empty n = ap (λ o. unwrap_or o 0) (get-empty nat_cmp n)

pub lowered : (counts : FinMap nat_cmp ℕ) (t x n : ℕ) → x + 1 ≡ left_at counts t → left_at (insert counts t x) n + cond (nat_eq n t) 1 0 ≡ left_at counts n
lowered counts t x n is = elim (tie n t) [
  | inl s ↦
      let new : left_at (insert counts t x) n ≡ x = left_insert counts t x n ∙ ap (λ b. cond b x (left_at counts n)) s.1.0 in
      let old : left_at counts n ≡ left_at counts t = ap (left_at counts) s.0 in
      let more = one (nat_eq n t) s.1.1 in
      omega arith
  | inr a ↦
      let new : left_at (insert counts t x) n ≡ left_at counts n = left_insert counts t x n ∙ ap (λ b. cond b x (left_at counts n)) a.0 in
      let more = none (nat_eq n t) a.1 in
      omega arith
]

either_true : (a : Bool) → (a || (true || false)) ≡ true
either_true true = refl
either_true false = refl

either_false : (a : Bool) → (a || (false || false)) ≡ a
either_false true = refl
either_false false = refl

-- one node more has its count
pub counted : (g : Graph) (counts : FinMap nat_cmp ℕ) (xs : List ℕ) (t n : ℕ) → left_at counts n ≡ cond (list_any (nat_eq n) xs) (count g n) 0 → left_at (insert counts t (count g t)) n ≡ cond (list_any (nat_eq n) (xs ++ t ∷ [])) (count g n) 0
counted g counts xs t n is =
    let more : list_any (nat_eq n) (xs ++ t ∷ []) ≡ (list_any (nat_eq n) xs || (nat_eq n t || false)) = list_any-append (nat_eq n) xs (t ∷ []) in
    left_insert counts t (count g t) n
    ∙ elim (tie n t) [
      | inl s ↦
          ap (λ b. cond b (count g t) (left_at counts n)) s.1.0
          ∙ sym (ap (count g) s.0)
          ∙ sym (ap (λ b. cond b (count g n) 0) (more ∙ ap (λ b. list_any (nat_eq n) xs || (b || false)) s.1.1 ∙ either_true (list_any (nat_eq n) xs)))
      | inr a ↦
          ap (λ b. cond b (count g t) (left_at counts n)) a.0
          ∙ is
          ∙ sym (ap (λ b. cond b (count g n) 0) (more ∙ ap (λ b. list_any (nat_eq n) xs || (b || false)) a.1 ∙ either_false (list_any (nat_eq n) xs)))
    ]

cases_zero : (k : ℕ) → (k ≡ 0) ⊎ (0 < k)
cases_zero k = ⊎_elim (λ more. inr more) (λ most. inl (omega arith)) (cases_lt 0 k)

-- a count has the edges from a node that is still to come
pub edges_left : (g : Graph) (nodes : List ℕ) (n x so_far left : ℕ) → IsStrictlySortedBy nat_cmp nodes → (Contains (edges_from g x) n → Contains nodes n)
    → left + so_far ≡ cond (list_any (nat_eq n) nodes) (count g n) 0 → so_far + times n (edges_from g x) ≤ inner g n nodes → times n (edges_from g x) ≤ left
edges_left g nodes n x so_far left sorted closed is more =
    let parts = outer_and_inner g n nodes sorted in
    elim (cases_Bool (list_any (nat_eq n) nodes)) [
      | inl t ↦ let all : left + so_far ≡ count g n = is ∙ ap (λ b. cond b (count g n) 0) t in omega arith
      | inr f ↦ elim (cases_zero (times n (edges_from g x))) [
        | inl zero ↦ omega arith
        | inr some ↦ absurd (false≢true (sym f ∙ contains_any nat_eq nat_decides nodes n (closed (counted_contains n (edges_from g x) some))))
      ]
    ]
