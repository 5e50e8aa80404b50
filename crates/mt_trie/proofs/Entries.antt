-- The entries of a finite map from a key on.
use Rattle.std.proofs.Common.{◌≡◌, ◌∙◌, ℕ, ◌+◌, ◌<◌, ◌≤◌, Bool, true, false, T, cond, nat_eq, nat_le, List, [], ◌∷◌, filter, Option, Some, None, Ok, Err, refl, ap, sym, subst, arith}
use Rattle.std.proofs.Common.{Result}
use Rattle.std.specs.Result.{IfOk, MatchResult}
use Rattle.std.specs.Ordering.{nat_cmp, eq_by_cmp, is_lt}
use Rattle.std.specs.declared.cmp.Ordering.TheVariants.{Less}
use Rattle.std.specs.Cmp.{nat_cmp_total, ranked, unsigned_tied}
use Rattle.std.specs.FinMap.{FinMap, find, get, get-entries, entries, entries_sorted, remove, get-remove, same_map, nat_cmp-IsAntisymmetric}
use Rattle.std.specs.FinMap.Entries.{below_all, is_sorted}
use Rattle.std.specs.Option.{unwrap_or}
use Rattle.std.proofs.lemmas.Bool.Decides.{nat_tests}
use Rattle.mt_containers.proofs.Tables.{first_true, second_true, less_is}
use Rattle.mt_trie.specs.Tries.{entries_from}

pub ok_of_cases : {X E : Type 0} (P : X → Type 0) (Q : E → Type 0) (R : X → Type 0) (r : Result X E) → MatchResult r P Q → ((x : X) → P x → R x) → IfOk r R
ok_of_cases P Q R (Ok x) h f = f x h
ok_of_cases P Q R (Err e) h f = tt

some_is_none : {V : Type 0} {A : Type 0} (v : V) → Some v ≡ None → A
some_is_none v e = absurd (cc)

tied : (q : ℕ) (b : Bool) → nat_eq q q ≡ b → b ≡ true
tied q true e = refl
tied q false e = absurd (grind (arith, nat_tests))

same_key : (a b : ℕ) → eq_by_cmp nat_cmp a b ≡ true → a ≡ b
same_key a b e = let t : nat_eq a b ≡ true = sym (unsigned_tied a b) ∙ e in grind (arith, nat_tests)

nat_less : (a b : ℕ) → nat_cmp a b ≡ Less → a < b
nat_less a b e = ranked a b Less (sym e)

nat_less_is : (a b : ℕ) → T (is_lt (nat_cmp a b)) → a < b
nat_less_is a b h = nat_less a b (less_is (nat_cmp a b) h)

module _ {V : Type 0} where
  abbrev from : ℕ → List (ℕ × V) → List (ℕ × V)
  from key es = filter (λ e. nat_le key e.0) es

  -- what is not found in a list is not found in its rest
  rest_by : (b : Bool) (v : V) (o : Option V) → cond b (Some v) o ≡ None → o ≡ None
  rest_by true v o h = some_is_none v h
  rest_by false v o h = h

  rest_none : (q : ℕ) (e : ℕ × V) (es : List (ℕ × V)) → find nat_cmp q (e ∷ es) ≡ None → find nat_cmp q es ≡ None
  rest_none q e es h = rest_by (eq_by_cmp nat_cmp q e.0) e.1 (find nat_cmp q es) h

  not_first_by : (b : Bool) (v : V) (o : Option V) → b ≡ true → cond b (Some v) o ≡ None → ⊥
  not_first_by true v o e h = some_is_none v h
  not_first_by false v o e h = absurd (cc)

  first_none : (e : ℕ × V) (es : List (ℕ × V)) → find nat_cmp e.0 (e ∷ es) ≡ None → ⊥
  first_none e es h = not_first_by (eq_by_cmp nat_cmp e.0 e.0) e.1 (find nat_cmp e.0 es) (unsigned_tied e.0 e.0 ∙ tied e.0 _ refl) h

  -- where no key from one to another is found, the entries from both are the same
  gap_by : (key end k : ℕ) (v : V) (F G : List (ℕ × V)) (a b : Bool) → nat_le key k ≡ a → nat_le end k ≡ b → key ≤ end → (key ≤ k → k < end → ⊥) → F ≡ G → cond a ((k, v) ∷ F) F ≡ cond b ((k, v) ∷ G) G
  gap_by key end k v F G true true ha hb o h e = ap (λ z. (k, v) ∷ z) e
  gap_by key end k v F G true false ha hb o h e = absurd (h (grind (arith, nat_tests)) (grind (arith, nat_tests)))
  gap_by key end k v F G false true ha hb o h e = absurd (grind (arith, nat_tests))
  gap_by key end k v F G false false ha hb o h e = e

  gap_list : (key end : ℕ) (es : List (ℕ × V)) → key ≤ end → ((at : ℕ) → key ≤ at → at < end → find nat_cmp at es ≡ None) → from key es ≡ from end es
  gap_list key end [] o h = refl
  gap_list key end (e ∷ es) o h = gap_by key end e.0 e.1 (from key es) (from end es) (nat_le key e.0) (nat_le end e.0) refl refl o (λ a b. first_none e es (h e.0 a b)) (gap_list key end es o (λ at a b. rest_none at e es (h at a b)))

  pub entries_gap : (m : FinMap nat_cmp V) (key end : ℕ) → key ≤ end → ((at : ℕ) → key ≤ at → at < end → get m at ≡ None) → entries_from key m ≡ entries_from end m
  entries_gap m key end o h = gap_list key end (entries m) o (λ at a b. sym (get-entries m at) ∙ h at a b)

  -- where no key is found from one on, there is no entry from it on
  end_by : (key k : ℕ) (v : V) (F : List (ℕ × V)) (a : Bool) → nat_le key k ≡ a → (key ≤ k → ⊥) → F ≡ [] → cond a ((k, v) ∷ F) F ≡ []
  end_by key k v F true ha h e = absurd (h (grind (arith, nat_tests)))
  end_by key k v F false ha h e = e

  end_list : (key : ℕ) (es : List (ℕ × V)) → ((at : ℕ) → key ≤ at → find nat_cmp at es ≡ None) → from key es ≡ []
  end_list key [] h = refl
  end_list key (e ∷ es) h = end_by key e.0 e.1 (from key es) (nat_le key e.0) refl (λ a. first_none e es (h e.0 a)) (end_list key es (λ at a. rest_none at e es (h at a)))

  pub entries_end : (m : FinMap nat_cmp V) (key : ℕ) → ((at : ℕ) → key ≤ at → get m at ≡ None) → entries_from key m ≡ []
  entries_end m key h = end_list key (entries m) (λ at a. sym (get-entries m at) ∙ h at a)

  -- all keys of a list are above a key
  above : (key : ℕ) (es : List (ℕ × V)) → T (below_all nat_cmp key es) → from key es ≡ from (key + 1) es
  above key [] h = refl
  above key (e ∷ es) h = gap_by key (key + 1) e.0 e.1 (from key es) (from (key + 1) es) (nat_le key e.0) (nat_le (key + 1) e.0) refl refl (omega arith)
      (λ a b. absurd (omega (arith, nat_less_is key e.0 (first_true (is_lt (nat_cmp key e.0)) (below_all nat_cmp key es) h))))
      (above key es (second_true (is_lt (nat_cmp key e.0)) (below_all nat_cmp key es) h))

  found_by : (b : Bool) (key k below : ℕ) (v w : V) (o : Option V) → eq_by_cmp nat_cmp key k ≡ b → below < k → (o ≡ Some v → below < key) → cond b (Some w) o ≡ Some v → below < key
  found_by true key k below v w o e l h f = subst (λ n. below < n) (sym (same_key key k e)) l
  found_by false key k below v w o e l h f = h f

  -- a key that is found in a list is not below what all of it is above
  found_above : (key below : ℕ) (v : V) (es : List (ℕ × V)) → T (below_all nat_cmp below es) → find nat_cmp key es ≡ Some v → below < key
  found_above key below v [] h f = some_is_none v (sym f)
  found_above key below v (e ∷ es) h f = found_by (eq_by_cmp nat_cmp key e.0) key e.0 below v e.1 (find nat_cmp key es) refl (nat_less_is below e.0 (first_true (is_lt (nat_cmp below e.0)) (below_all nat_cmp below es) h))
      (found_above key below v es (second_true (is_lt (nat_cmp below e.0)) (below_all nat_cmp below es) h)) f

  kept_by : (key k : ℕ) (v w : V) (F G : List (ℕ × V)) (a b : Bool) → nat_le key k ≡ a → nat_le (key + 1) k ≡ b → key ≡ k → w ≡ v → F ≡ G → cond a ((k, w) ∷ F) F ≡ (key, v) ∷ cond b ((k, w) ∷ G) G
  kept_by key k v w F G true true ha hb e q f = absurd (grind (arith, nat_tests))
  kept_by key k v w F G true false ha hb e q f = λ i. (sym e i, q i) ∷ f i
  kept_by key k v w F G false b ha hb e q f = absurd (grind (arith, nat_tests))

  dropped_by : (key k : ℕ) (v w : V) (F G : List (ℕ × V)) (a b : Bool) → nat_le key k ≡ a → nat_le (key + 1) k ≡ b → k < key → F ≡ (key, v) ∷ G → cond a ((k, w) ∷ F) F ≡ (key, v) ∷ cond b ((k, w) ∷ G) G
  dropped_by key k v w F G true b ha hb l f = absurd (grind (arith, nat_tests))
  dropped_by key k v w F G false true ha hb l f = absurd (grind (arith, nat_tests))
  dropped_by key k v w F G false false ha hb l f = f

  some_inside : (v w : V) → Some w ≡ Some v → w ≡ v
  some_inside v w e = ap (λ o. unwrap_or o w) e

  hit_by : (b : Bool) (key : ℕ) (v : V) (e : ℕ × V) (es : List (ℕ × V)) → eq_by_cmp nat_cmp key e.0 ≡ b → T (below_all nat_cmp e.0 es) → (find nat_cmp key es ≡ Some v → from key es ≡ (key, v) ∷ from (key + 1) es)
      → cond b (Some e.1) (find nat_cmp key es) ≡ Some v → from key (e ∷ es) ≡ (key, v) ∷ from (key + 1) (e ∷ es)
  hit_by true key v e es t o h f =
      let same : key ≡ e.0 = same_key key e.0 t in
      kept_by key e.0 v e.1 (from key es) (from (key + 1) es) (nat_le key e.0) (nat_le (key + 1) e.0) refl refl same (some_inside v e.1 f) (above key es (subst (λ n. T (below_all nat_cmp n es)) (sym same) o))
  hit_by false key v e es t o h f = dropped_by key e.0 v e.1 (from key es) (from (key + 1) es) (nat_le key e.0) (nat_le (key + 1) e.0) refl refl (found_above key e.0 v es o f) (h f)

  hit_list : (key : ℕ) (v : V) (es : List (ℕ × V)) → T (is_sorted nat_cmp es) → find nat_cmp key es ≡ Some v → from key es ≡ (key, v) ∷ from (key + 1) es
  hit_list key v [] s h = some_is_none v (sym h)
  hit_list key v (e ∷ es) s h = hit_by (eq_by_cmp nat_cmp key e.0) key v e es refl (first_true (below_all nat_cmp e.0 es) (is_sorted nat_cmp es) s) (hit_list key v es (second_true (below_all nat_cmp e.0 es) (is_sorted nat_cmp es) s)) h

  pub entries_hit : (m : FinMap nat_cmp V) (key : ℕ) (v : V) → get m key ≡ Some v → entries_from key m ≡ (key, v) ∷ entries_from (key + 1) m
  entries_hit m key v h = hit_list key v (entries m) (entries_sorted m) (sym (get-entries m key) ∙ h)

  -- from 0 on there are all
  all_by : (k : ℕ) (v : V) (F : List (ℕ × V)) (a : Bool) → nat_le 0 k ≡ a → cond a ((k, v) ∷ F) F ≡ (k, v) ∷ F
  all_by k v F true e = refl
  all_by k v F false e = absurd (grind (arith, nat_tests))

  all_list : (es : List (ℕ × V)) → from 0 es ≡ es
  all_list [] = refl
  all_list (e ∷ es) = all_by e.0 e.1 (from 0 es) (nat_le 0 e.0) refl ∙ ap (λ z. e ∷ z) (all_list es)

  pub entries_all : (m : FinMap nat_cmp V) → entries_from 0 m ≡ entries m
  entries_all m = all_list (entries m)

  -- to remove what is not there changes nothing
  absent_by : (e : Bool) (o : Option V) → (e ≡ true → o ≡ None) → cond e None o ≡ o
  absent_by true o h = sym (h refl)
  absent_by false o h = refl

  pub remove_absent : (m : FinMap nat_cmp V) (key : ℕ) → get m key ≡ None → m ≡ remove m key
  remove_absent m key h = sym (same_map nat_cmp_total nat_cmp-IsAntisymmetric _ _ (λ q. get-remove nat_cmp_total m key q ∙ absent_by (eq_by_cmp nat_cmp q key) (get m q) (λ e. ap (get m) (same_key q key e) ∙ h)))
