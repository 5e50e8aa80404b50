-- The keys of a map that grows with a list.
use Rattle.std.proofs.Common.{◌≡◌, ◌∙◌, ℕ, List, [], ◌∷◌, ◌++◌, Bool, true, false, ◌||◌, cond, Option, Some, is_some, refl, ap, sym}
use Rattle.std.specs.FinMap.{FinMap, get, insert, empty, get-insert, get-empty}
use Rattle.std.specs.Cmp.Lexicographic.{slice_cmp, nat_list_cmp_total}
use Rattle.std.specs.Ordering.{eq_by_cmp, nat_cmp}
use Rattle.std.specs.List.{list_any}
use Rattle.std.specs.Str.{bytes_eq}
use Rattle.std.proofs.lemmas.List.{map-append}
use Rattle.std.proofs.lemmas.List.Folds.{list_any-append}
use Rattle.std.proofs.lemmas.Map.Text.{is_eq-slice_cmp}
use Rattle.mt_words.specs.Keys.{HasKeys}
use Rattle.mt_words.specs.Fronts.{entries, names}
use Rattle.mt_words.specs.declared.table.Usage.{Usage}
use Rattle.mt_words.specs.declared.table.Usage.TheVariants.{Build, Replay, Grow}

or_false : (b : Bool) → (b || false) ≡ b
or_false true = refl
or_false false = refl

-- a test of one more
pub any_more : (p : List ℕ → Bool) (xs : List (List ℕ)) (x : List ℕ) → list_any p (xs ++ x ∷ []) ≡ (list_any p xs || p x)
any_more p xs x = list_any-append p xs (x ∷ []) ∙ ap (λ b. list_any p xs || b) (or_false (p x))

module _ {X : Type 0} where
  one_more : (a b : Bool) (o : Option X) (v : X) → is_some o ≡ a → is_some (cond b (Some v) o) ≡ (a || b)
  one_more true true o v h = refl
  one_more false true o v h = refl
  one_more true false o v h = h
  one_more false false o v h = h

  -- no key
  pub keys_none : HasKeys (empty {X = X} {R = slice_cmp nat_cmp}) []
  keys_none = record { at = λ key. ap is_some (get-empty (slice_cmp nat_cmp) key) }

  -- one more key
  pub keys_more : (m : FinMap (slice_cmp nat_cmp) X) (keys : List (List ℕ)) (key : List ℕ) (v : X) → HasKeys m keys → HasKeys (insert m key v) (keys ++ key ∷ [])
  keys_more m keys key v h = record {
    at = λ q.
        ap is_some (get-insert nat_list_cmp_total m key v q)
        ∙ one_more (list_any (bytes_eq q) keys) (eq_by_cmp (slice_cmp nat_cmp) q key) (get m q) v (h.at q)
        ∙ ap (λ b. list_any (bytes_eq q) keys || b) (is_eq-slice_cmp q key)
        ∙ sym (any_more (bytes_eq q) keys key);
  }

  -- one more name
  pub given_more : (m n : FinMap (slice_cmp nat_cmp) X) (key name value : List ℕ) (v : X) (os ps : List (List ℕ × List ℕ)) → HasKeys m (names os) → n ≡ insert m key v → key ≡ name → ps ≡ os ++ (name, value) ∷ [] → HasKeys n (names ps)
  given_more m n key name value v os ps h e k p =
      let more = keys_more m (names os) name v h in
      let same : names ps ≡ names os ++ name ∷ [] = ap names p ∙ map-append (λ (o : List ℕ × List ℕ). o.0) os ((name, value) ∷ []) in
      let made : n ≡ insert m name v = e ∙ ap (λ q. insert m q v) k in
      rw (made, same) more

  -- no name
  pub no_names : (m : FinMap (slice_cmp nat_cmp) X) (os : List (List ℕ × List ℕ)) → m ≡ empty → os ≡ [] → HasKeys m (names os)
  no_names m os e h = rw (e, h) keys_none

  -- no entry
  pub no_entries : (m : FinMap (slice_cmp nat_cmp) X) (u : Usage) (ws : List (List ℕ)) → m ≡ empty → ws ≡ [] → HasKeys m (entries u ws)
  no_entries m Build ws e h = rw (e, h) keys_none
  no_entries m Replay ws e h = rw (e, h) keys_none
  no_entries m Grow ws e h = rw e keys_none
