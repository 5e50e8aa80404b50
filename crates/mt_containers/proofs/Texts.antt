-- A map by keys that have texts, seen as the finite map by these texts.
use Rattle.std.proofs.Common.{◌≡◌, ◌∙◌, ℕ, List, [], ◌∷◌, map, length, cond, true, false, Option, Some, None, refl, ap, sym}
use Rattle.std.specs.List.{All, AllByRecursion, AllZip, slice_get}
use Rattle.std.specs.List.Sorted.{IsStrictlySortedBy}
use Rattle.std.specs.Option.{IfSome, IfNone, option_map}
use Rattle.std.specs.Ordering.{nat_cmp, is_eq, eq_by_cmp, match_ordering}
use Rattle.std.specs.Cmp.{alike_right, eq_by_cmp_equiv, tied_itself}
use Rattle.std.specs.Cmp.Lexicographic.{slice_cmp, nat_list_cmp_total}
use Rattle.std.specs.BTreeMap as tree
use Rattle.std.specs.BTreeMap.{BTreeMap, Updates, is_at, insert_entry}
use Rattle.std.specs.Map.{lookup, remove_entry}
use Rattle.std.specs.FinMap as fin
use Rattle.std.specs.FinMap.{FinMap, find, put, from_entries, get-from_entries, entries-insert, get-remove, same_map, same_entries_map}
use Rattle.std.specs.FinMap.Entries.{by_order, find_tied}
use Rattle.std.specs.declared.cmp.Ordering.TheVariants.{Less, Equal, Greater}
use Rattle.std.specs.declared.cmp.Ordering.{Ordering}
use Rattle.mt_containers.specs.Texts.{with_texts}
use Rattle.mt_containers.proofs.Tables.{entries_by}
use Rattle.mt_containers.proofs.Seens.{clone_same, nothing_sorted, sorted_entries, texts_antisymmetric}

-- ---- entries, by texts

text_match : {K X : Type 0} (f : K → List ℕ) (o : Ordering) (a b c : List (K × X)) → by_order o (with_texts f a) (with_texts f b) (with_texts f c) ≡ with_texts f (match_ordering o a b c)
text_match f Less a b c = refl
text_match f Equal a b c = refl
text_match f Greater a b c = refl

tied : (o : Ordering) → is_eq o ≡ true → o ≡ Equal
tied Less h = cc
tied Equal h = refl
tied Greater h = cc

text_keys : {K X : Type 0} (f : K → List ℕ) (es : List (K × X)) → map (λ e. e.0) (with_texts f es) ≡ map f (map (λ e. e.0) es)
text_keys f [] = refl
text_keys f (e ∷ es) = ap (λ ks. f e.0 ∷ ks) (text_keys f es)

text_count : {K X : Type 0} (f : K → List ℕ) (es : List (K × X)) → length (with_texts f es) ≡ length es
text_count f [] = refl
text_count f (e ∷ es) = rw (text_count f es) refl

-- ---- the map, by texts

alike : (x y : List ℕ) → eq_by_cmp (slice_cmp nat_cmp) x y ≡ true → slice_cmp nat_cmp y x ≡ Equal
alike x y a = tied (slice_cmp nat_cmp y x) ((eq_by_cmp_equiv nat_list_cmp_total).symm y x ∙ a)

module _ {K X : Type 0} (C : K → K → Ordering) (f : K → List ℕ) (T : (X : Type 0) → (es : List (K × X)) → (ts : List (List ℕ × X)) × (ts ≡ with_texts f es)) (law : (x y : K) → C x y ≡ slice_cmp nat_cmp (f x) (f y)) where
  text_find : (q : K) (es : List (K × X)) → find (slice_cmp nat_cmp) (f q) (with_texts f es) ≡ lookup (is_at (C q)) es
  text_find q [] = refl
  text_find q (e ∷ es) = rw (law q e.0, text_find q es) refl

  text_put : (k : K) (x : X) (es : List (K × X)) → put (slice_cmp nat_cmp) (f k) x (with_texts f es) ≡ with_texts f (insert_entry C es k x)
  text_put k x [] = refl
  text_put k x (e ∷ es) = rw (← law k e.0, text_put k x es) (text_match f (C k e.0) ((k, x) ∷ e ∷ es) ((e.0, x) ∷ es) (e ∷ insert_entry C es k x))

  -- a removal of a key leaves the others as they are
  text_apart : (k : K) (q : List ℕ) (es : List (K × X)) → eq_by_cmp (slice_cmp nat_cmp) q (f k) ≡ false → find (slice_cmp nat_cmp) q (with_texts f (remove_entry (is_at (C k)) es)) ≡ find (slice_cmp nat_cmp) q (with_texts f es)
  text_apart k q [] a = refl
  text_apart k q (e ∷ es) a =
      elim (C k e.0) as (λ r. C k e.0 ≡ r → find (slice_cmp nat_cmp) q (with_texts f (cond (is_eq r) es (e ∷ remove_entry (is_at (C k)) es))) ≡ cond (eq_by_cmp (slice_cmp nat_cmp) q (f e.0)) (Some e.1) (find (slice_cmp nat_cmp) q (with_texts f es))) [
        | Less ↦ λ t. ap (cond (eq_by_cmp (slice_cmp nat_cmp) q (f e.0)) (Some e.1)) (text_apart k q es a)
        | Equal ↦ λ t. sym (ap (λ b. cond b (Some e.1) (find (slice_cmp nat_cmp) q (with_texts f es))) (ap is_eq (sym (alike_right nat_list_cmp_total (f k) (f e.0) q (sym (law k e.0) ∙ t))) ∙ a))
        | Greater ↦ λ t. ap (cond (eq_by_cmp (slice_cmp nat_cmp) q (f e.0)) (Some e.1)) (text_apart k q es a)
      ] refl

  -- and takes that one out
  text_gone : (k : K) (q : List ℕ) (es : List (K × X)) → eq_by_cmp (slice_cmp nat_cmp) q (f k) ≡ true → lookup (is_at (C k)) es ≡ None → find (slice_cmp nat_cmp) q (with_texts f es) ≡ None
  text_gone k q es a none = find_tied (slice_cmp nat_cmp) nat_list_cmp_total (f k) q (alike q (f k) a) (with_texts f es) ∙ text_find k es ∙ none

  text_above : (k : K) (es : List (K × X)) → AllByRecursion (λ y. C k y ≡ Less) (map (λ e. e.0) es) → AllByRecursion (λ y. slice_cmp nat_cmp (f k) y ≡ Less) (map (λ e. e.0) (with_texts f es))
  text_above k [] h = tt
  text_above k (e ∷ es) h = (sym (law k e.0) ∙ h.0, text_above k es h.1)

  text_sorted : (es : List (K × X)) → IsStrictlySortedBy C (map (λ e. e.0) es) → IsStrictlySortedBy (slice_cmp nat_cmp) (map (λ e. e.0) (with_texts f es))
  unfolding IsStrictlySortedBy
  text_sorted [] h = tt
  text_sorted (e ∷ es) h = (text_above e.0 es h.0, text_sorted es h.1)

  -- the entries of the finite map are the tree's, by texts
  text_entries : (es : List (K × X)) (v : FinMap (slice_cmp nat_cmp) X) → from_entries (T X es).0 ≡ v → IsStrictlySortedBy C (map (λ e. e.0) es) → fin.entries v ≡ with_texts f es
  text_entries es v s h = sym (ap fin.entries s) ∙ ap (λ ts. fin.entries (from_entries {R = slice_cmp nat_cmp} ts)) (T X es).1 ∙ entries_by nat_list_cmp_total (with_texts f es) (text_sorted es h)

  -- a map is known by its entries
  text_view : (es : List (K × X)) (v : FinMap (slice_cmp nat_cmp) X) → IsStrictlySortedBy C (map (λ e. e.0) es) → with_texts f es ≡ fin.entries v → from_entries (T X es).0 ≡ v
  text_view es v h e = ap from_entries (T X es).1 ∙ same_entries_map _ _ (entries_by nat_list_cmp_total (with_texts f es) (text_sorted es h) ∙ e)

  pub get_text : (m : BTreeMap K X) (v : FinMap (slice_cmp nat_cmp) X) (q : K) → from_entries (T X m.entries).0 ≡ v → tree.get C m q ≡ fin.get v (f q)
  get_text m v q s =
      sym (get-from_entries nat_list_cmp_total (with_texts f m.entries) (f q) ∙ text_find q m.entries)
      ∙ ap (λ ts. fin.get (from_entries {R = slice_cmp nat_cmp} ts) (f q)) (sym (T X m.entries).1)
      ∙ ap (λ z. fin.get z (f q)) s

  pub insert_text :
      (m n : BTreeMap K X) (v : FinMap (slice_cmp nat_cmp) X) (k : K) (x : X) → from_entries (T X m.entries).0 ≡ v → tree.IsOrdered C m → tree.IsOrdered C n → n.entries ≡ insert_entry C m.entries k x
      → from_entries {R = slice_cmp nat_cmp} (T X n.entries).0 ≡ fin.insert v (f k) x
  insert_text m n v k x s om on e =
      text_view n.entries (fin.insert v (f k) x) on (
      ap (with_texts f) e
      ∙ sym (text_put k x m.entries)
      ∙ ap (put (slice_cmp nat_cmp) (f k) x) (sym (text_entries m.entries v s om))
      ∙ sym (entries-insert nat_list_cmp_total v (f k) x)
      )

  pub remove_text :
      (m n : BTreeMap K X) (v : FinMap (slice_cmp nat_cmp) X) (k : K) → from_entries (T X m.entries).0 ≡ v → n.entries ≡ remove_entry (is_at (C k)) m.entries → tree.get C n k ≡ None
      → from_entries {R = slice_cmp nat_cmp} (T X n.entries).0 ≡ fin.remove v (f k)
  remove_text m n v k s e none =
      same_map nat_list_cmp_total texts_antisymmetric _ _ (λ q.
      ap (λ ts. fin.get (from_entries {R = slice_cmp nat_cmp} ts) q) (T X n.entries).1
      ∙ get-from_entries nat_list_cmp_total (with_texts f n.entries) q
      ∙ elim (eq_by_cmp (slice_cmp nat_cmp) q (f k)) as (λ b. eq_by_cmp (slice_cmp nat_cmp) q (f k) ≡ b → find (slice_cmp nat_cmp) q (with_texts f n.entries) ≡ cond b None (find (slice_cmp nat_cmp) q (with_texts f m.entries))) [
        | true ↦ λ a. text_gone k q n.entries a none
        | false ↦ λ a. ap (λ es. find (slice_cmp nat_cmp) q (with_texts f es)) e ∙ text_apart k q m.entries a
      ] refl
      ∙ ap (cond (eq_by_cmp (slice_cmp nat_cmp) q (f k)) None) (
      sym (get-from_entries nat_list_cmp_total (with_texts f m.entries) q)
      ∙ ap (λ ts. fin.get (from_entries {R = slice_cmp nat_cmp} ts) q) (sym (T X m.entries).1)
      ∙ ap (λ z. fin.get z q) s
      )
      ∙ sym (get-remove nat_list_cmp_total v (f k) q))

  pub entries_text : (m : BTreeMap K X) (v : FinMap (slice_cmp nat_cmp) X) (r : List (K × X)) → from_entries (T X m.entries).0 ≡ v → tree.IsOrdered C m → r ≡ m.entries → (T X r).0 ≡ fin.entries v
  entries_text m v r s h e = (T X r).1 ∙ ap (with_texts f) e ∙ sym (text_entries m.entries v s h)

  pub keys_text : (N : (ks : List K) → (ts : List (List ℕ)) × (ts ≡ map f ks)) (m : BTreeMap K X) (v : FinMap (slice_cmp nat_cmp) X) (r : List K) → from_entries (T X m.entries).0 ≡ v → tree.IsOrdered C m → r ≡ tree.keys m → (N r).0 ≡ fin.keys v
  keys_text N m v r s h e = (N r).1 ∙ ap (map f) e ∙ sym (text_keys f m.entries) ∙ ap (map (λ e. e.0)) (sym (text_entries m.entries v s h))

  pub len_text : (m : BTreeMap K X) (v : FinMap (slice_cmp nat_cmp) X) → from_entries (T X m.entries).0 ≡ v → tree.IsOrdered C m → tree.btree_map_len m ≡ fin.len v
  len_text m v s h = sym (fin.len-entries v ∙ ap length (text_entries m.entries v s h) ∙ text_count f m.entries)

  -- the key that is taken out is the first one
  pub first_text :
      (m n : BTreeMap K X) (v : FinMap (slice_cmp nat_cmp) X) (r : Option (K × X)) → from_entries (T X m.entries).0 ≡ v → IfSome r (λ p. m.entries ≡ p ∷ n.entries) → IfSome r (λ p. All (λ y. C p.0 y ≡ Less) (tree.keys n))
      → tree.IsOrdered C n → IfNone r (m.entries ≡ [])
      → option_map (λ p. f p.0) r ≡ slice_get (fin.keys v) 0
  first_text m n v (Some p) s e h d none =
      sym (ap (λ es. slice_get (map (λ e. e.0) es) 0) (text_entries (p ∷ n.entries) v (ap (λ es. from_entries {R = slice_cmp nat_cmp} (T X es).0) (sym e) ∙ s) (sorted_entries C p n h d)))
  first_text m n v None s e h d none =
      sym (ap (λ es. slice_get (map (λ e. e.0) es) 0) (text_entries [] v (ap (λ es. from_entries {R = slice_cmp nat_cmp} (T X es).0) (sym none) ∙ s) (nothing_sorted {X = X} C [] refl)))

  -- and the others stay
  pub rest_text :
      (m n : BTreeMap K X) (v : FinMap (slice_cmp nat_cmp) X) (r : Option (K × X)) → from_entries (T X m.entries).0 ≡ v → IfSome r (λ p. m.entries ≡ p ∷ n.entries) → IfSome r (λ p. Updates C m n p.0 None)
      → IfSome r (λ p. from_entries {R = slice_cmp nat_cmp} (T X n.entries).0 ≡ fin.remove v (f p.0))
  rest_text m n v (Some p) s e u =
      remove_text m n v p.0 s
      (sym (ap (remove_entry (is_at (C p.0))) e ∙ ap (λ r. cond (is_eq r) n.entries (p ∷ remove_entry (is_at (C p.0)) n.entries)) (law p.0 p.0 ∙ tied_itself nat_list_cmp_total (f p.0))))
      u.1
  rest_text m n v None s e u = tt

  -- a clone is the same map, where the keys' and the values' clones are the keys and the values
  pub clone_text :
      (D : K → K → Type 0) (E : X → X → Type 0) → ((x y : K) → D x y → y ≡ x) → ((x y : X) → E x y → y ≡ x)
      → (es fs : List (K × X)) (v : FinMap (slice_cmp nat_cmp) X) → from_entries (T X es).0 ≡ v → AllZip (λ p q. D p.0 q.0 × E p.1 q.1) es fs → from_entries (T X fs).0 ≡ v
  clone_text D E d e es fs v s h = ap (λ es. from_entries {R = slice_cmp nat_cmp} (T X es).0) (clone_same D E d e es fs h) ∙ s
