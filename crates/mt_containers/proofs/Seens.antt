-- What a map that is seen as a finite map answers, where `s` says how it is seen.
use Rattle.std.proofs.Common.{◌≡◌, ◌<◌, ◌∙◌, List, [], ◌∷◌, map, length, Option, Some, None, refl, ap, sym, arith, suc}
use Rattle.std.specs.List.{All, AllByRecursion, AllZip, slice_get}
use Rattle.std.specs.List.Sorted.{IsStrictlySortedBy}
use Rattle.std.specs.Option.{IfSome, IfNone, IsSome, option_map}
use Rattle.std.specs.Ordering.{nat_cmp}
use Rattle.std.specs.Cmp.{IsTotalOrder}
use Rattle.std.specs.Cmp.Lexicographic.{slice_cmp}
use Rattle.std.specs.BTreeMap as tree
use Rattle.std.specs.BTreeMap.{BTreeMap, Updates}
use Rattle.std.specs.FinMap.{FinMap, IsAntisymmetric, slice_cmp-IsAntisymmetric, nat_cmp-IsAntisymmetric}
use Rattle.std.specs.FinMap as fin
use Rattle.std.specs.declared.cmp.Ordering.TheVariants.{Less}
use Rattle.std.specs.declared.cmp.Ordering.{Ordering}
use Rattle.mt_containers.proofs.Tables.{get_by, insert_by, remove_by, entries_by, keys_sorted}

pub by_recursion : {K : Type 0} (P : K → Type 0) (xs : List K) → All P xs → AllByRecursion P xs
by_recursion P [] h = tt
by_recursion P (x ∷ xs) h = (h 0 x (omega arith), by_recursion P xs (λ k d w. h (suc k) d (omega arith)))

pub nothing_left : {A : Type 0} (es : List A) → (0 < length es → ⊥) → es ≡ []
nothing_left [] h = refl
nothing_left (e ∷ es) h = absurd (h (omega arith))

pub clone_same : {K X : Type 0} (C : K → K → Type 0) (D : X → X → Type 0) → ((x y : K) → C x y → y ≡ x) → ((x y : X) → D x y → y ≡ x) → (es fs : List (K × X)) → AllZip (λ p q. C p.0 q.0 × D p.1 q.1) es fs → fs ≡ es
clone_same C D c d [] [] h = refl
clone_same C D c d [] (f ∷ fs) h = absurd h
clone_same C D c d (e ∷ es) [] h = absurd h
clone_same C D c d (e ∷ es) (f ∷ fs) h = λ i. (c e.0 f.0 h.0.0 i, d e.1 f.1 h.0.1 i) ∷ clone_same C D c d es fs h.1 i

module _ {K X : Type 0} (R : K → K → Ordering) where
  pub nothing_sorted : (es : List (K × X)) → es ≡ [] → IsStrictlySortedBy R (map (λ e. e.0) es)
  unfolding IsStrictlySortedBy
  nothing_sorted es e = rw e tt

  pub sorted_entries : (p : K × X) (n : BTreeMap K X) → All (λ y. R p.0 y ≡ Less) (tree.keys n) → tree.IsOrdered R n → IsStrictlySortedBy R (map (λ e. e.0) (p ∷ n.entries))
  unfolding IsStrictlySortedBy
  sorted_entries p n h o = (by_recursion (λ y. R p.0 y ≡ Less) (tree.keys n) h, o)

module _ {K X : Type 0} {R : K → K → Ordering} where
  pub get_seen : IsTotalOrder R → (m : BTreeMap K X) (v : FinMap R X) (q : K) → fin.from_entries m.entries ≡ v → tree.get R m q ≡ fin.get v q
  get_seen o m v q s = sym (get_by o m q) ∙ ap (λ z. fin.get z q) s

  pub insert_seen : IsTotalOrder R → IsAntisymmetric R → (m n : BTreeMap K X) (v : FinMap R X) (k : K) (x : X) → fin.from_entries m.entries ≡ v → Updates R m n k (Some x) → fin.from_entries {R = R} n.entries ≡ fin.insert v k x
  insert_seen o a m n v k x s u = insert_by o a m n k x u ∙ ap (λ z. fin.insert z k x) s

  pub remove_seen : IsTotalOrder R → IsAntisymmetric R → (m n : BTreeMap K X) (v : FinMap R X) (k : K) → fin.from_entries m.entries ≡ v → Updates R m n k None → fin.from_entries {R = R} n.entries ≡ fin.remove v k
  remove_seen o a m n v k s u = remove_by o a m n k u ∙ ap (λ z. fin.remove z k) s

  pub entries_seen : IsTotalOrder R → (m : BTreeMap K X) (v : FinMap R X) → fin.from_entries m.entries ≡ v → tree.IsOrdered R m → m.entries ≡ fin.entries v
  entries_seen o m v s h = sym (entries_by o m.entries h) ∙ ap fin.entries s

  pub keys_seen : IsTotalOrder R → (m : BTreeMap K X) (v : FinMap R X) → fin.from_entries m.entries ≡ v → tree.IsOrdered R m → tree.keys m ≡ fin.keys v
  keys_seen o m v s h = ap (map (λ e. e.0)) (entries_seen o m v s h)

  pub len_seen : IsTotalOrder R → (m : BTreeMap K X) (v : FinMap R X) → fin.from_entries m.entries ≡ v → tree.IsOrdered R m → tree.btree_map_len m ≡ fin.len v
  len_seen o m v s h = ap length (entries_seen o m v s h) ∙ sym (fin.len-entries v)

  -- the key that is taken out is the first one
  pub first_seen :
      IsTotalOrder R → (m n : BTreeMap K X) (v : FinMap R X) (r : Option (K × X)) → fin.from_entries m.entries ≡ v → IfSome r (λ p. m.entries ≡ p ∷ n.entries) → IfSome r (λ p. All (λ y. R p.0 y ≡ Less) (tree.keys n))
      → tree.IsOrdered R n → IfNone r (m.entries ≡ [])
      → option_map (λ p. p.0) r ≡ slice_get (fin.keys v) 0
  first_seen o m n v (Some p) s e h d none = sym (ap (λ es. slice_get (map (λ e. e.0) es) 0) (ap (λ z. fin.entries z) (sym s) ∙ ap (λ es. fin.entries (fin.from_entries {R = R} es)) e ∙ entries_by o (p ∷ n.entries) (sorted_entries R p n h d)))
  first_seen o m n v None s e h d none = sym (ap (λ es. slice_get (map (λ e. e.0) es) 0) (ap (λ z. fin.entries z) (sym s) ∙ ap (λ es. fin.entries (fin.from_entries {R = R} es)) none ∙ entries_by o [] (nothing_sorted {X = X} R [] refl)))

  -- a finite map's keys ascend
  pub sorted_seen : (v : FinMap R X) → IsStrictlySortedBy R (fin.keys v)
  sorted_seen v = keys_sorted R v

  -- so is a clone, where the values' clones are the values
  pub clone_seen : (D : X → X → Type 0) → ((x y : X) → D x y → y ≡ x) → (es fs : List (K × X)) (v : FinMap R X) → fin.from_entries es ≡ v → AllZip (λ p q. (q.0 ≡ p.0) × D p.1 q.1) es fs → fin.from_entries fs ≡ v
  clone_seen D same es fs v s h = ap (fin.from_entries {R = R}) (clone_same (λ x y. y ≡ x) D (λ x y e. e) same es fs h) ∙ s

pub texts_antisymmetric : IsAntisymmetric (slice_cmp nat_cmp)
texts_antisymmetric = slice_cmp-IsAntisymmetric nat_cmp-IsAntisymmetric

-- nothing is taken where there is nothing
pub none_left : {A : Type 0} (r : Option A) (es : List A) → (0 < length es → IsSome r) → IfNone r (es ≡ [])
none_left (Some x) es h = tt
none_left None es h = nothing_left es (λ w. let e = h w in cc)
