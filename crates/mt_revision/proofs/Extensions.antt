-- Paths with new ones behind them.
use Rattle.std.proofs.Common.{inl, inr, ◌≡◌, ◌≤◌, ◌<◌, ◌+◌, ◌∙◌, ℕ, Bool, true, false, not, ◌||◌, cond, nat_lt, List, [], ◌∷◌, ◌++◌, length, filter, drop, get_or, Option, Some, None, zero, suc, refl, ap, sym, arith, append-nil, append_assoc, length-append, subst}
use Rattle.std.specs.List.{list_any, IsDistinct, AllByRecursion}
use Rattle.std.specs.List.Sorted.{IsStrictlySortedBy}
use Rattle.std.specs.Str.{bytes_eq}
use Rattle.std.specs.Ordering.{nat_cmp, eq_by_cmp}
use Rattle.std.specs.Cmp.Lexicographic.{slice_cmp}
use Rattle.std.proofs.lemmas.Cmp.{nat_list_eq_equiv}
use Rattle.std.proofs.lemmas.List.{drop_more}
use Rattle.std.proofs.lemmas.List.Filters.{length-filter_both}
use Rattle.std.proofs.lemmas.List.Folds.{list_any-append}
use Rattle.std.proofs.lemmas.Map.Keys.{IsDistinct-push, IsDistinct-head, IsDistinct-tail, IsDistinct-from_sorted}
use Rattle.std.proofs.lemmas.Map.Text.{is_eq-slice_cmp}
use Rattle.std.proofs.lemmas.Bool.{cases_Bool}
use Rattle.std.proofs.lemmas.Bool.Decides.{nat_tests}
use Rattle.mt_files.proofs.PathLists.{Has, append_left, append_right, filter_has}
use Rattle.std.specs.Option.{is_some}
use Rattle.std.specs.FinMap.{FinMap, get, insert}
use Rattle.mt_revision.specs.Numberings.{AreNumbers, extended, has_path, number_in, with_new}
use Rattle.mt_revision.proofs.Places.{numbers_new}

place_by : (k n m : ℕ) (b c : Bool) → m ≡ n + 1 → nat_lt k n ≡ c → nat_lt (cond (not b) (1 + k) 0) m ≡ (b || c)
place_by k n m true c s e = grind (arith, nat_tests)
place_by k n m false true s e = grind (arith, nat_tests)
place_by k n m false false s e = grind (arith, nat_tests)

-- a place below the length is that of a path that is there
pub place_has : (ps : List (List ℕ)) (q : List ℕ) → nat_lt (number_in ps q) (length ps) ≡ has_path ps q
place_has [] q = refl
place_has (p ∷ ps) q = place_by (number_in ps q) (length ps) (length (p ∷ ps)) (bytes_eq q p) (has_path ps q) (omega arith) (place_has ps q)

filter_one : (ps : List (List ℕ)) (q : List ℕ) (b : Bool) → has_path ps q ≡ b → with_new ps (q ∷ []) ≡ cond b ps (ps ++ q ∷ [])
filter_one ps q true e = rw e (append-nil ps)
filter_one ps q false e = rw e refl

-- a path that is there changes nothing
pub with_old : (ps : List (List ℕ)) (q : List ℕ) → has_path ps q ≡ true → with_new ps (q ∷ []) ≡ ps
with_old ps q e = filter_one ps q true e

-- a path that isn't there is put at the end
pub with_one : (ps : List (List ℕ)) (q : List ℕ) → has_path ps q ≡ false → with_new ps (q ∷ []) ≡ ps ++ q ∷ []
with_one ps q e = filter_one ps q false e

or_false : (a b : Bool) → b ≡ false → (a || b) ≡ a
or_false true b e = refl
or_false false b e = e

flips : (p q : List ℕ) → bytes_eq p q ≡ bytes_eq q p
flips p q = nat_list_eq_equiv.symm p q

-- one more path leaves out no other than itself
filter_apart : (ps : List (List ℕ)) (q : List ℕ) (xs : List (List ℕ)) → AllByRecursion (λ y. bytes_eq q y ≡ false) xs → filter (λ p. not (has_path (ps ++ q ∷ []) p)) xs ≡ filter (λ p. not (has_path ps p)) xs
filter_apart ps q [] h = refl
filter_apart ps q (x ∷ xs) h =
    let e : has_path (ps ++ q ∷ []) x ≡ has_path ps x = list_any-append (bytes_eq x) ps (q ∷ []) ∙ or_false (has_path ps x) (list_any (bytes_eq x) (q ∷ [])) (or_false (bytes_eq x q) false refl ∙ flips x q ∙ h.0) in
    ap (λ b. cond (not b) (x ∷ filter (λ p. not (has_path (ps ++ q ∷ []) p)) xs) (filter (λ p. not (has_path (ps ++ q ∷ []) p)) xs)) e
    ∙ ap (λ zs. cond (not (has_path ps x)) (x ∷ zs) zs) (filter_apart ps q xs h.1)

first_by : (ps : List (List ℕ)) (q : List ℕ) (xs : List (List ℕ)) (b : Bool) → has_path ps q ≡ b → AllByRecursion (λ y. bytes_eq q y ≡ false) xs → with_new (with_new ps (q ∷ [])) xs ≡ with_new ps (q ∷ xs)
first_by ps q xs true e h = ap (λ z. with_new z xs) (with_old ps q e) ∙ ap (λ b. ps ++ cond (not b) (q ∷ filter (λ p. not (has_path ps p)) xs) (filter (λ p. not (has_path ps p)) xs)) (sym e)
first_by ps q xs false e h =
    ap (λ z. with_new z xs) (with_one ps q e)
    ∙ ap (λ zs. (ps ++ q ∷ []) ++ zs) (filter_apart ps q xs h)
    ∙ append_assoc ps (q ∷ []) (filter (λ p. not (has_path ps p)) xs)
    ∙ ap (λ b. ps ++ cond (not b) (q ∷ filter (λ p. not (has_path ps p)) xs) (filter (λ p. not (has_path ps p)) xs)) (sym e)

-- the first of the others, and then the rest
pub with_first : (ps : List (List ℕ)) (q : List ℕ) (xs : List (List ℕ)) → AllByRecursion (λ y. bytes_eq q y ≡ false) xs → with_new (with_new ps (q ∷ [])) xs ≡ with_new ps (q ∷ xs)
with_first ps q xs h = first_by ps q xs (has_path ps q) refl h

distinct_drop : (xs : List (List ℕ)) (i : ℕ) → IsDistinct bytes_eq xs → IsDistinct bytes_eq (drop i xs)
distinct_drop xs zero h = h
distinct_drop [] (suc i) h = h
distinct_drop (x ∷ xs) (suc i) h = distinct_drop xs i (IsDistinct-tail bytes_eq x xs h)

-- the path at a place, and then those behind it
pub with_next :
    (ps others : List (List ℕ)) (i : ℕ) (q : List ℕ) → i < length others → q ≡ get_or others i q → IsDistinct bytes_eq others
    → with_new (with_new ps (q ∷ [])) (drop (i + 1) others) ≡ with_new ps (drop i others)
with_next ps others i q inside is h =
    let e : drop i others ≡ q ∷ drop (i + 1) others = drop_more others i q inside ∙ ap (λ x. x ∷ drop (i + 1) others) (sym is) in
    let d : IsDistinct bytes_eq (q ∷ drop (i + 1) others) = subst (IsDistinct bytes_eq) e (distinct_drop others i h) in
    with_first ps q (drop (i + 1) others) (IsDistinct-head bytes_eq q (drop (i + 1) others) d) ∙ ap (with_new ps) (sym e)

short_by : (ps : List (List ℕ)) (q : List ℕ) (b : Bool) → has_path ps q ≡ b → length (with_new ps (q ∷ [])) ≤ length ps + 1
short_by ps q true e = let h : length (with_new ps (q ∷ [])) ≡ length ps = ap length (with_old ps q e) in omega (arith, h)
short_by ps q false e = let h : length (with_new ps (q ∷ [])) ≡ length (ps ++ q ∷ []) = ap length (with_one ps q e) in let l = length-append ps (q ∷ []) in omega (arith, h, l)

-- one path makes them longer by one at most
pub one_longer : (ps : List (List ℕ)) (q : List ℕ) → length (with_new ps (q ∷ [])) ≤ length ps + 1
one_longer ps q = short_by ps q (has_path ps q) refl

-- and others by as many as there are at most
pub with_new_short : (ps others : List (List ℕ)) → length (with_new ps others) ≤ length ps + length others
with_new_short ps others =
    let a = length-append ps (filter (λ p. not (has_path ps p)) others) in
    let f = length-filter_both (λ p. not (has_path ps p)) (λ p. not (not (has_path ps p))) (λ p. refl) others in
    omega (arith, a, f)

one_distinct : (ps : List (List ℕ)) (q : List ℕ) (b : Bool) → has_path ps q ≡ b → IsDistinct bytes_eq ps → IsDistinct bytes_eq (with_new ps (q ∷ []))
one_distinct ps q true e h = subst (IsDistinct bytes_eq) (sym (with_old ps q e)) h
one_distinct ps q false e h = subst (IsDistinct bytes_eq) (sym (with_one ps q e)) (IsDistinct-push nat_list_eq_equiv ps q h e)

-- distinct paths stay so
pub with_new_distinct : (ps others : List (List ℕ)) → IsDistinct bytes_eq ps → IsDistinct bytes_eq others → IsDistinct bytes_eq (with_new ps others)
with_new_distinct ps [] h k = subst (IsDistinct bytes_eq) (sym (append-nil ps)) h
with_new_distinct ps (q ∷ others) h k =
    subst (IsDistinct bytes_eq) (with_first ps q others (IsDistinct-head bytes_eq q others k))
    (with_new_distinct (with_new ps (q ∷ [])) others (one_distinct ps q (has_path ps q) refl h) (IsDistinct-tail bytes_eq q others k))

apart_as : (k : List ℕ) (ks : List (List ℕ)) → AllByRecursion (λ y. eq_by_cmp (slice_cmp nat_cmp) k y ≡ false) ks → AllByRecursion (λ y. bytes_eq k y ≡ false) ks
apart_as k [] h = h
apart_as k (y ∷ ys) h = (sym (is_eq-slice_cmp k y) ∙ h.0, apart_as k ys h.1)

distinct_as : (ks : List (List ℕ)) → IsDistinct (eq_by_cmp (slice_cmp nat_cmp)) ks → IsDistinct bytes_eq ks
unfolding IsDistinct
distinct_as [] h = h
distinct_as (k ∷ ks) h = (apart_as k ks h.0, distinct_as ks h.1)

-- paths that ascend are distinct
pub ascending_distinct : (ks : List (List ℕ)) → IsStrictlySortedBy (slice_cmp nat_cmp) ks → IsDistinct bytes_eq ks
ascending_distinct ks h = distinct_as ks (IsDistinct-from_sorted (slice_cmp nat_cmp) ks h)

-- a numbering whose paths are distinct is extended to one
pub extended_distinct : (numbering entries members : List (List ℕ)) → IsDistinct bytes_eq numbering → IsDistinct bytes_eq entries → IsDistinct bytes_eq members → IsDistinct bytes_eq (extended numbering entries members)
extended_distinct numbering entries members h k m = with_new_distinct (with_new numbering entries) members (with_new_distinct numbering entries h k) m

-- the old numbering is a prefix of the new one, so each number is kept
pub extended_more : (numbering entries members : List (List ℕ)) → (more : List (List ℕ)) × (extended numbering entries members ≡ numbering ++ more)
extended_more numbering entries members = (_, append_assoc numbering _ _)

-- what was there, and what was to be added, is there
pub new_has_old : (ps others : List (List ℕ)) (q : List ℕ) → Has ps q → Has (with_new ps others) q
new_has_old ps others q h = append_left ps (filter (λ p. not (has_path ps p)) others) q h

pub new_has : (ps others : List (List ℕ)) (q : List ℕ) → Has others q → Has (with_new ps others) q
new_has ps others q h = elim (cases_Bool (has_path ps q)) [
  | inl old ↦ new_has_old ps others q old
  | inr new ↦ append_right ps (filter (λ p. not (has_path ps p)) others) q (filter_has (λ p. not (has_path ps p)) others q h (ap not new))
]

pub extended_entry : (numbering entries members : List (List ℕ)) (q : List ℕ) → Has entries q → Has (extended numbering entries members) q
extended_entry numbering entries members q h = new_has_old (with_new numbering entries) members q (new_has numbering entries q h)

pub extended_member : (numbering entries members : List (List ℕ)) (q : List ℕ) → Has members q → Has (extended numbering entries members) q
extended_member numbering entries members q h = new_has (with_new numbering entries) members q h

some_if : (k : ℕ) (b : Bool) → is_some (cond b (Some k) None) ≡ b
some_if k true = refl
some_if k false = refl

-- a path has a number where it is there
pub number_is : (ps : List (List ℕ)) (q : List ℕ) (numbers : FinMap (slice_cmp nat_cmp) ℕ) → AreNumbers ps numbers → is_some (get numbers q) ≡ has_path ps q
number_is ps q numbers h = ap is_some (h q) ∙ some_if (number_in ps q) (nat_lt (number_in ps q) (length ps)) ∙ place_has ps q

no_number : (o : Option ℕ) → is_some o ≡ false → o ≡ None
no_number None h = refl
no_number (Some k) h = cc

-- a path that had no number gets the next one
pub number_added :
    (ps : List (List ℕ)) (p q r : List ℕ) (i : ℕ) (old new : FinMap (slice_cmp nat_cmp) ℕ) (more : List (List ℕ)) → AreNumbers ps old → is_some (get old p) ≡ false → q ≡ p → r ≡ p → i ≡ length ps
    → new ≡ insert old q i → more ≡ ps ++ r ∷ [] → AreNumbers more new
number_added ps p q r i old new more h none eq er at en em =
    subst (AreNumbers more) (sym (en ∙ ap (λ x. insert old x i) eq))
    (subst (λ z. AreNumbers z (insert old p i)) (sym (em ∙ ap (λ x. ps ++ x ∷ []) er)) (numbers_new ps p i old h (no_number (get old p) none) at))

-- so many paths at most with one more
pub few_more : (ps more : List (List ℕ)) (q : List ℕ) (n i : ℕ) → more ≡ with_new ps (q ∷ []) → length ps ≤ n + i → length more ≤ n + (i + 1)
few_more ps more q n i e w = let h : length more ≡ length (with_new ps (q ∷ [])) = ap length e in let l = one_longer ps q in omega (arith, h, l, w)

-- an extended numbering has so many paths at most
pub extended_short : (numbering entries members : List (List ℕ)) → length (extended numbering entries members) ≤ length numbering + length entries + length members
extended_short numbering entries members = let a = with_new_short numbering entries in let b = with_new_short (with_new numbering entries) members in omega (arith, a, b)

-- one path is distinct from no other
pub one_apart : (p : List ℕ) → IsDistinct bytes_eq (p ∷ [])
unfolding IsDistinct
one_apart p = (tt, tt)

-- the first of the paths that are left, and then the rest
pub with_rest : (ps more left rest : List (List ℕ)) (q : List ℕ) → left ≡ q ∷ rest → IsDistinct bytes_eq left → more ≡ with_new ps (q ∷ []) → with_new more rest ≡ with_new ps left
with_rest ps more left rest q e h m =
    let d : IsDistinct bytes_eq (q ∷ rest) = subst (IsDistinct bytes_eq) e h in
    ap (λ z. with_new z rest) m ∙ with_first ps q rest (IsDistinct-head bytes_eq q rest d) ∙ ap (with_new ps) (sym e)

pub distinct_rest : (left rest : List (List ℕ)) (q : List ℕ) → left ≡ q ∷ rest → IsDistinct bytes_eq left → IsDistinct bytes_eq rest
distinct_rest left rest q e h = IsDistinct-tail bytes_eq q rest (subst (IsDistinct bytes_eq) e h)

-- so many paths at most, with the first of those that are left
pub few_rest : (ps more left rest : List (List ℕ)) (q : List ℕ) (n : ℕ) → left ≡ q ∷ rest → more ≡ with_new ps (q ∷ []) → length ps + length left ≤ n → length more + length rest ≤ n
few_rest ps more left rest q n e m w =
    let h : length more ≡ length (with_new ps (q ∷ [])) = ap length m in
    let k : length left ≡ length (q ∷ rest) = ap length e in
    let l = one_longer ps q in
    omega (arith, h, k, l, w)

pub few_left : (left rest : List (List ℕ)) (q : List ℕ) (a n m : ℕ) → left ≡ q ∷ rest → a + length left ≤ n → n < m → a + 1 < m
few_left left rest q a n m e w v = let k : length left ≡ length (q ∷ rest) = ap length e in omega (arith, k, w, v)

-- a path that isn't there is distinct from the others
pub pushed_distinct : (ps : List (List ℕ)) (q : List ℕ) → has_path ps q ≡ false → IsDistinct bytes_eq ps → IsDistinct bytes_eq (ps ++ q ∷ [])
pushed_distinct ps q e h = IsDistinct-push nat_list_eq_equiv ps q h e
