-- What a set of paths has, and its paths in ascending order.
use Rattle.std.proofs.Common.{inl, inr, ◌⊎◌, ◌≡◌, ◌||◌, ◌∙◌, ℕ, Bool, true, false, cond, List, [], ◌∷◌, ◌++◌, map, Option, Some, refl, sym, ap, is_some}
use Rattle.std.specs.List.{Contains, list_any}
use Rattle.std.specs.Ordering.{nat_cmp}
use Rattle.std.specs.Cmp.Lexicographic.{slice_cmp, nat_list_cmp_total}
use Rattle.std.specs.FinMap.{contains_key, contains_key-keys, empty, from_entries, get, get-empty, get-insert, keys}
use Rattle.std.specs.Str.{bytes_eq}
use Rattle.std.proofs.lemmas.Bool.{or_cases, or_left, or_right}
use Rattle.std.proofs.lemmas.Map.Text.{is_eq-slice_cmp}
use Rattle.mt_containers.proofs.Tables.{keys_sorted}
use Rattle.mt_files.specs.PathSets.{Paths, with_path, with_paths}
use Rattle.mt_files.specs.Fresh.{ascending}
use Rattle.mt_files.proofs.PathLists.{contains_has, has_contains, has_key}
use Rattle.mt_files.proofs.Ascending.{has_ascending, same_paths}

has_by : (b c : Bool) (o : Option (Unit {0})) → is_some (cond b (Some tt) o) ≡ (b || is_some o)
has_by true c o = refl
has_by false c o = refl

turned : (a b c : Bool) → ((a || b) || c) ≡ (b || (a || c))
turned true true c = refl
turned true false c = refl
turned false true c = refl
turned false false c = refl

set_has : (paths : Paths) (xs : List (List ℕ)) (q : List ℕ) → is_some (get (with_paths paths xs) q) ≡ (list_any (bytes_eq q) xs || is_some (get paths q))
set_has paths [] q = refl
set_has paths (x ∷ xs) q =
    set_has (with_path paths x) xs q
    ∙ ap (λ o. list_any (bytes_eq q) xs || is_some o) (get-insert nat_list_cmp_total paths x tt q)
    ∙ ap (λ b. list_any (bytes_eq q) xs || is_some (cond b (Some tt) (get paths q))) (is_eq-slice_cmp q x)
    ∙ ap (λ b. list_any (bytes_eq q) xs || b) (has_by (bytes_eq q x) false (get paths q))
    ∙ sym (turned (bytes_eq q x) (list_any (bytes_eq q) xs) (is_some (get paths q)))

-- a path of a set with more paths is one of them, or was there
pub set_cases : (paths : Paths) (xs : List (List ℕ)) (q : List ℕ) → contains_key (with_paths paths xs) q ≡ true → Contains xs q ⊎ (contains_key paths q ≡ true)
set_cases paths xs q h = elim (or_cases (list_any (bytes_eq q) xs) (is_some (get paths q)) (sym (set_has paths xs q) ∙ h)) [ inl a ↦ inl (has_contains xs q a) | inr b ↦ inr b ]

pub set_more : (paths : Paths) (xs : List (List ℕ)) (q : List ℕ) → Contains xs q → contains_key (with_paths paths xs) q ≡ true
set_more paths xs q h = set_has paths xs q ∙ or_left (list_any (bytes_eq q) xs) (is_some (get paths q)) (contains_has xs q h)

pub set_old : (paths : Paths) (xs : List (List ℕ)) (q : List ℕ) → contains_key paths q ≡ true → contains_key (with_paths paths xs) q ≡ true
set_old paths xs q h = set_has paths xs q ∙ or_right (list_any (bytes_eq q) xs) (is_some (get paths q)) h

-- ---- in ascending order

or_false : (b : Bool) → (b || false) ≡ b
or_false true = refl
or_false false = refl

-- the paths put into an empty set, ascending
pub keys-with_paths : (xs : List (List ℕ)) → keys (with_paths empty xs) ≡ ascending xs
keys-with_paths xs =
    same_paths (keys (with_paths empty xs)) (ascending xs) (keys_sorted (slice_cmp nat_cmp) (with_paths empty xs)) (keys_sorted (slice_cmp nat_cmp) (from_entries {R = slice_cmp nat_cmp} (map (λ p. (p, p)) xs)))
    (λ q.
    sym (has_key q (keys (with_paths empty xs)))
    ∙ sym (contains_key-keys (with_paths empty xs) q)
    ∙ set_has empty xs q
    ∙ ap (λ o. list_any (bytes_eq q) xs || is_some o) (get-empty {X = Unit {0}} (slice_cmp nat_cmp) q)
    ∙ or_false (list_any (bytes_eq q) xs)
    ∙ sym (has_ascending xs q))

with_paths-append : (paths : Paths) (xs ys : List (List ℕ)) → with_paths paths (xs ++ ys) ≡ with_paths (with_paths paths xs) ys
with_paths-append paths [] ys = refl
with_paths-append paths (x ∷ xs) ys = with_paths-append (with_path paths x) xs ys

-- the paths put into an empty set from two lists, ascending
pub keys-both : (xs ys : List (List ℕ)) (one both : Paths) → one ≡ with_paths empty xs → both ≡ with_paths one ys → keys both ≡ ascending (xs ++ ys)
keys-both xs ys one both e f = ap keys (f ∙ ap (λ m. with_paths m ys) e ∙ sym (with_paths-append empty xs ys)) ∙ keys-with_paths (xs ++ ys)
