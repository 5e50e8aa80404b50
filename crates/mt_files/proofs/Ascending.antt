-- Paths in ascending order, each once.
use Rattle.std.proofs.Common.{◌≡◌, ◌||◌, ◌∙◌, ℕ, Bool, true, false, cond, List, [], ◌∷◌, map, Some, None, refl, sym, ap, subst, is_some}
use Rattle.std.specs.List.{list_any}
use Rattle.std.specs.List.Sorted.{IsStrictlySortedBy}
use Rattle.std.specs.Ordering.{nat_cmp}
use Rattle.std.specs.Cmp.Lexicographic.{slice_cmp, nat_list_cmp_total}
use Rattle.std.specs.FinMap.{contains_key-keys, find, from_entries, get, get-from_entries, keys, same_map, slice_cmp-IsAntisymmetric, nat_cmp-IsAntisymmetric}
use Rattle.std.specs.Str.{bytes_eq}
use Rattle.std.proofs.lemmas.Bool.{cases_Bool, cond-true, or_left}
use Rattle.std.proofs.lemmas.Map.Text.{is_eq-slice_cmp}
use Rattle.std.proofs.Common.{inl, inr}
use Rattle.mt_containers.proofs.Tables.{entries_table}
use Rattle.mt_files.specs.Fresh.{ascending}
use Rattle.mt_files.proofs.PathLists.{has_key, same_path}

-- ---- the keys of maps that are made of lists

-- what a list of keys finds
pub find_made : {X : Type 0} (f : List ℕ → X) (xs : List (List ℕ)) (q : List ℕ) → find (slice_cmp nat_cmp) q (map (λ p. (p, f p)) xs) ≡ cond (list_any (bytes_eq q) xs) (Some (f q)) None
find_made f [] q = refl
find_made f (x ∷ xs) q = elim (cases_Bool (bytes_eq q x)) [
  | inl e ↦ ap (λ b. cond b (Some (f x)) (find (slice_cmp nat_cmp) q (map (λ p. (p, f p)) xs))) (is_eq-slice_cmp q x ∙ e)
      ∙ ap (λ z. Some (f z)) (sym (same_path q x e))
      ∙ sym (cond-true (bytes_eq q x || list_any (bytes_eq q) xs) (Some (f q)) None (or_left (bytes_eq q x) (list_any (bytes_eq q) xs) e))
  | inr e ↦ ap (λ b. cond b (Some (f x)) (find (slice_cmp nat_cmp) q (map (λ p. (p, f p)) xs))) (is_eq-slice_cmp q x ∙ e)
      ∙ find_made f xs q ∙ ap (λ b. cond (b || list_any (bytes_eq q) xs) (Some (f q)) None) (sym e)
]

some_cond : {X : Type 0} (b : Bool) (x : X) → is_some (cond b (Some x) None) ≡ b
some_cond true x = refl
some_cond false x = refl

-- the same paths, ascending
pub has_ascending : (xs : List (List ℕ)) (q : List ℕ) → list_any (bytes_eq q) (ascending xs) ≡ list_any (bytes_eq q) xs
has_ascending xs q =
    let m = from_entries {R = slice_cmp nat_cmp} (map (λ p. (p, p)) xs) in
    sym (has_key q (keys m)) ∙ sym (contains_key-keys m q) ∙ ap is_some (get-from_entries nat_list_cmp_total (map (λ p. (p, p)) xs) q ∙ find_made (λ p. p) xs q) ∙ some_cond (list_any (bytes_eq q) xs) q

-- ---- two ascending lists of the same paths are one

abbrev marked : List (List ℕ) → List (List ℕ × Unit {0})
marked xs = map (λ p. (p, tt)) xs

firsts-marked : (xs : List (List ℕ)) → map (λ e. e.0) (marked xs) ≡ xs
firsts-marked [] = refl
firsts-marked (x ∷ xs) = ap (λ z. x ∷ z) (firsts-marked xs)

keys-marked : (xs : List (List ℕ)) → IsStrictlySortedBy (slice_cmp nat_cmp) xs → keys (from_entries {R = slice_cmp nat_cmp} (marked xs)) ≡ xs
keys-marked xs h = ap (map (λ e. e.0)) (entries_table (marked xs) (subst (IsStrictlySortedBy (slice_cmp nat_cmp)) (sym (firsts-marked xs)) h)) ∙ firsts-marked xs

get-marked : (xs : List (List ℕ)) (q : List ℕ) → get (from_entries {R = slice_cmp nat_cmp} (marked xs)) q ≡ cond (list_any (bytes_eq q) xs) (Some tt) None
get-marked xs q = get-from_entries nat_list_cmp_total (marked xs) q ∙ find_made (λ p. tt) xs q

pub same_paths :
    (xs ys : List (List ℕ)) → IsStrictlySortedBy (slice_cmp nat_cmp) xs → IsStrictlySortedBy (slice_cmp nat_cmp) ys → ((q : List ℕ) → list_any (bytes_eq q) xs ≡ list_any (bytes_eq q) ys)
    → xs ≡ ys
same_paths xs ys h k same =
    sym (keys-marked xs h)
    ∙ ap keys (same_map nat_list_cmp_total (slice_cmp-IsAntisymmetric nat_cmp-IsAntisymmetric) (from_entries {R = slice_cmp nat_cmp} (marked xs)) (from_entries {R = slice_cmp nat_cmp} (marked ys)) (λ q. get-marked xs q ∙ ap (λ b. cond b (Some tt) None) (same q) ∙ sym (get-marked ys q)))
    ∙ keys-marked ys k
