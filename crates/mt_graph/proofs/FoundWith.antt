-- What was found at a path, among what was found by ascending path.
use Rattle.std.proofs.Common.{inl, inr, ◌⊎◌, ◌≡◌, ◌∙◌, ◌||◌, ℕ, Bool, true, false, cond, List, [], ◌∷◌, map, Option, Some, None, is_some, refl, ap, sym, subst}
use Rattle.std.specs.List.{AllByRecursion, list_any}
use Rattle.std.specs.List.Sorted.{IsStrictlySortedBy}
use Rattle.std.specs.Str.{bytes_eq}
use Rattle.std.specs.Ordering.{nat_cmp, is_eq}
use Rattle.std.specs.Cmp.Lexicographic.{slice_cmp}
use Rattle.std.specs.declared.cmp.Ordering.TheVariants.{Less}
use Rattle.std.proofs.lemmas.Bool.{cases_Bool, or_cases, both_ways}
use Rattle.std.proofs.lemmas.Map.Text.{is_eq-slice_cmp}
use Rattle.mt_files.proofs.PathLists.{has_self, same_path}
use Rattle.mt_graph.specs.Founds.{found_with, paths_of}
use Rattle.mt_graph.specs.declared.found.Found.{Found}

-- a path is one of those of what was found where something was found there
pub has_found : (founds : List Found) (q : List ℕ) → list_any (bytes_eq q) (paths_of founds) ≡ is_some (found_with founds q)
has_found [] q = refl
has_found (f ∷ fs) q = elim (cases_Bool (bytes_eq q f.path)) [
  | inl e ↦ rw e refl
  | inr e ↦ rw e (has_found fs q)
]

-- what was found at a path has that path
pub found_path : (founds : List Found) (q : List ℕ) (f : Found) → found_with founds q ≡ Some f → q ≡ f.path
found_path [] q f h = cc
found_path (x ∷ xs) q f h = elim (cases_Bool (bytes_eq q x.path)) [
  | inl e ↦
      let k : Some x ≡ Some f = ap (λ b. cond b (Some x) (found_with xs q)) (sym e) ∙ h in
      let g : x ≡ f = cc in same_path q x.path e ∙ ap (λ (z : Found). z.path) g
  | inr e ↦ found_path xs q f (ap (λ b. cond b (Some x) (found_with xs q)) (sym e) ∙ h)
]

-- a path is not among those that come after it
pub less_apart : (p q : List ℕ) → slice_cmp nat_cmp p q ≡ Less → bytes_eq p q ≡ false
less_apart p q h = sym (is_eq-slice_cmp p q) ∙ ap is_eq h

pub above_apart : (p : List ℕ) (qs : List (List ℕ)) → AllByRecursion (λ q. slice_cmp nat_cmp p q ≡ Less) qs → list_any (bytes_eq p) qs ≡ false
above_apart p [] h = refl
above_apart p (q ∷ qs) h = rw (less_apart p q h.0, above_apart p qs h.1) refl

-- nothing more was found at the path of the first
pub first_alone : (f : Found) (fs : List Found) → IsStrictlySortedBy (slice_cmp nat_cmp) (paths_of (f ∷ fs)) → found_with fs f.path ≡ None
unfolding IsStrictlySortedBy
first_alone f fs h = none_at (found_with fs f.path) (sym (has_found fs f.path) ∙ above_apart f.path (paths_of fs) h.0)
  where
    none_at : (o : Option Found) → is_some o ≡ false → o ≡ None
    none_at None e = refl
    none_at (Some x) e = cc

pub rest_ascending : (f : Found) (fs : List Found) → IsStrictlySortedBy (slice_cmp nat_cmp) (paths_of (f ∷ fs)) → IsStrictlySortedBy (slice_cmp nat_cmp) (paths_of fs)
unfolding IsStrictlySortedBy
rest_ascending f fs h = h.1

-- the rest comes after the first
pub rest_above : (f : Found) (fs : List Found) → IsStrictlySortedBy (slice_cmp nat_cmp) (paths_of (f ∷ fs)) → AllByRecursion (λ q. slice_cmp nat_cmp f.path q ≡ Less) (paths_of fs)
unfolding IsStrictlySortedBy
rest_above f fs h = h.0

-- a path that comes after another is not that one
pub later_apart : (p q : List ℕ) → slice_cmp nat_cmp p q ≡ Less → bytes_eq q p ≡ false
later_apart p q h = elim (cases_Bool (bytes_eq q p)) [
  | inr e ↦ e
  | inl e ↦ absurd (both_ways (bytes_eq p q) (less_apart p q h) (subst (λ z. bytes_eq p z ≡ true) (sym (same_path q p e)) (has_self p)))
]
