-- What is in a list of paths, as the test of their bytes finds it.
use Rattle.std.proofs.Common.{◌≡◌, ℕ, Bool, true, List, [], ◌∷◌, ◌++◌, filter, refl}
use Rattle.std.specs.List.{Contains, flat_map, list_all, list_any}
use Rattle.std.specs.Ordering.{nat_cmp, eq_by_cmp}
use Rattle.std.specs.Cmp.Lexicographic.{slice_cmp}
use Rattle.std.specs.Str.{bytes_eq}
use Rattle.std.proofs.lemmas.Bool.{or_left, or_right}
use Rattle.std.proofs.lemmas.List.Elements.{Contains-append_left, Contains-append_right}
use Rattle.std.proofs.lemmas.Map.Text.{is_eq-slice_cmp}
use Rattle.std.proofs.lemmas.Slice.Eq.{bytes_eq-Decides}
use Rattle.mt_containers.proofs.Members.{all_contains, any_contains, contains_any, contains_filter, contains_flat_map, filter_contains, flat_map_contains}

-- a path is in a list
abbrev pub Has : List (List ℕ) → List ℕ → Type 0
Has ps q = list_any (bytes_eq q) ps ≡ true

pub has_contains : (ps : List (List ℕ)) (q : List ℕ) → Has ps q → Contains ps q
has_contains ps q h = any_contains bytes_eq bytes_eq-Decides ps q h

pub contains_has : (ps : List (List ℕ)) (q : List ℕ) → Contains ps q → Has ps q
contains_has ps q h = contains_any bytes_eq bytes_eq-Decides ps q h

pub has_self : (p : List ℕ) → bytes_eq p p ≡ true
has_self p = (bytes_eq-Decides p p).1 refl

pub same_path : (p q : List ℕ) → bytes_eq p q ≡ true → p ≡ q
same_path p q h = (bytes_eq-Decides p q).0 h

pub has_head : (p : List ℕ) (ps : List (List ℕ)) → Has (p ∷ ps) p
has_head p ps = or_left (bytes_eq p p) (list_any (bytes_eq p) ps) (has_self p)

pub has_tail : (p q : List ℕ) (ps : List (List ℕ)) → Has ps q → Has (p ∷ ps) q
has_tail p q ps h = or_right (bytes_eq q p) (list_any (bytes_eq q) ps) h

pub append_left : (xs ys : List (List ℕ)) (q : List ℕ) → Has xs q → Has (xs ++ ys) q
append_left xs ys q h = contains_has (xs ++ ys) q (Contains-append_left xs ys q (has_contains xs q h))

pub append_right : (xs ys : List (List ℕ)) (q : List ℕ) → Has ys q → Has (xs ++ ys) q
append_right xs ys q h = contains_has (xs ++ ys) q (Contains-append_right xs ys q (has_contains ys q h))

-- what is in the lists of a list of paths is in the list of one of them
pub has_flat_map : (f : List ℕ → List (List ℕ)) (ps : List (List ℕ)) (q : List ℕ) → Has (flat_map f ps) q → (p : List ℕ) × (Has ps p × Has (f p) q)
has_flat_map f ps q h = let r = contains_flat_map f ps q (has_contains (flat_map f ps) q h) in (r.0, (contains_has ps r.0 r.1, contains_has (f r.0) q r.2))

pub flat_map_has : (f : List ℕ → List (List ℕ)) (ps : List (List ℕ)) (p q : List ℕ) → Has ps p → Has (f p) q → Has (flat_map f ps) q
flat_map_has f ps p q h k = contains_has (flat_map f ps) q (flat_map_contains f ps p q (has_contains ps p h) (has_contains (f p) q k))

-- what passes for all passes for one
pub all_at : (t : List ℕ → Bool) (ps : List (List ℕ)) (q : List ℕ) → list_all t ps ≡ true → Has ps q → t q ≡ true
all_at t ps q h k = all_contains t ps q h (has_contains ps q k)

-- a path that is in a filtered list passes, and is in the list
pub has_filter : (t : List ℕ → Bool) (ps : List (List ℕ)) (q : List ℕ) → Has (filter t ps) q → (Has ps q × (t q ≡ true))
has_filter t ps q h = let r = contains_filter t ps q (has_contains (filter t ps) q h) in (contains_has ps q r.0, r.1)

pub filter_has : (t : List ℕ → Bool) (ps : List (List ℕ)) (q : List ℕ) → Has ps q → t q ≡ true → Has (filter t ps) q
filter_has t ps q h k = contains_has (filter t ps) q (filter_contains t ps q (has_contains ps q h) k)

-- the order of paths ties where their bytes are the same
pub has_key : (q : List ℕ) (ps : List (List ℕ)) → list_any (eq_by_cmp (slice_cmp nat_cmp) q) ps ≡ list_any (bytes_eq q) ps
has_key q [] = refl
has_key q (p ∷ ps) = rw (is_eq-slice_cmp q p, has_key q ps) refl
