-- What is found at the tokens that are left, after what was found before.
use Rattle.std.proofs.Common.{◌≡◌, ℕ, ◌+◌, List, [], ◌∷◌, ◌++◌, Bool, true, false, cond, Some, None, Option, Ok, Err, refl, sym, ◌∙◌, ap, arith, append_assoc, append-nil}
use Rattle.std.specs.Prelude.{◌||◌, Result, option_to_list}
use Rattle.std.proofs.lemmas.List.Sums.{sum_by-cons}
use Rattle.std.specs.List.{cons_option, count_by, filter_map, flat_map, fold, list_any}
use Rattle.mt_tokens.specs.Deps.{Dependency, Deps, Edit, dependency_of, edit_of, gathered_or, is_dynamic, is_export, marks_at, use_of, with_first}
use Rattle.mt_tokens.specs.Readings.{found_before}
use Rattle.mt_tokens.specs.declared.dep.DepFault.{DepFault}
use Rattle.mt_tokens.specs.declared.dep.Mark.{Mark}
use Rattle.mt_tokens.specs.declared.forms.Found.{Found}
use Rattle.mt_deps.specs.Gathered.{nothing, with_found, with_option}
use Rattle.mt_deps.specs.Numbers.{added}
use Rattle.mt_deps.proofs.Numbered.{number_then}

-- the dependencies with more
abbrev pub more_deps : List Dependency → List Found → List Dependency
more_deps ds fs = fold with_first ds (filter_map dependency_of fs)

-- what was found with more
abbrev pub extended : List ℕ → Deps → List Found → Deps
extended text d fs = record {
  deps = more_deps d.deps fs;
  uses = d.uses ++ filter_map (edit_of text (more_deps d.deps fs)) fs;
  marks = d.marks ++ flat_map (marks_at text) fs;
  exporting = d.exporting || list_any is_export fs;
  dynamic = d.dynamic + count_by is_dynamic fs;
}

abbrev pub extended_or : List ℕ → Deps → Result (List Found) DepFault → Result Deps DepFault
extended_or text d (Ok fs) = Ok (extended text d fs)
extended_or text d (Err e) = Err e

-- after nothing
pub extended_nothing : (text : List ℕ) (r : Result (List Found) DepFault) → extended_or text nothing r ≡ gathered_or text r
extended_nothing text (Err e) = refl
extended_nothing text (Ok fs) = let z : 0 + count_by is_dynamic fs ≡ count_by is_dynamic fs = omega arith in rw z refl

or_false : (a : Bool) → (a || false) ≡ a
or_false true = refl
or_false false = refl

-- and nothing after it
pub extended_end : (text : List ℕ) (d : Deps) → extended_or text d (Ok []) ≡ Ok d
extended_end text d = let z : d.dynamic + 0 ≡ d.dynamic = omega arith in rw (append-nil d.uses, append-nil d.marks, or_false d.exporting, z) refl

or_assoc : (a b c : Bool) → ((a || b) || c) ≡ (a || (b || c))
or_assoc true b c = refl
or_assoc false b c = refl

deps_step : (ds : List Dependency) (o : Option Dependency) (l : List Dependency) → fold with_first ds (cons_option o l) ≡ fold with_first (added ds o) l
deps_step ds None l = refl
deps_step ds (Some d) l = refl

use_step : (uses : List Edit) (o : Option Edit) (l : List Edit) → (uses ++ option_to_list o) ++ l ≡ uses ++ cons_option o l
use_step uses None l = ap (λ z. z ++ l) (append-nil uses)
use_step uses (Some u) l = append_assoc uses (u ∷ []) l

-- what is replaced keeps its number
edit_then : (text : List ℕ) (ds : List Dependency) (f : Found) (more : List Dependency) → edit_of text (fold with_first (added ds (dependency_of f)) more) f ≡ edit_of text (added ds (dependency_of f)) f
edit_then text ds f more = ap (λ i. use_of text i f) (number_then ds more (dependency_of f))

abbrev deps_with : List Dependency → List Edit → List Mark → Bool → ℕ → Deps
deps_with ds us ms x n = record { deps = ds; uses = us; marks = ms; exporting = x; dynamic = n }

same_deps :
    (ds ds2 : List Dependency) (us us2 : List Edit) (ms ms2 : List Mark) (x x2 : Bool) (n n2 : ℕ) → ds ≡ ds2 → us ≡ us2 → ms ≡ ms2 → x ≡ x2 → n ≡ n2 →
    deps_with ds us ms x n ≡ deps_with ds2 us2 ms2 x2 n2
same_deps ds ds2 us us2 ms ms2 x x2 n n2 a b c d e = rw (a, b, c, d, e) refl

count_step : (n : ℕ) (f : Found) (fs : List Found) → n + count_by is_dynamic (f ∷ fs) ≡ (n + cond (is_dynamic f) 1 0) + count_by is_dynamic fs
count_step n f fs = let e : count_by is_dynamic (f ∷ fs) ≡ cond (is_dynamic f) 1 0 + count_by is_dynamic fs = sum_by-cons (λ x. cond (is_dynamic x) 1 0) f fs in omega (arith, e)

-- one more is found
pub extended_step : (text : List ℕ) (d : Deps) (f : Found) (fs : List Found) → extended text d (f ∷ fs) ≡ extended text (with_found text d f) fs
extended_step text d f fs =
    let one = added d.deps (dependency_of f) in
    let final = more_deps one fs in
    let n : more_deps d.deps (f ∷ fs) ≡ final = deps_step d.deps (dependency_of f) (filter_map dependency_of fs) in
    let e : edit_of text final f ≡ edit_of text one f = edit_then text d.deps f (filter_map dependency_of fs) in
    let u : d.uses ++ filter_map (edit_of text (more_deps d.deps (f ∷ fs))) (f ∷ fs) ≡ (d.uses ++ option_to_list (edit_of text one f)) ++ filter_map (edit_of text final) fs =
    ap (λ z. d.uses ++ filter_map (edit_of text z) (f ∷ fs)) n ∙ ap (λ o. d.uses ++ cons_option o (filter_map (edit_of text final) fs)) e ∙ sym (use_step d.uses (edit_of text one f) (filter_map (edit_of text final) fs))
    in
    same_deps (more_deps d.deps (f ∷ fs)) final (d.uses ++ filter_map (edit_of text (more_deps d.deps (f ∷ fs))) (f ∷ fs)) ((d.uses ++ option_to_list (edit_of text one f)) ++ filter_map (edit_of text final) fs) (d.marks ++ flat_map (marks_at text) (f ∷ fs)) ((d.marks ++ marks_at text f) ++ flat_map (marks_at text) fs) (d.exporting || list_any is_export (f ∷ fs)) ((d.exporting || is_export f) || list_any is_export fs) (d.dynamic + count_by is_dynamic (f ∷ fs)) ((d.dynamic + cond (is_dynamic f) 1 0) + count_by is_dynamic fs)
    n u (sym (append_assoc d.marks (marks_at text f) (flat_map (marks_at text) fs))) (sym (or_assoc d.exporting (is_export f) (list_any is_export fs))) (count_step d.dynamic f fs)

-- what is found at a token, if something is
pub extended_more :
    (text : List ℕ) (d new : Deps) (one : Option Found) (r : Result (List Found) DepFault) → new ≡ with_option text d one → extended_or text d (found_before (Ok one) r) ≡ extended_or text new r
extended_more text d new None r n = rw n refl
extended_more text d new (Some f) (Ok fs) n = rw n (ap (λ x. Ok x) (extended_step text d f fs))
extended_more text d new (Some f) (Err e) n = refl
