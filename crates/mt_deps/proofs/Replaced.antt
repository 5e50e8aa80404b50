-- What takes the place of ranges is UTF-8, and so are the names that are exported.
use Rattle.std.proofs.Common.{arith, ◌≡◌, ◌≤◌, ◌<◌, ◌^◌, ℕ, ◌+◌, Bool, true, false, cond, List, [], ◌∷◌, length, map, Option, Some, None, Result, Ok, Err, refl, subst, codes, IsCharBoundary, IsUtf8}
use Rattle.std.specs.List.{AllByRecursion, cons_option, filter_map, flat_map}
use Rattle.std.specs.Prelude.{option_map, unwrap_or}
use Rattle.std.specs.Prelude.{All as Every}
use Rattle.std.proofs.lemmas.List.Elements.{recursion_from_All}
use Rattle.mt_tokens.specs.Cut.{AreCut, IfThere, IsFormCut, IsFoundCut, IsItemCut}
use Rattle.mt_tokens.specs.Deps.{Dependency, Deps, dependencies, dependency_of, deps_of, edit_of, form_end, gathered, gathered_or, is_named, marks_at, number_in, number_of, use_of}
use Rattle.mt_tokens.specs.Readings.{found_in}
use Rattle.mt_tokens.specs.Replacements.{default_marks, item_mark, marks_of, name_mark}
use Rattle.mt_tokens.specs.Shields.{no_cover}
use Rattle.mt_tokens.specs.Tokens.{IsCut}
use Rattle.mt_tokens.specs.Words.{seen}
use Rattle.mt_tokens.specs.declared.dep.DepFault.{DepFault}
use Rattle.mt_tokens.specs.declared.forms.Form.{Form}
use Rattle.mt_tokens.specs.declared.forms.Form.TheVariants.{ExportDeclared, ExportDefault, ExportFrom, ExportList, Import}
use Rattle.mt_tokens.specs.declared.forms.Found.{Found}
use Rattle.mt_tokens.specs.declared.forms.Found.TheVariants.{Dynamic, ImportCall, Require, Statement}
use Rattle.mt_tokens.specs.declared.forms.Item.{Item}
use Rattle.mt_tokens.specs.declared.token.Token.{Token}
use Rattle.mt_tokens.proofs.Replaced.{bytes_utf8, call_utf8, entry_utf8, form_utf8, word_utf8}
use Rattle.mt_deps.specs.Uses.{IsMarkText, IsUseCut}
use Rattle.mt_deps.proofs.Cuts.{AreFoundCut, and_rest, found_cut}

-- ---- the ranges

form_ends : (text : List ℕ) (w : Token) (form : Form) → IsCut text w → IsFormCut text form → IsCharBoundary text (form_end w form)
form_ends text w (Import d b m) k c = c.2.1
form_ends text w (ExportFrom b m) k c = c.1.1
form_ends text w (ExportList its e) k c = c.1
form_ends text w (ExportDefault e l) k c = c.0
form_ends text w (ExportDeclared ls) k c = k.1

use_cut : (text : List ℕ) (i : ℕ) (f : Found) → IsUtf8 text → i < 2 ^ 64 → IsFoundCut text f → IfThere (IsUseCut text) (use_of text i f)
use_cut text i (Require m) u l c = (c.0.0, c.0.1, entry_utf8 i l)
use_cut text i (ImportCall w m) u l c = (c.0.0, c.1.1, call_utf8 i l)
use_cut text i Dynamic u l c = tt
use_cut text i (Statement w form) u l c = (c.0.0, form_ends text w form c.0 c.1, form_utf8 text i form u l c.1)

-- a number is at most the length of the list, or 0
number_by : (b : Bool) (o : Option ℕ) (n : ℕ) → unwrap_or o 0 ≤ n → unwrap_or (cond b (Some 0) (option_map (λ k. k + 1) o)) 0 ≤ n + 1
number_by true o n h = omega arith
number_by false None n h = omega arith
number_by false (Some k) n h = omega (arith, h)

add_one : {X : Type 0} (x : X) (xs : List X) → length (x ∷ xs) ≡ length xs + 1
add_one x xs = grind arith

number_least : (ds : List Dependency) (d : Dependency) → unwrap_or (number_of d.name d.kind ds) 0 ≤ length ds
number_least [] d = omega arith
number_least (x ∷ ds) d = rw (add_one x ds) (number_by (is_named d.name d.kind x) (number_of d.name d.kind ds) (length ds) (number_least ds d))

number_few : (ds : List Dependency) (o : Option Dependency) → length ds < 2 ^ 64 → number_in ds o < 2 ^ 64
number_few ds None h = omega arith
number_few ds (Some d) h = let n = number_least ds d in omega (arith, n, h)

consed : {X : Type 0} (P : X → Type 0) (o : Option X) (xs : List X) → IfThere P o → AllByRecursion P xs → AllByRecursion P (cons_option o xs)
consed P None xs h k = k
consed P (Some x) xs h k = (h, k)

uses_cut : (text : List ℕ) (ds : List Dependency) (fs : List Found) → IsUtf8 text → length ds < 2 ^ 64 → AllByRecursion (IsFoundCut text) fs → AllByRecursion (IsUseCut text) (filter_map (edit_of text ds) fs)
uses_cut text ds [] u l c = tt
uses_cut text ds (f ∷ fs) u l c =
    consed (IsUseCut text) (edit_of text ds f) (filter_map (edit_of text ds) fs) (use_cut text (number_in ds (dependency_of f)) f u (number_few ds (dependency_of f) l) c.0) (uses_cut text ds fs u l c.1)

-- ---- the names that are exported

item_marks : (text : List ℕ) (its : List Item) → IsUtf8 text → AllByRecursion (IsItemCut text) its → AllByRecursion IsMarkText (map (item_mark text) its)
item_marks text [] u c = tt
item_marks text (it ∷ its) u c = ((bytes_utf8 text it.other u c.0.1, bytes_utf8 text it.name u c.0.0), item_marks text its u c.1)

name_marks : (text : List ℕ) (ls : List Token) → IsUtf8 text → AreCut text ls → AllByRecursion IsMarkText (map (name_mark text) ls)
name_marks text [] u c = tt
name_marks text (l ∷ ls) u c = ((bytes_utf8 text l u c.0, bytes_utf8 text l u c.0), name_marks text ls u c.1)

local_marks : (text : List ℕ) (l : Option Token) → IsUtf8 text → IfThere (IsCut text) l → AllByRecursion IsMarkText (default_marks text l)
local_marks text None u c = tt
local_marks text (Some l) u c = ((word_utf8 (codes "default") refl, bytes_utf8 text l u c), tt)

form_marks : (text : List ℕ) (form : Form) → IsUtf8 text → IsFormCut text form → AllByRecursion IsMarkText (marks_of text form)
form_marks text (Import d b m) u c = tt
form_marks text (ExportFrom b m) u c = tt
form_marks text (ExportList its e) u c = item_marks text its u c.0
form_marks text (ExportDefault e l) u c = local_marks text l u c.1
form_marks text (ExportDeclared ls) u c = name_marks text ls u c

found_marks : (text : List ℕ) (f : Found) → IsUtf8 text → IsFoundCut text f → AllByRecursion IsMarkText (marks_at text f)
found_marks text (Require m) u c = tt
found_marks text (ImportCall w m) u c = tt
found_marks text Dynamic u c = tt
found_marks text (Statement w form) u c = form_marks text form u c.1

all_marks : (text : List ℕ) (fs : List Found) → IsUtf8 text → AllByRecursion (IsFoundCut text) fs → AllByRecursion IsMarkText (flat_map (marks_at text) fs)
all_marks text [] u c = tt
all_marks text (f ∷ fs) u c = and_rest IsMarkText (marks_at text f) (flat_map (marks_at text) fs) (found_marks text f u c.0) (all_marks text fs u c.1)

-- ---- what is found in a text

abbrev pub IsSound : List ℕ → Deps → Type 0
IsSound text d = (length d.deps < 2 ^ 64 → AllByRecursion (IsUseCut text) d.uses) × AllByRecursion IsMarkText d.marks

sound_by : (text : List ℕ) (r : Result (List Found) DepFault) (d : Deps) → IsUtf8 text → AreFoundCut text r → gathered_or text r ≡ Ok d → IsSound text d
sound_by text (Err e) d u c h = absurd (cc)
sound_by text (Ok fs) d u c h =
    let e : gathered text fs ≡ d = cc in
    subst (IsSound text) e (λ few. uses_cut text (dependencies fs) fs u few c, all_marks text fs u c)

seen_by : (text : List ℕ) (t : Token) (ts : List Token) (b : Bool) → IsCut text t → AreCut text ts → AreCut text (cond b (t ∷ ts) ts)
seen_by text t ts true c h = (c, h)
seen_by text t ts false c h = h

seen_cut : (text : List ℕ) (ts : List Token) → AreCut text ts → AreCut text (seen ts)
seen_cut text [] h = tt
seen_cut text (t ∷ ts) h = seen_by text t (seen ts) _ h.0 (seen_cut text ts h.1)

pub seen_all : (text : List ℕ) (ts us : List Token) → us ≡ seen ts → Every (IsCut text) ts → AreCut text us
seen_all text ts us e h = rw e (seen_cut text ts (recursion_from_All (IsCut text) ts h))

pub deps_sound : (text : List ℕ) (ts : List Token) (d : Deps) → IsUtf8 text → AreCut text ts → deps_of text ts ≡ Ok d → IsSound text d
unfolding deps_of
deps_sound text ts d u c h = sound_by text (found_in text ts) d u (found_cut text no_cover None 0 (seen ts) (seen_cut text ts c)) h
