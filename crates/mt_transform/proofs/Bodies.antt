-- The body of a source is UTF-8.
use Rattle.std.proofs.Common.{inl, inr, ◌≡◌, ◌≤◌, ◌<◌, ◌-◌, ◌^◌, ◌&&◌, ◌∙◌, ℕ, Bool, true, false, cond, nat_eq, nat_lt, ltb, List, [], ◌∷◌, ◌++◌, take, drop, length, Some, None, Result, Ok, Err, refl, sym, subst, arith, codes, IsUtf8, IsCharBoundary}
use Rattle.std.specs.List.{AllByRecursion, cons_option, list_all, starts_with}
use Rattle.std.specs.Str.{is_utf8}
use Rattle.std.specs.Str.Lossy.{utf8_valid_len}
use Rattle.std.proofs.lemmas.Bool.{cases_Bool}
use Rattle.std.proofs.lemmas.Bool.Decides.{nat_tests}
use Rattle.std.proofs.lemmas.List.Elements.{recursion_from_All}
use Rattle.std.proofs.lemmas.Str.{IsCharBoundary-start, IsUtf8-append, IsUtf8-between, IsUtf8-drop, IsUtf8-from_ascii, IsUtf8-from_is_utf8, IsUtf8-nil}
use Rattle.mt_tokens.specs.Deps.{Deps, Edit, deps_of}
use Rattle.mt_tokens.specs.declared.dep.DepFault.{DepFault}
use Rattle.mt_tokens.specs.Tokens.{IsCut as IsTokenCut, tokens_of}
use Rattle.mt_tokens.specs.Transform.{Transformed, body_of, comment_edits, edited, edits_before, edits_from, end_text, has_line_end, is_comment, is_json, is_left_out, json_of, left_of, made_of, mark_text, max_dependencies, merged, read_deps, read_script, start_text, transformed}
use Rattle.mt_tokens.specs.declared.source.PathKind.{PathKind}
use Rattle.mt_tokens.specs.declared.source.PathKind.TheVariants.{Script, Json}
use Rattle.mt_tokens.specs.declared.source.SourceFault.TheVariants as fault
use Rattle.mt_tokens.specs.declared.token.Token.{Token}
use Rattle.mt_tokens.specs.declared.token.TokenFault.{TokenFault}
use Rattle.mt_tokens.proofs.HasTokens.{tokens_of_cut}
use Rattle.mt_chars.proofs.Ascii.{word_ascii}
use Rattle.mt_tokens.specs.Words.{bytes_of}
use Rattle.mt_tokens.specs.declared.dep.Mark.{Mark}
use Rattle.mt_deps.specs.Uses.{IsMarkText, IsUseCut}
use Rattle.mt_deps.proofs.Replaced.{deps_sound as uses_sound}
use Rattle.mt_transform.proofs.Transformed.{transformed-json, transformed-not_utf8, transformed-script}

-- ---- a text with edits

cut_utf8 : (text : List ℕ) (at start : ℕ) (late : Bool) → nat_lt start at ≡ late → IsUtf8 text → IsCharBoundary text at → IsCharBoundary text start → IsUtf8 (take (start - at) (drop at text))
cut_utf8 text at start true e u b c =
    let none : 0 ≡ start - at = grind (arith, nat_tests) in
    subst (λ n. IsUtf8 (take n (drop at text))) none IsUtf8-nil
cut_utf8 text at start false e u b c = let within : at ≤ start = grind (arith, nat_tests) in IsUtf8-between text at start u within b c

edited_by :
    (text : List ℕ) (at : ℕ) (e : Edit) (es : List Edit) (late : Bool) → nat_lt e.start at ≡ late → IsUtf8 text → IsCharBoundary text at → IsUseCut text e → IsUtf8 (edited text at es) → IsUtf8 (edited text e.end es) →
    IsUtf8 (cond late (edited text at es) (take (e.start - at) (drop at text) ++ e.text ++ edited text e.end es))
edited_by text at e es true l u b c h k = h
edited_by text at e es false l u b c h k =
    IsUtf8-append (take (e.start - at) (drop at text) ++ e.text) (edited text e.end es)
    (IsUtf8-append (take (e.start - at) (drop at text)) e.text (cut_utf8 text at e.start (nat_lt e.start at) refl u b c.0) c.2) k

edited_utf8 : (text : List ℕ) (at : ℕ) (es : List Edit) → IsUtf8 text → IsCharBoundary text at → AllByRecursion (IsUseCut text) es → IsUtf8 (edited text at es)
edited_utf8 text at [] u b h = IsUtf8-drop text at u b
edited_utf8 text at (e ∷ es) u b h = edited_by text at e es (nat_lt e.start at) refl u b h.0 (edited_utf8 text at es u b h.1) (edited_utf8 text e.end es u h.0.1 h.1)

-- ---- the comments that are left out

ascii : (bs : List ℕ) → list_all (λ b. ltb b 128) bs ≡ true → IsUtf8 bs
ascii bs h = IsUtf8-from_ascii bs (word_ascii bs h)

left_utf8 : (comment : List ℕ) (a b : Bool) → IsUtf8 (cond a (cond b (codes "\n") (codes " ")) [])
left_utf8 comment true true = ascii (codes "\n") refl
left_utf8 comment true false = ascii (codes " ") refl
left_utf8 comment false b = IsUtf8-nil

comment_by :
    (text : List ℕ) (t : Token) (es : List Edit) (left : Bool) → IsTokenCut text t → AllByRecursion (IsUseCut text) es →
    AllByRecursion (IsUseCut text) (cons_option (cond left (Some (record { start = t.start; end = t.end; text = left_of (bytes_of text t) })) None) es)
comment_by text t es true c h = ((c.0, c.1, left_utf8 (bytes_of text t) (starts_with nat_eq (bytes_of text t) (codes "/*")) (has_line_end (bytes_of text t))), h)
comment_by text t es false c h = h

comments_cut : (strip : Bool) (text : List ℕ) (ts : List Token) → AllByRecursion (IsTokenCut text) ts → AllByRecursion (IsUseCut text) (comment_edits strip text ts)
comments_cut strip text [] h = tt
comments_cut strip text (t ∷ ts) h = comment_by text t (comment_edits strip text ts) (is_comment t.kind && is_left_out strip (bytes_of text t)) h.0 (comments_cut strip text ts h.1)

-- ---- edits that are merged

before_by : (text : List ℕ) (place : ℕ) (e : Edit) (es : List Edit) (early : Bool) → IsUseCut text e → AllByRecursion (IsUseCut text) es → AllByRecursion (IsUseCut text) (cond early (e ∷ es) [])
before_by text place e es true c h = (c, h)
before_by text place e es false c h = tt

before_cut : (text : List ℕ) (place : ℕ) (es : List Edit) → AllByRecursion (IsUseCut text) es → AllByRecursion (IsUseCut text) (edits_before place es)
before_cut text place [] h = tt
before_cut text place (e ∷ es) h = before_by text place e (edits_before place es) (nat_lt e.start place) h.0 (before_cut text place es h.1)

from_by : (text : List ℕ) (xs ys : List Edit) (early : Bool) → AllByRecursion (IsUseCut text) xs → AllByRecursion (IsUseCut text) ys → AllByRecursion (IsUseCut text) (cond early xs ys)
from_by text xs ys true h k = h
from_by text xs ys false h k = k

from_cut : (text : List ℕ) (place : ℕ) (es : List Edit) → AllByRecursion (IsUseCut text) es → AllByRecursion (IsUseCut text) (edits_from place es)
from_cut text place [] h = tt
from_cut text place (e ∷ es) h = from_by text (edits_from place es) (e ∷ es) (nat_lt e.start place) (from_cut text place es h.1) h

joined : (text : List ℕ) (xs ys : List Edit) → AllByRecursion (IsUseCut text) xs → AllByRecursion (IsUseCut text) ys → AllByRecursion (IsUseCut text) (xs ++ ys)
joined text [] ys h k = k
joined text (x ∷ xs) ys h k = (h.0, joined text xs ys h.1 k)

merged_cut : (text : List ℕ) (uses comments : List Edit) → AllByRecursion (IsUseCut text) uses → AllByRecursion (IsUseCut text) comments → AllByRecursion (IsUseCut text) (merged uses comments)
merged_cut text uses [] h k = h
merged_cut text uses (c ∷ cs) h k =
    joined text (edits_before c.start uses) (c ∷ merged (edits_from c.start uses) cs) (before_cut text c.start uses h) (k.0, merged_cut text (edits_from c.start uses) cs (from_cut text c.start uses h) k.1)

-- ---- the lines around a body

start_utf8 : (exporting : Bool) → IsUtf8 (start_text exporting)
start_utf8 true = ascii _ refl
start_utf8 false = IsUtf8-nil

two : (a b : List ℕ) → IsUtf8 a → IsUtf8 b → IsUtf8 (a ++ b)
two a b h k = IsUtf8-append a b h k

mark_utf8 : (m : Mark) → IsMarkText m → IsUtf8 (mark_text m)
mark_utf8 m c =
    two (((codes "\nexports." ++ m.name) ++ codes " = ") ++ m.local) (codes ";")
    (two ((codes "\nexports." ++ m.name) ++ codes " = ") m.local (two (codes "\nexports." ++ m.name) (codes " = ") (two (codes "\nexports.") m.name (ascii (codes "\nexports.") refl) c.0) (ascii (codes " = ") refl)) c.1)
    (ascii (codes ";") refl)

end_utf8 : (ms : List Mark) → AllByRecursion IsMarkText ms → IsUtf8 (end_text ms)
end_utf8 [] h = IsUtf8-nil
end_utf8 (m ∷ ms) h = two (mark_text m) (end_text ms) (mark_utf8 m h.0) (end_utf8 ms h.1)

-- ---- what a source becomes

-- the body is UTF-8, and the dependencies are few
abbrev pub IsSound : Transformed → Type 0
IsSound t = IsUtf8 t.body × (length t.dependencies ≤ max_dependencies)

few_by : (many : Bool) (made t : Transformed) → cond many (Err fault.TooManyDeps) (Ok made) ≡ Ok t → (many ≡ false) × (made ≡ t)
few_by true made t h = absurd (cc)
few_by false made t h = (refl, cc)

deps_sound : (strip : Bool) (text : List ℕ) (ts : List Token) (r : Result Deps DepFault) (t : Transformed) → IsUtf8 text → tokens_of text ≡ Ok ts → deps_of text ts ≡ r → read_deps strip text ts r ≡ Ok t → IsSound t
deps_sound strip text ts (Err e) t u tokens d h = absurd (cc)
deps_sound strip text ts (Ok found) t u tokens d h =
    let s = few_by (nat_lt max_dependencies (length found.deps)) (made_of strip text ts found) t h in
    let few : length found.deps ≤ max_dependencies = let is = s.0 in grind (arith, nat_tests) in
    let cut = recursion_from_All (IsTokenCut text) ts (tokens_of_cut text ts u tokens) in
    let small : length found.deps < 2 ^ 64 = omega (arith, few) in
    let sound = uses_sound text ts found u cut d in
    let edits = merged_cut text found.uses (comment_edits strip text ts) (sound.0 small) (comments_cut strip text ts cut) in
    let utf8 : IsUtf8 (body_of strip text ts found) =
    two (start_text found.exporting ++ edited text 0 (merged found.uses (comment_edits strip text ts))) (end_text found.marks)
    (two (start_text found.exporting) (edited text 0 (merged found.uses (comment_edits strip text ts))) (start_utf8 found.exporting) (edited_utf8 text 0 (merged found.uses (comment_edits strip text ts)) u (IsCharBoundary-start text u) edits))
    (end_utf8 found.marks sound.1) in
    subst IsSound s.1 (utf8, few)

read_sound : (strip : Bool) (text : List ℕ) (r : Result (List Token) TokenFault) (t : Transformed) → IsUtf8 text → tokens_of text ≡ r → read_script strip text r ≡ Ok t → IsSound t
read_sound strip text (Ok ts) t u tokens h = deps_sound strip text ts (deps_of text ts) t u tokens refl h
read_sound strip text (Err e) t u tokens h = absurd (cc)

json_sound : (source : List ℕ) (t : Transformed) (json : Bool) → IsUtf8 source → cond json (Ok (json_of source)) (Err fault.Json) ≡ Ok t → IsSound t
json_sound source t true u h =
    let e : json_of source ≡ t = cc in
    let utf8 : IsUtf8 (codes "module.exports = " ++ source ++ codes ";") = two (codes "module.exports = " ++ source) (codes ";") (two (codes "module.exports = ") source (ascii (codes "module.exports = ") refl) u) (ascii (codes ";") refl) in
    subst IsSound e (utf8, omega arith)
json_sound source t false u h = absurd (cc)

kind_sound : (strip : Bool) (kind : PathKind) (source : List ℕ) (t : Transformed) → is_utf8 source ≡ true → transformed strip kind source ≡ Ok t → IsSound t
kind_sound strip Script source t u h = read_sound strip source (tokens_of source) t (IsUtf8-from_is_utf8 source u) refl (sym (transformed-script strip Script source refl u) ∙ h)
kind_sound strip Json source t u h = json_sound source t (is_json source) (IsUtf8-from_is_utf8 source u) (sym (transformed-json strip Json source refl u) ∙ h)

pub transformed_sound : (strip : Bool) (kind : PathKind) (source : List ℕ) (t : Transformed) → transformed strip kind source ≡ Ok t → IsSound t
transformed_sound strip kind source t h = elim (cases_Bool (is_utf8 source)) [
  | inl u ↦ kind_sound strip kind source t u h
  | inr bad ↦ absurd (let none : Err (fault.NotUtf8 (utf8_valid_len source)) ≡ Ok t = sym (transformed-not_utf8 strip kind source bad) ∙ h in cc)
]

pub bodies_utf8 : (strip : Bool) (kind : PathKind) (source : List ℕ) (t : Transformed) → transformed strip kind source ≡ Ok t → IsUtf8 t.body
bodies_utf8 strip kind source t h = (transformed_sound strip kind source t h).0

pub dependencies_few : (strip : Bool) (kind : PathKind) (source : List ℕ) (t : Transformed) → transformed strip kind source ≡ Ok t → length t.dependencies ≤ max_dependencies
dependencies_few strip kind source t h = (transformed_sound strip kind source t h).1
