-- Where ranges ascend and none overlaps the next, each is replaced.
use Rattle.std.proofs.Common.{◌≡◌, ◌≤◌, ◌<◌, ℕ, ◌-◌, ◌&&◌, Bool, true, false, cond, List, [], ◌∷◌, ◌++◌, take, drop, length, nat_lt, Some, None, Ok, refl, ap, ◌∙◌, arith}
use Rattle.std.specs.List.{cons_option}
use Rattle.std.proofs.lemmas.Bool.Decides.{nat_tests}
use Rattle.mt_tokens.specs.Deps.{Deps, Edit, deps_of}
use Rattle.mt_tokens.specs.Tokens.{Covers}
use Rattle.mt_tokens.specs.Transform.{body_of, comment_edits, edited, end_text, is_comment, is_left_out, left_of, merged, start_text}
use Rattle.mt_tokens.specs.Words.{bytes_of}
use Rattle.mt_tokens.specs.declared.token.Token.{Token}
use Rattle.mt_deps.specs.Uses.{AreApart}
use Rattle.mt_deps.proofs.Apart.{deps_apart}
use Rattle.mt_transform.specs.Ranges.{replaced}

not_early : (at start : ℕ) → at ≤ start → nat_lt start at ≡ false
not_early at start h = grind (arith, nat_tests)

edited_each : (text : List ℕ) (at : ℕ) (es : List Edit) → AreApart at es → edited text at es ≡ replaced text at es
edited_each text at [] h = refl
edited_each text at (e ∷ es) h =
    ap (λ early. cond early (edited text at es) (take (e.start - at) (drop at text) ++ e.text ++ edited text e.end es)) (not_early at e.start h.0)
    ∙ ap (λ more. take (e.start - at) (drop at text) ++ e.text ++ more) (edited_each text e.end es h.2)

-- where no comment is left out
pub ranges_replaced :
    (strip : Bool) (text : List ℕ) (ts : List Token) (found : Deps) → Covers 0 (length text) ts → deps_of text ts ≡ Ok found → comment_edits strip text ts ≡ [] →
    body_of strip text ts found ≡ start_text found.exporting ++ replaced text 0 found.uses ++ end_text found.marks
ranges_replaced strip text ts found c d none =
    ap (λ comments. start_text found.exporting ++ edited text 0 (merged found.uses comments) ++ end_text found.marks) none
    ∙ ap (λ all. start_text found.exporting ++ all ++ end_text found.marks) (edited_each text 0 found.uses (deps_apart text (length text) ts found c d))

-- where nothing else is replaced
merged_none : (comments : List Edit) → merged [] comments ≡ comments
merged_none [] = refl
merged_none (c ∷ cs) = ap (λ more. c ∷ more) (merged_none cs)

earlier : (at to : ℕ) (es : List Edit) → at ≤ to → AreApart to es → AreApart at es
earlier at to [] l h = tt
earlier at to (e ∷ es) l h = (omega (arith, l, h.0), h.1, h.2)

comment_apart : (at : ℕ) (t : Token) (text : List ℕ) (es : List Edit) (left : Bool) → t.start ≡ at → t.start < t.end → AreApart t.end es → AreApart at (cons_option (cond left (Some (record { start = t.start; end = t.end; text = text })) None) es)
comment_apart at t text es true s l h = (omega arith, omega arith, h)
comment_apart at t text es false s l h = earlier at t.end es (omega arith) h

comments_apart : (strip : Bool) (text : List ℕ) (at to : ℕ) (ts : List Token) → Covers at to ts → AreApart at (comment_edits strip text ts)
comments_apart strip text at to [] c = tt
comments_apart strip text at to (t ∷ ts) c =
    comment_apart at t (left_of (bytes_of text t)) (comment_edits strip text ts) (is_comment t.kind && is_left_out strip (bytes_of text t)) c.0 c.1 (comments_apart strip text t.end to ts c.2)

pub comments_replaced :
    (strip : Bool) (text : List ℕ) (ts : List Token) (found : Deps) → Covers 0 (length text) ts → found.uses ≡ [] →
    body_of strip text ts found ≡ start_text found.exporting ++ replaced text 0 (comment_edits strip text ts) ++ end_text found.marks
comments_replaced strip text ts found c none =
    ap (λ uses. start_text found.exporting ++ edited text 0 (merged uses (comment_edits strip text ts)) ++ end_text found.marks) none
    ∙ ap (λ all. start_text found.exporting ++ all ++ end_text found.marks)
    (ap (edited text 0) (merged_none (comment_edits strip text ts)) ∙ edited_each text 0 (comment_edits strip text ts) (comments_apart strip text 0 (length text) ts c))
