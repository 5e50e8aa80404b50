-- The scan answers the tokens of a text, or its first fault.
use Rattle.std.proofs.Common.{arith, ◌≡◌, ◌<◌, ◌≤◌, ◌⊎◌, ◌+◌, ◌-◌, ℕ, zero, suc, Bool, true, false, cond, List, [], ◌∷◌, ◌++◌, length, take, drop, refl, sym, ap, ◌∙◌, subst, Result, Ok, Err, Option, Some, None, inl, inr, IsUtf8, IsCharBoundary}
use Rattle.std.specs.List.{All, slice_get}
use Rattle.std.specs.Option.{option_map, option_map_or}
use Rattle.std.specs.Result.{IfOk, IfErr}
use Rattle.std.proofs.lemmas.List.{append-nil, append_assoc, length-append, length-drop, drop-drop}
use Rattle.std.proofs.lemmas.List.Elements.{All-append, All-cons, All-nil}
use Rattle.std.proofs.lemmas.Bool.Decides.{leb_tells}
use Rattle.std.proofs.lemmas.Str.{IsCharBoundary-from_drop}
use Rattle.mt_tokens.specs.Brackets.{Unclosed, closing, innermost_place, is_misfit}
use Rattle.mt_tokens.specs.Front.{front_of}
use Rattle.mt_tokens.specs.Tokens.{Covers, FollowOneAnother, HasFault, HasTokens, IsCut, and_then, before_next, closed, end_of, fitting, next_token, open_in, scan, token_at, tokens_of}
use Rattle.mt_tokens.specs.declared.front.Before.{Before}
use Rattle.mt_tokens.specs.declared.token.Token.{Token}
use Rattle.mt_tokens.specs.declared.token.TokenKind.{TokenKind}
use Rattle.mt_tokens.specs.declared.token.TokenFault.{TokenFault}
use Rattle.mt_tokens.specs.declared.token.TokenFault.TheVariants.{NoMemory, Unbalanced}
use Rattle.mt_tokens.proofs.Cuts.{front_cuts}
use Rattle.mt_tokens.proofs.Fronts.{front_fits}
use Rattle.mt_tokens.proofs.Scans.{end-push, scan-after, scan-before, scan-suc}

-- ---- the next token

-- what a chain of two answers comes from
pub and_then_ok : {T U : Type 0} (r : Result T TokenFault) (next : T → Result U TokenFault) (y : U) → and_then r next ≡ Ok y → (x : T) × (r ≡ Ok x) × (next x ≡ Ok y)
and_then_ok (Ok x) next y h = (x, refl, h)
and_then_ok (Err e) next y h = absurd (cc)

fitted : (test : Bool) (e : TokenFault) (t u : Token) → cond test (Err e) (Ok t) ≡ Ok u → t ≡ u
fitted true e t u h = absurd (cc)
fitted false e t u h = cc

-- a token at a place: what it begins with there, and that it is within the text
pub record Begins (text : List ℕ) (place : ℕ) (t : Token) : Type 0 where
  pub starts : t.start ≡ place
  pub later : place < t.end
  pub within : t.end ≤ length text
  pub cut : IsUtf8 (drop place text) → IsUtf8 (drop t.end text)

made : (text : List ℕ) (before : Before) (place : ℕ) (kind : TokenKind) (n : ℕ) → front_of before place (drop place text) ≡ Ok (kind, n) → Begins text place (record { kind = kind; start = place; end = place + n })
made text before place kind n e =
    let f = front_fits before place (drop place text) kind n e in
    let d = length-drop place text in
    let p = f.0 in
    let l = f.1 in
    record {
      starts = refl;
      later = omega arith;
      within = omega arith;
      cut = λ u. subst (λ ds. IsUtf8 ds) (drop-drop n place text) (front_cuts before place (drop place text) kind n e u);
    }

made_by : (text : List ℕ) (before : Before) (place : ℕ) (r : Result (TokenKind × ℕ) TokenFault) (t : Token) → front_of before place (drop place text) ≡ r → and_then r (λ f. Ok (record { kind = f.0; start = place; end = place + f.1 })) ≡ Ok t → Begins text place t
made_by text before place (Err e) t f h = absurd (cc)
made_by text before place (Ok (kind, n)) t f h =
    let is : record { kind = kind; start = place; end = place + n } ≡ t = cc in
    subst (Begins text place) is (made text before place kind n f)

pub token_begins : (text : List ℕ) (before : Before) (place : ℕ) (t : Token) → token_at text before place ≡ Ok t → Begins text place t
token_begins text before place t h = made_by text before place (front_of before place (drop place text)) t refl h

pub next_begins : (text : List ℕ) (found : List Token) (t : Token) → next_token text found ≡ Ok t → Begins text (end_of found) t
next_begins text found t h =
    let a = and_then_ok (token_at text (before_next text found) (end_of found)) (fitting text (open_in text found)) t h in
    let s = fitted (is_misfit (closing text a.0) (open_in text found)) (Unbalanced a.0.start) a.0 t a.2 in
    subst (Begins text (end_of found)) s (token_begins text (before_next text found) (end_of found) a.0 a.1)

-- ---- one more token

taken : (found us : List Token) → take (length found) (found ++ us) ≡ found
taken [] us = refl
taken (t ∷ ts) us = ap (λ l. t ∷ l) (taken ts us)

got : (found us : List Token) (t : Token) → slice_get (found ++ t ∷ us) (length found) ≡ Some t
got [] us t = refl
got (u ∷ found) us t = got found us t

-- each token of a list with one more is one of the list, or that one
got_push : (found : List Token) (t : Token) (k : ℕ) (u : Token) → slice_get (found ++ t ∷ []) k ≡ Some u
    → ((slice_get found k ≡ Some u) × (take k (found ++ t ∷ []) ≡ take k found)) ⊎ ((u ≡ t) × (take k (found ++ t ∷ []) ≡ found))
got_push [] t zero u h = inr (cc, refl)
got_push [] t (suc k) u h = absurd (cc)
got_push (x ∷ found) t zero u h = inl (h, refl)
got_push (x ∷ found) t (suc k) u h = elim (got_push found t k u h) [
  | inl a ↦ inl (a.0, ap (λ l. x ∷ l) a.1)
  | inr b ↦ inr (b.0, ap (λ l. x ∷ l) b.1)
]

follow_push : (text : List ℕ) (found : List Token) (t : Token) → FollowOneAnother text found → next_token text found ≡ Ok t → FollowOneAnother text (found ++ t ∷ [])
follow_push text found t each h k u e = elim (got_push found t k u e) [
  | inl a ↦ ap (next_token text) a.1 ∙ each k u a.0
  | inr b ↦ ap (next_token text) b.1 ∙ h ∙ ap Ok (sym b.0)
]

follow_next : (text : List ℕ) (found us : List Token) (t : Token) → FollowOneAnother text (found ++ t ∷ us) → next_token text found ≡ Ok t
follow_next text found us t each = sym (ap (next_token text) (taken found (t ∷ us))) ∙ each (length found) t (got found us t)

follow_none : (text : List ℕ) → FollowOneAnother text []
follow_none text k t h = absurd (cc)

covers_push : (from to : ℕ) (found : List Token) (t : Token) → Covers from to found → t.start ≡ to → to < t.end → Covers from t.end (found ++ t ∷ [])
covers_push from to [] t c s l = let e : from ≡ to = c in (omega arith, omega arith, refl)
covers_push from to (u ∷ us) t c s l = (c.0, c.1, covers_push u.end to us t c.2 s l)

-- the tokens found cut the text between characters
pub record AreCut (text : List ℕ) (found : List Token) : Type 0 where
  pub all : All (IsCut text) found
  pub rest : IsUtf8 (drop (end_of found) text)

-- the tokens found up to a place
pub record Reaches (text : List ℕ) (found : List Token) : Type 0 where
  pub within : end_of found ≤ length text
  pub few : length found ≤ end_of found
  pub each : FollowOneAnother text found
  pub covers : Covers 0 (end_of found) found
  pub cuts : IsUtf8 text → AreCut text found

cuts_push : (text : List ℕ) (found : List Token) (t : Token) → end_of found ≤ length text → Begins text (end_of found) t → AreCut text found → AreCut text (found ++ t ∷ [])
cuts_push text found t l b c =
    let later = b.cut c.rest in
    let start : IsCharBoundary text t.start = subst (IsCharBoundary text) (sym b.starts) (IsCharBoundary-from_drop text (end_of found) l c.rest) in
    let end : IsCharBoundary text t.end = IsCharBoundary-from_drop text t.end b.within later in
    record {
      all = All-append (IsCut text) found (t ∷ []) c.all (All-cons (IsCut text) t [] (start, end) (All-nil (IsCut text)));
      rest = subst (λ n. IsUtf8 (drop n text)) (sym (end-push 0 found t)) later;
    }

reaches_none : (text : List ℕ) → Reaches text []
reaches_none text = record { within = omega arith; few = omega arith; each = follow_none text; covers = refl; cuts = λ u. record { all = All-nil (IsCut text); rest = u } }

reaches_push : (text : List ℕ) (found : List Token) (t : Token) → Reaches text found → next_token text found ≡ Ok t → Reaches text (found ++ t ∷ [])
reaches_push text found t r h =
    let b = next_begins text found t h in
    let e = end-push 0 found t in
    let w = b.within in
    let l = b.later in
    let f = r.few in
    record {
      within = omega arith;
      few = omega (arith, length-append found (t ∷ []));
      each = follow_push text found t r.each h;
      covers = subst (λ n. Covers 0 n (found ++ t ∷ [])) (sym e) (covers_push 0 (end_of found) found t r.covers b.starts l);
      cuts = λ u. cuts_push text found t r.within b (r.cuts u);
    }

-- ---- what the scan answers

-- the tokens of a text, or its first fault
abbrev pub Answers : List ℕ → Result (List Token) TokenFault → Type 0
Answers text (Ok ts) = HasTokens text ts × Covers 0 (length text) ts × (IsUtf8 text → All (IsCut text) ts)
Answers text (Err e) = HasFault text e

none_open : (openers : List Unclosed) → innermost_place openers ≡ None → openers ≡ []
none_open [] h = refl
none_open (o ∷ os) h = absurd (cc)

at_end : (text : List ℕ) (found : List Token) → Reaches text found → end_of found ≡ length text → Answers text (closed text found)
at_end text found r e =
    elim (innermost_place (open_in text found)) as (λ o. innermost_place (open_in text found) ≡ o → Answers text (option_map_or (λ place. Err (Unbalanced place)) o (Ok found))) [
      | None ↦ λ o. (record { each = r.each; whole = e; closed = none_open (open_in text found) o }, subst (λ n. Covers 0 n found) e r.covers, λ u. (r.cuts u).all)
      | Some p ↦ λ o. record { found = found; each = r.each; fault = inr (e, ap (option_map Unbalanced) o) }
    ] refl

-- a fault of the next token, or what comes after it
goes_on :
    (text : List ℕ) (found : List Token) (most : ℕ) (r : Result Token TokenFault) → Reaches text found → end_of found < length text → next_token text found ≡ r →
    ((t : Token) → next_token text found ≡ Ok t → Answers text (scan most text (found ++ t ∷ []))) → Answers text (and_then r (λ t. scan most text (found ++ t ∷ [])))
goes_on text found most (Err e) r l h more = record { found = found; each = r.each; fault = inl (l, h) }
goes_on text found most (Ok t) r l h more = more t h

pub scan_answers : (most : ℕ) (text : List ℕ) (found : List Token) → length text ≤ end_of found + most → Reaches text found → Answers text (scan most text found)
scan_answers zero text found m r = let w = r.within in at_end text found r (omega arith)
scan_answers (suc most) text found m r =
    elim (leb_tells (length text) (end_of found)) [
      | inl p ↦
          let w = r.within in
          let a = p.1 in
          subst (Answers text) (sym (scan-after (suc most) text found a)) (at_end text found r (omega arith))
      | inr p ↦ subst (Answers text) (sym (scan-suc most text found p.1)) (goes_on text found most (next_token text found) r p.1 refl
          (λ t h.
          let b = next_begins text found t h in
          let e = end-push 0 found t in
          let l = b.later in
          scan_answers most text (found ++ t ∷ []) (omega arith) (reaches_push text found t r h)))
    ]

pub tokens_answers : (text : List ℕ) → Answers text (tokens_of text)
tokens_answers text = scan_answers (length text) text [] (omega arith) (reaches_none text)

-- ---- and nothing else

-- tokens that follow those found are as many as bytes at most
follow_within : (text : List ℕ) (found rest : List Token) → Reaches text found → FollowOneAnother text (found ++ rest) → (end_of found + length rest ≤ end_of (found ++ rest)) × Reaches text (found ++ rest)
follow_within text found [] r each =
    let e = append-nil found in
    let s : end_of (found ++ []) ≡ end_of found = ap end_of e in
    (omega arith, subst (Reaches text) (sym e) r)
follow_within text found (t ∷ rest) r each =
    let h = follow_next text found rest t each in
    let b = next_begins text found t h in
    let a = append_assoc found (t ∷ []) rest in
    let i = follow_within text (found ++ t ∷ []) rest (reaches_push text found t r h) (subst (FollowOneAnother text) (sym a) each) in
    let e = end-push 0 found t in
    let s : end_of ((found ++ t ∷ []) ++ rest) ≡ end_of (found ++ t ∷ rest) = ap end_of a in
    let l = b.later in
    let n = i.0 in
    (omega arith, subst (Reaches text) a i.1)

-- the scan goes on over the tokens that come next
scan_along :
    (text : List ℕ) (most : ℕ) (found rest : List Token) → length rest ≤ most → FollowOneAnother text (found ++ rest) →
    scan most text found ≡ scan (most - length rest) text (found ++ rest)
scan_along text most found [] m each =
    let whole : most ≡ most - 0 = omega arith in
    ap (λ ts. scan most text ts) (sym (append-nil found)) ∙ ap (λ n. scan n text (found ++ [])) whole
scan_along text zero found (t ∷ rest) m each = absurd (omega arith)
scan_along text (suc most) found (t ∷ rest) m each =
    let h = follow_next text found rest t each in
    let b = next_begins text found t h in
    let l = b.later in
    let w = b.within in
    let same = append_assoc found (t ∷ []) rest in
    let one_less : most - length rest ≡ suc most - suc (length rest) = omega arith in
    let on = scan_along text most (found ++ t ∷ []) rest (omega arith) (subst (FollowOneAnother text) (sym same) each) in
    scan-suc most text found (omega arith)
    ∙ ap (λ r. and_then r (λ t. scan most text (found ++ t ∷ []))) h
    ∙ on
    ∙ ap (λ ts. scan (most - length rest) text ts) same
    ∙ ap (λ n. scan n text (found ++ t ∷ rest)) one_less

scan_over : (text : List ℕ) (ts : List Token) → FollowOneAnother text ts → (tokens_of text ≡ scan (length text - length ts) text ts) × Reaches text ts
scan_over text ts each =
    let w = follow_within text [] ts (reaches_none text) each in
    let n = w.0 in
    let i = w.1.within in
    (scan_along text (length text) [] ts (omega arith) each, w.1)

pub only_tokens : (text : List ℕ) (ts : List Token) → HasTokens text ts → tokens_of text ≡ Ok ts
only_tokens text ts h =
    let whole = h.whole in
    (scan_over text ts h.each).0
    ∙ scan-after (length text - length ts) text ts (omega arith)
    ∙ ap (λ openers. option_map_or (λ place. Err (Unbalanced place)) (innermost_place openers) (Ok ts)) h.closed

place_of_some : (o : Option ℕ) (ts : List Token) (e : TokenFault) → option_map Unbalanced o ≡ Some e → option_map_or (λ place. Err (Unbalanced place)) o (Ok ts) ≡ Err e
place_of_some None ts e h = absurd (cc)
place_of_some (Some p) ts e h = cc

pub only_fault : (text : List ℕ) (e : TokenFault) → HasFault text e → tokens_of text ≡ Err e
only_fault text e h =
    let o = scan_over text h.found h.each in
    let few = o.1.few in
    o.0
    ∙ elim h.fault [
      | inl a ↦
          let l = a.0 in
          scan-before (length text - length h.found) text h.found (omega arith) l
          ∙ ap (λ r. and_then r (λ t. scan (length text - length h.found - 1) text (h.found ++ t ∷ []))) a.1
      | inr u ↦
          let w = u.0 in
          scan-after (length text - length h.found) text h.found (omega arith) ∙ place_of_some (innermost_place (open_in text h.found)) h.found e u.1
    ]

-- ---- the call's answer

told : (text : List ℕ) (ts : List Token) → (Ok ts ≡ Err NoMemory) ⊎ (Ok ts ≡ tokens_of text) → Answers text (Ok ts)
told text ts h = elim h [
  | inl e ↦ absurd (cc)
  | inr e ↦ subst (Answers text) (sym e) (tokens_answers text)
]

pub has_tokens : (text : List ℕ) (r : Result (List Token) TokenFault) → (r ≡ Err NoMemory) ⊎ (r ≡ tokens_of text) → IfOk r (HasTokens text)
has_tokens text (Err e) h = tt
has_tokens text (Ok ts) h = (told text ts h).0

pub covers_text : (text : List ℕ) (r : Result (List Token) TokenFault) → (r ≡ Err NoMemory) ⊎ (r ≡ tokens_of text) → IfOk r (Covers 0 (length text))
covers_text text (Err e) h = tt
covers_text text (Ok ts) h = (told text ts h).1

pub cuts_text : (text : List ℕ) (r : Result (List Token) TokenFault) → IsUtf8 text → (r ≡ Err NoMemory) ⊎ (r ≡ tokens_of text) → IfOk r (All (IsCut text))
cuts_text text (Err e) u h = tt
cuts_text text (Ok ts) u h = (told text ts h).2 u

-- the same of the definition
pub tokens_of_covers : (text : List ℕ) (ts : List Token) → tokens_of text ≡ Ok ts → Covers 0 (length text) ts
tokens_of_covers text ts h = (subst (Answers text) h (tokens_answers text)).1

pub tokens_of_cut : (text : List ℕ) (ts : List Token) → IsUtf8 text → tokens_of text ≡ Ok ts → All (IsCut text) ts
tokens_of_cut text ts u h = (subst (Answers text) h (tokens_answers text)).2 u

pub has_fault : (text : List ℕ) (r : Result (List Token) TokenFault) → (r ≡ Err NoMemory) ⊎ (r ≡ tokens_of text) → IfErr r (λ e. (e ≡ NoMemory) ⊎ HasFault text e)
has_fault text (Ok ts) h = tt
has_fault text (Err f) h = elim h [
  | inl e ↦ inl (cc)
  | inr e ↦ inr (subst (Answers text) (sym e) (tokens_answers text))
]
