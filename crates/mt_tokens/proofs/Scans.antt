-- The steps of the scan.
use Rattle.std.proofs.Common.{arith, ◌≡◌, ◌<◌, ◌≤◌, ◌-◌, ℕ, zero, suc, Bool, true, false, cond, List, [], ◌∷◌, ◌++◌, length, nat_lt, refl, sym, ap, ◌∙◌, Some, None, Result, Ok, Err}
use Rattle.std.specs.Option.{option_map_or}
use Rattle.std.proofs.lemmas.List.{length-append}
use Rattle.std.proofs.lemmas.Bool.Decides.{nat_tests}
use Rattle.mt_tokens.specs.Brackets.{closing, innermost_place, is_misfit}
use Rattle.mt_tokens.specs.Tokens.{and_then, before_next, closed, end_from, end_of, fitting, next_token, open_in, scan, token_at}
use Rattle.mt_tokens.specs.declared.front.Before.{Before}
use Rattle.mt_tokens.specs.declared.token.Token.{Token}
use Rattle.mt_tokens.specs.declared.token.TokenFault.{TokenFault}
use Rattle.mt_tokens.specs.declared.token.TokenFault.TheVariants.{Unbalanced}

-- before the end the next token decides
pub scan-suc : (most : ℕ) (text : List ℕ) (found : List Token) → end_of found < length text → scan (suc most) text found ≡ and_then (next_token text found) (λ t. scan most text (found ++ t ∷ []))
scan-suc most text found h =
    let e : nat_lt (end_of found) (length text) ≡ true = grind (arith, nat_tests) in
    ap (λ b. cond b (and_then (next_token text found) (λ t. scan most text (found ++ t ∷ []))) (closed text found)) e

-- the same of a number that is not told to have one before it
pub scan-before : (most : ℕ) (text : List ℕ) (found : List Token) → 0 < most → end_of found < length text → scan most text found ≡ and_then (next_token text found) (λ t. scan (most - 1) text (found ++ t ∷ []))
scan-before zero text found m h = absurd (omega arith)
scan-before (suc most) text found m h =
    let f : most ≡ suc most - 1 = omega arith in
    scan-suc most text found h ∙ ap (λ n. and_then (next_token text found) (λ t. scan n text (found ++ t ∷ []))) f

-- at the end the openers decide
pub scan-after : (most : ℕ) (text : List ℕ) (found : List Token) → length text ≤ end_of found → scan most text found ≡ closed text found
scan-after zero text found h = refl
scan-after (suc most) text found h =
    let e : nat_lt (end_of found) (length text) ≡ false = grind (arith, nat_tests) in
    ap (λ b. cond b (and_then (next_token text found) (λ t. scan most text (found ++ t ∷ []))) (closed text found)) e

-- where tokens end with one more
pub end-push : (place : ℕ) (found : List Token) (t : Token) → end_from place (found ++ t ∷ []) ≡ t.end
end-push place [] t = refl
end-push place (u ∷ found) t = end-push u.end found t

-- ---- the state of a scan: the answer that it goes on to

abbrev pub Answers : List ℕ → List Token → Result (List Token) TokenFault → Type 0
Answers text found answer = scan (length text - length found) text found ≡ answer

-- a token at the place where those found end, that may not fit
next_is :
    (text : List ℕ) (found : List Token) (before : Before) (place : ℕ) (r : Result Token TokenFault) → before ≡ before_next text found → place ≡ end_of found → r ≡ token_at text before place →
    next_token text found ≡ and_then r (fitting text (open_in text found))
next_is text found before place r b p e =
    let f : token_at text (before_next text found) (end_of found) ≡ token_at text before place = λ i. token_at text (sym b i) (sym p i) in
    ap (λ x. and_then x (fitting text (open_in text found))) (f ∙ sym e)

fits_by : (misfit : Bool) (b : Bool) (t : Token) → misfit ≡ b → cond misfit (Err (Unbalanced t.start)) (Ok t) ≡ cond b (Err (Unbalanced t.start)) (Ok t)
fits_by misfit b t e = ap (λ x. cond x (Err (Unbalanced t.start)) (Ok t)) e

next_fits : (text : List ℕ) (found : List Token) (before : Before) (place : ℕ) (t : Token) → before ≡ before_next text found → place ≡ end_of found → Ok t ≡ token_at text before place → is_misfit (closing text t) (open_in text found) ≡ false → next_token text found ≡ Ok t
next_fits text found before place t b p e m = next_is text found before place (Ok t) b p e ∙ fits_by (is_misfit (closing text t) (open_in text found)) false t m

next_misfits : (text : List ℕ) (found : List Token) (before : Before) (place : ℕ) (t : Token) → before ≡ before_next text found → place ≡ end_of found → Ok t ≡ token_at text before place → is_misfit (closing text t) (open_in text found) ≡ true → next_token text found ≡ Err (Unbalanced t.start)
next_misfits text found before place t b p e m = next_is text found before place (Ok t) b p e ∙ fits_by (is_misfit (closing text t) (open_in text found)) true t m

scans_on : (text : List ℕ) (found : List Token) (place : ℕ) (answer : Result (List Token) TokenFault) → Answers text found answer → length found ≤ place → place ≡ end_of found → place < length text → answer ≡ and_then (next_token text found) (λ t. scan (length text - length found - 1) text (found ++ t ∷ []))
scans_on text found place answer a m p h = sym a ∙ scan-before (length text - length found) text found (omega arith) (omega arith)

-- where no token begins the scan ends
pub answer_at_fault :
    (text : List ℕ) (found : List Token) (place : ℕ) (answer : Result (List Token) TokenFault) (before : Before) (e : TokenFault) → Answers text found answer → length found ≤ place → place ≡ end_of found → place < length text →
    before ≡ before_next text found → Err e ≡ token_at text before place → answer ≡ Err e
answer_at_fault text found place answer before e a m p h b f =
    scans_on text found place answer a m p h ∙ ap (λ r. and_then r (λ t. scan (length text - length found - 1) text (found ++ t ∷ []))) (next_is text found before place (Err e) b p f)

-- a closer that doesn't fit ends the scan
pub answer_at_misfit :
    (text : List ℕ) (found : List Token) (place : ℕ) (answer : Result (List Token) TokenFault) (before : Before) (t : Token) → Answers text found answer → length found ≤ place → place ≡ end_of found → place < length text →
    before ≡ before_next text found → Ok t ≡ token_at text before place → is_misfit (closing text t) (open_in text found) ≡ true → answer ≡ Err (Unbalanced t.start)
answer_at_misfit text found place answer before t a m p h b e f =
    scans_on text found place answer a m p h ∙ ap (λ r. and_then r (λ t. scan (length text - length found - 1) text (found ++ t ∷ []))) (next_misfits text found before place t b p e f)

-- a token goes after those found
pub answer_at_token :
    (text : List ℕ) (found : List Token) (place : ℕ) (answer : Result (List Token) TokenFault) (before : Before) (t : Token) → Answers text found answer → length found ≤ place → place ≡ end_of found → place < length text →
    before ≡ before_next text found → Ok t ≡ token_at text before place → is_misfit (closing text t) (open_in text found) ≡ false → Answers text (found ++ t ∷ []) answer
answer_at_token text found place answer before t a m p h b e f =
    let c : length text - length (found ++ t ∷ []) ≡ length text - length found - 1 = omega (arith, length-append found (t ∷ [])) in
    ap (λ n. scan n text (found ++ t ∷ [])) c
    ∙ sym (scans_on text found place answer a m p h ∙ ap (λ r. and_then r (λ t. scan (length text - length found - 1) text (found ++ t ∷ []))) (next_fits text found before place t b p e f))

-- the end of the text
pub answer_at_end : (text : List ℕ) (found : List Token) (place : ℕ) (answer : Result (List Token) TokenFault) → Answers text found answer → place ≡ end_of found → length text ≤ place → closed text found ≡ answer
answer_at_end text found place answer a p h = sym (scan-after (length text - length found) text found (omega arith)) ∙ a

pub closed_none : (text : List ℕ) (found : List Token) → None ≡ innermost_place (open_in text found) → closed text found ≡ Ok found
closed_none text found o = ap (λ x. option_map_or (λ place. Err (Unbalanced place)) x (Ok found)) (sym o)

pub closed_some : (text : List ℕ) (found : List Token) (place : ℕ) → Some place ≡ innermost_place (open_in text found) → closed text found ≡ Err (Unbalanced place)
closed_some text found place o = ap (λ x. option_map_or (λ place. Err (Unbalanced place)) x (Ok found)) (sym o)
