-- The stack of openers is what looking back finds.
use Rattle.std.proofs.Common.{arith, ◌≡◌, ◌≢◌, ◌+◌, ◌-◌, ℕ, Bool, true, false, List, [], ◌∷◌, ◌++◌, drop, map, reverse, Option, Some, refl, sym, ap, subst, ◌∙◌}
use Rattle.std.specs.Prelude.{◌==◌, if◌then◌else◌, slice_get}
use Rattle.std.proofs.lemmas.Bool.Decides.{nat_tests}
use Rattle.std.proofs.lemmas.List.{reverse-append, append-nil}
use Rattle.std.proofs.lemmas.List.Elements.{filter-append}
use Rattle.mt_tokens.specs.Brackets.{Unclosed, closed_by, closing, first_byte, innermost_place, is_in_template, is_misfit, opening, unclosed}
use Rattle.mt_tokens.specs.Goals.{goal, is_operand_after, kind_goal, operand_after_innermost}
use Rattle.mt_tokens.specs.Openers.{is_kept_in_template, kept_place}
use Rattle.mt_tokens.specs.Scanners.{Follows, Stands, kept}
use Rattle.mt_tokens.specs.Tokens.{before_next, looking_back, open_in}
use Rattle.mt_tokens.specs.Words.{bytes_of, is_seen, seen}
use Rattle.mt_tokens.specs.declared.brackets.Opener.{Opener}
use Rattle.mt_tokens.specs.declared.front.Before.{Before}
use Rattle.mt_tokens.specs.declared.scanner.Scanner.{Scanner}
use Rattle.mt_tokens.specs.declared.token.Token.{Token}
use Rattle.mt_tokens.specs.declared.token.TokenKind.{TokenKind}
use Rattle.mt_tokens.specs.declared.token.TokenKind.TheVariants.{Space, Comment, Ident, Private, Number, Str, Whole, Head, Middle, Tail, Regex, Punct}

-- one more closer takes the innermost opener
pub unclosed-more : (text : List ℕ) (closers : ℕ) (back : List Token) → unclosed text (closers + 1) back ≡ drop 1 (unclosed text closers back)
unclosed-more text closers [] = refl
unclosed-more text closers (t ∷ back) =
    let more = unclosed-more text (closers + 1) back in
    let same = unclosed-more text closers back in
    let less = unclosed-more text (closers - 1) back in
    grind (arith, nat_tests)

-- the openers after one more token: what it closes is taken, and what it opens is put there
abbrev pub openers_after : List ℕ → Token → List Token → List Unclosed → List Unclosed
openers_after text t back openers =
    if opening text t == 0 then drop (if closing text t == 0 then 0 else 1) openers
    else record { place = t.start; closer = opening text t; before = back } ∷ drop (if closing text t == 0 then 0 else 1) openers

pub unclosed-push : (text : List ℕ) (t : Token) (back : List Token) → unclosed text 0 (t ∷ back) ≡ openers_after text t back (unclosed text 0 back)
unclosed-push text t back =
    let more = unclosed-more text 0 back in
    grind (arith, nat_tests)

-- an opener is taken from the stack that has it on top
pub closes_innermost : (text : List ℕ) (closed : ℕ) (openers : List Unclosed) (o : Opener) (rest : List Opener) → o ∷ rest ≡ map (kept text) openers → o.closer ≡ closed → closed ≢ 0 → (is_misfit closed openers ≡ false) × (rest ≡ map (kept text) (drop (if closed == 0 then 0 else 1) openers)) × (closed ≢ 0 → o.operand ≡ operand_after_innermost text openers)
closes_innermost text closed [] o rest e h n = grind arith
closes_innermost text closed (p ∷ ps) o rest e h n = grind (arith, nat_tests)

-- whether an operand comes after what is closed counts only where something is closed
pub kind_goal_same : (text : List ℕ) (k : TokenKind) (word : List ℕ) (closed : ℕ) (last : Option Token) (a b : Bool) → (closed ≢ 0 → a ≡ b) → kind_goal text k word closed last a ≡ kind_goal text k word closed last b
kind_goal_same text Space word closed last a b h = refl
kind_goal_same text Comment word closed last a b h = refl
kind_goal_same text Ident word closed last a b h = refl
kind_goal_same text Private word closed last a b h = refl
kind_goal_same text Number word closed last a b h = refl
kind_goal_same text Str word closed last a b h = refl
kind_goal_same text Whole word closed last a b h = refl
kind_goal_same text Head word closed last a b h = refl
kind_goal_same text Middle word closed last a b h = refl
kind_goal_same text Tail word closed last a b h = refl
kind_goal_same text Regex word closed last a b h = refl
kind_goal_same text Punct word closed last a b h = grind (arith, nat_tests)

-- the openers after one more token, as they are kept
kept_push :
    (text : List ℕ) (t : Token) (back : List Token) (openers : List Unclosed) (one two : List Opener) (opened closed : ℕ) → opened ≡ opening text t → closed ≡ closing text t →
    one ≡ map (kept text) (drop (if closed == 0 then 0 else 1) openers) →
    two ≡ (if opened == 0 then one else record { place = t.start; closer = opened; operand = is_operand_after text opened (slice_get back 0) (slice_get back 1) } ∷ one) →
    two ≡ map (kept text) (openers_after text t back openers)
kept_push text t back openers one two opened closed o c e f = grind (arith, nat_tests)

-- one more token is read, from what its bytes say and what closing and opening did
pub stands_read :
    (text : List ℕ) (t : Token) (back : List Token) (zero one two : List Opener) (last earlier : Option Token) (opened closed : ℕ) (inner operand : Bool) →
    zero ≡ map (kept text) (unclosed text 0 back) → last ≡ slice_get back 0 → earlier ≡ slice_get back 1 →
    opened ≡ opening text t → closed ≡ closing text t →
    ((openers : List Unclosed) → zero ≡ map (kept text) openers → (is_misfit closed openers ≡ false) × (one ≡ map (kept text) (drop (if closed == 0 then 0 else 1) openers)) × (closed ≢ 0 → inner ≡ operand_after_innermost text openers)) →
    two ≡ (if opened == 0 then one else record { place = t.start; closer = opened; operand = is_operand_after text opened last earlier } ∷ one) →
    operand ≡ kind_goal text t.kind (bytes_of text t) closed last inner →
    (is_misfit (closing text t) (unclosed text 0 back) ≡ false) × Stands text (t ∷ back) (record { openers = two; last = Some t; earlier = last; operand = operand })
stands_read text t back zero one two last earlier opened closed inner operand z l e o c x y w =
    let u = x (unclosed text 0 back) z in
    let y' : two ≡ (if opened == 0 then one else record { place = t.start; closer = opened; operand = is_operand_after text opened (slice_get back 0) (slice_get back 1) } ∷ one) = rw (sym l, sym e) y in
    let p = kept_push text t back (unclosed text 0 back) one two opened closed o c u.1 y' in
    let g = kind_goal_same text t.kind (bytes_of text t) closed last inner (operand_after_innermost text (unclosed text 0 back)) u.2 in (
      rw (sym c) u.0,
      record {
        openers = p ∙ ap (map (kept text)) (sym (unclosed-push text t back));
        last = refl;
        earlier = l;
        operand = rw (sym c, sym l) (w ∙ g);
      },
    )

-- ---- blanks and comments are passed

-- a token at the end of a list, as it is seen
seen-push : (found : List Token) (t : Token) → seen (found ++ t ∷ []) ≡ seen found ++ (if is_seen t.kind then t ∷ [] else [])
seen-push found t = filter-append (λ (u : Token). is_seen u.kind) found (t ∷ [])

pub back_unseen : (found : List Token) (t : Token) → is_seen t.kind ≡ false → looking_back (found ++ t ∷ []) ≡ looking_back found
back_unseen found t h =
    let e : (if is_seen t.kind then t ∷ [] else []) ≡ [] = ap (λ b. if b then t ∷ [] else []) h in
    ap reverse (seen-push found t ∙ ap (λ ts. seen found ++ ts) e ∙ append-nil (seen found))

pub back_seen : (found : List Token) (t : Token) → is_seen t.kind ≡ true → looking_back (found ++ t ∷ []) ≡ t ∷ looking_back found
back_seen found t h =
    let e : (if is_seen t.kind then t ∷ [] else []) ≡ t ∷ [] = ap (λ b. if b then t ∷ [] else []) h in
    ap reverse (seen-push found t ∙ ap (λ ts. seen found ++ ts) e) ∙ reverse-append (seen found) (t ∷ [])

unseen_closes : (k : TokenKind) (b : ℕ) → is_seen k ≡ false → closed_by k b ≡ 0
unseen_closes Space b h = refl
unseen_closes Comment b h = refl
unseen_closes Ident b h = refl
unseen_closes Private b h = refl
unseen_closes Number b h = refl
unseen_closes Str b h = refl
unseen_closes Whole b h = refl
unseen_closes Head b h = refl
unseen_closes Middle b h = absurd (cc)
unseen_closes Tail b h = absurd (cc)
unseen_closes Regex b h = refl
unseen_closes Punct b h = absurd (cc)

nothing_fits : (openers : List Unclosed) → is_misfit 0 openers ≡ false
nothing_fits [] = refl
nothing_fits (o ∷ openers) = refl

-- the state stays
pub follows_unseen : (text : List ℕ) (found : List Token) (t : Token) (s : Scanner) → is_seen t.kind ≡ false → Follows text found s → (is_misfit (closing text t) (open_in text found) ≡ false) × Follows text (found ++ t ∷ []) s
follows_unseen text found t s h f =
    (ap (λ b. is_misfit b (open_in text found)) (unseen_closes t.kind (first_byte text t) h) ∙ nothing_fits (open_in text found), subst (λ back. Stands text back s) (sym (back_unseen found t h)) f)

-- the state is that after one more token
pub follows_seen :
    (text : List ℕ) (found : List Token) (t : Token) (old new : Scanner) → is_seen t.kind ≡ true →
    ((back : List Token) → Stands text back old → (is_misfit (closing text t) (unclosed text 0 back) ≡ false) × Stands text (t ∷ back) new) →
    Follows text found old → (is_misfit (closing text t) (open_in text found) ≡ false) × Follows text (found ++ t ∷ []) new
follows_seen text found t old new h more f =
    let m = more (looking_back found) f in
    (m.0, subst (λ back. Stands text back new) (sym (back_seen found t h)) m.1)

-- ---- what the innermost opener tells

kept_template : (text : List ℕ) (openers : List Unclosed) → is_kept_in_template (map (kept text) openers) ≡ is_in_template openers
kept_template text [] = refl
kept_template text (o ∷ openers) = refl

kept_places : (text : List ℕ) (openers : List Unclosed) → kept_place (map (kept text) openers) ≡ innermost_place openers
kept_places text [] = refl
kept_places text (o ∷ openers) = refl

pub tells_before : (text : List ℕ) (found : List Token) (s : Scanner) (b : Before) → b.operand ≡ s.operand → b.in_template ≡ is_kept_in_template s.openers → Follows text found s → b ≡ before_next text found
tells_before text found s b o t f =
    let operand : b.operand ≡ goal text (looking_back found) = o ∙ f.operand in
    let template : b.in_template ≡ is_in_template (open_in text found) = t ∙ ap is_kept_in_template f.openers ∙ kept_template text (open_in text found) in
    λ i. record { operand = operand i; in_template = template i }

pub tells_innermost : (text : List ℕ) (found : List Token) (s : Scanner) (p : Option ℕ) → p ≡ kept_place s.openers → Follows text found s → p ≡ innermost_place (open_in text found)
tells_innermost text found s p e f = e ∙ ap kept_place f.openers ∙ kept_places text (open_in text found)
