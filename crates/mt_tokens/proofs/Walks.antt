-- The walks of comments, strings, templates and regular expressions, a byte at a time.
use Rattle.std.proofs.Common.{ℕ, Bool, true, false, ◌≡◌, ◌<◌, ◌≤◌, ◌+◌, ◌-◌, List, [], ◌∷◌, length, drop, get_or, nat_lt, ◌≢◌, arith, refl, sym, ap, ◌∙◌, cond, eqb, Option, Some, None, suc, zero}
use Rattle.std.specs.Option.{option_map}
use Rattle.std.specs.List.{starts_with}
use Rattle.std.proofs.lemmas.List.{drop_all, get_or-drop, drop-drop}
use Rattle.std.proofs.lemmas.Bool.Decides.{nat_tests}
use Rattle.mt_chars.specs.LineEnds.{begins_line_end, escape_len}
use Rattle.mt_chars.proofs.Rests.{drop_front}
use Rattle.mt_tokens.specs.Comments.{line_len, block_len}
use Rattle.mt_tokens.specs.Templates.{is_free, opens_hole, piece_len}
use Rattle.mt_tokens.specs.Regexes.{body_len, ends_body, is_class_after}
use Rattle.mt_tokens.specs.Strings.{closing_len}

-- lengths that are counted on from a later place
pub counted_on : (x : Option ℕ) (at more : ℕ) → option_map (λ n. n + at) (option_map (λ n. n + more) x) ≡ option_map (λ n. n + (at + more)) x
counted_on None at more = refl
counted_on (Some n) at more = ap Some (omega arith)

pub counted_none : (x : Option ℕ) → option_map (λ n. n + 0) x ≡ x
counted_none None = refl
counted_none (Some n) = ap Some (omega arith)

pub counted_from : (x : Option ℕ) (more : ℕ) → option_map (λ n. n + 1) (option_map (λ n. n + more) x) ≡ option_map (λ n. n + suc more) x
counted_from None more = refl
counted_from (Some n) more = ap Some (omega arith)

pub counted_twice : (x : Option ℕ) (at more : ℕ) → option_map (λ n. n + at) (option_map (λ n. n + 1) (option_map (λ n. n + more) x)) ≡ option_map (λ n. n + (at + 1 + more)) x
counted_twice None at more = refl
counted_twice (Some n) at more = ap Some (omega arith)

-- a byte that begins no line end is passed
pub line_more : (rest : List ℕ) (at : ℕ) → at < length rest → begins_line_end (drop at rest) ≡ false → at + line_len (drop at rest) ≡ at + 1 + line_len (drop (at + 1) rest)
line_more rest at h e =
    let d = drop_front rest at h in
    let e' : begins_line_end (get_or rest at 0 ∷ drop (at + 1) rest) ≡ false = rw d at e in
    let l : line_len (drop at rest) ≡ line_len (drop (at + 1) rest) + 1 = rw d (rw e' refl) in
    omega arith

-- the line ends where a line end begins
pub line_stop : (rest : List ℕ) (at : ℕ) → at < length rest → begins_line_end (drop at rest) ≡ true → line_len (drop at rest) ≡ 0
line_stop rest at h e =
    let d = drop_front rest at h in
    let e' : begins_line_end (get_or rest at 0 ∷ drop (at + 1) rest) ≡ true = rw d at e in
    rw d (rw e' refl)

-- a byte where no `*/` begins is passed
pub block_more : (rest : List ℕ) (at : ℕ) → at < length rest → starts_with eqb (drop at rest) (42 ∷ 47 ∷ []) ≡ false → option_map (λ n. n + at) (block_len (drop at rest)) ≡ option_map (λ n. n + (at + 1)) (block_len (drop (at + 1) rest))
block_more rest at h e =
    let d = drop_front rest at h in
    let e' : starts_with eqb (get_or rest at 0 ∷ drop (at + 1) rest) (42 ∷ 47 ∷ []) ≡ false = rw d at e in
    let l : block_len (drop at rest) ≡ option_map (λ n. n + 1) (block_len (drop (at + 1) rest)) = rw d (rw e' refl) in
    rw l (counted_on (block_len (drop (at + 1) rest)) at 1)

-- the comment ends with `*/`
pub block_stop : (rest : List ℕ) (at : ℕ) → at < length rest → starts_with eqb (drop at rest) (42 ∷ 47 ∷ []) ≡ true → block_len (drop at rest) ≡ Some 2
block_stop rest at h e =
    let d = drop_front rest at h in
    let e' : starts_with eqb (get_or rest at 0 ∷ drop (at + 1) rest) (42 ∷ 47 ∷ []) ≡ true = rw d at e in
    rw d (rw e' refl)

-- bytes that a `\` takes are passed
pub closing_taken : (quote taken : ℕ) (rest : List ℕ) → closing_len quote taken rest ≡ option_map (λ n. n + taken) (closing_len quote 0 (drop taken rest))
closing_taken quote zero rest = sym (counted_none (closing_len quote 0 rest))
closing_taken quote (suc taken) [] = refl
closing_taken quote (suc taken) (b ∷ rest) =
    let f : suc taken - 1 ≡ taken = omega arith in
    let s : 1 + taken ≡ suc taken = omega arith in
    let t : nat_lt 0 (suc taken) ≡ true = grind (arith, nat_tests) in
    rw (t, f, closing_taken quote taken rest) (counted_from (closing_len quote 0 (drop taken rest)) taken)

-- a byte that is no quote and no line end is passed, with what a `\` takes
pub closing_pass :
    (quote : ℕ) (rest : List ℕ) (at b taken : ℕ) →
    at < length rest → get_or rest at 0 ≡ b → b ≢ quote → b ≢ 10 → b ≢ 13 →
    taken ≡ cond (eqb b 92) (escape_len (drop (at + 1) rest)) 0 →
    option_map (λ n. n + at) (closing_len quote 0 (drop at rest)) ≡ option_map (λ n. n + (at + 1 + taken)) (closing_len quote 0 (drop (at + 1 + taken) rest))
closing_pass quote rest at b taken h g q l r k =
    let q' : eqb b quote ≡ false = grind (arith, nat_tests) in
    let l' : eqb b 10 ≡ false = grind (arith, nat_tests) in
    let r' : eqb b 13 ≡ false = grind (arith, nat_tests) in
    let d : drop at rest ≡ b ∷ drop (at + 1) rest = drop_front rest at h ∙ ap (λ x. x ∷ drop (at + 1) rest) g in
    let c : closing_len quote 0 (drop at rest) ≡ option_map (λ n. n + 1) (closing_len quote taken (drop (at + 1) rest)) = rw (d, k) (rw (q', l', r') refl) in
    let e : closing_len quote taken (drop (at + 1) rest) ≡ option_map (λ n. n + taken) (closing_len quote 0 (drop (at + 1 + taken) rest)) =
    closing_taken quote taken (drop (at + 1) rest) ∙ ap (λ x. option_map (λ n. n + taken) (closing_len quote 0 x)) (drop-drop taken (at + 1) rest) in
    rw (c, e) (counted_twice (closing_len quote 0 (drop (at + 1 + taken) rest)) at taken)

-- ---- pieces of templates, and regular expressions

-- a length that is found after some bytes
pub counted_stop : (x y : Option ℕ) (at k m : ℕ) → x ≡ option_map (λ n. n + at) y → y ≡ Some k → m ≡ at + k → Some m ≡ x
counted_stop x y at k m e f g =
    let h : m ≡ k + at = omega arith in
    ap Some h ∙ sym (e ∙ ap (option_map (λ n. n + at)) f)

-- none is found after some bytes
pub counted_end : (x y : Option ℕ) (at : ℕ) → x ≡ option_map (λ n. n + at) y → y ≡ None → None ≡ x
counted_end x y at e f = sym (e ∙ ap (option_map (λ n. n + at)) f)

next_byte : (rest : List ℕ) (at : ℕ) → get_or (drop (at + 1) rest) 0 0 ≡ get_or rest (at + 1) 0
next_byte rest at = let z : at + 1 + 0 ≡ at + 1 = omega arith in get_or-drop (at + 1) rest 0 0 ∙ ap (λ n. get_or rest n 0) z

piece_front :
    (taken : Bool) (rest : List ℕ) (at : ℕ) → at < length rest →
    piece_len taken (drop at rest)
    ≡ cond (is_free taken (get_or rest at 0) 96) (Some 1)
    (cond (opens_hole taken (get_or rest at 0) (get_or rest (at + 1) 0)) (Some 2) (option_map (λ n. n + 1) (piece_len (is_free taken (get_or rest at 0) 92) (drop (at + 1) rest))))
piece_front taken rest at h =
    let b = get_or rest at 0 in
    ap (piece_len taken) (drop_front rest at h)
    ∙ ap (λ x. cond (is_free taken b 96) (Some 1) (cond (opens_hole taken b x) (Some 2) (option_map (λ n. n + 1) (piece_len (is_free taken b 92) (drop (at + 1) rest))))) (next_byte rest at)

pub piece_stop : (taken : Bool) (rest : List ℕ) (at : ℕ) → at < length rest → is_free taken (get_or rest at 0) 96 ≡ true → piece_len taken (drop at rest) ≡ Some 1
piece_stop taken rest at h e =
    let later = option_map (λ n. n + 1) (piece_len (is_free taken (get_or rest at 0) 92) (drop (at + 1) rest)) in
    piece_front taken rest at h ∙ ap (λ t. cond t (Some 1) (cond (opens_hole taken (get_or rest at 0) (get_or rest (at + 1) 0)) (Some 2) later)) e

-- past the test of a backtick
piece_open :
    (taken : Bool) (rest : List ℕ) (at : ℕ) → at < length rest → is_free taken (get_or rest at 0) 96 ≡ false →
    piece_len taken (drop at rest)
    ≡ cond (opens_hole taken (get_or rest at 0) (get_or rest (at + 1) 0)) (Some 2) (option_map (λ n. n + 1) (piece_len (is_free taken (get_or rest at 0) 92) (drop (at + 1) rest)))
piece_open taken rest at h e =
    let later = option_map (λ n. n + 1) (piece_len (is_free taken (get_or rest at 0) 92) (drop (at + 1) rest)) in
    piece_front taken rest at h ∙ ap (λ t. cond t (Some 1) (cond (opens_hole taken (get_or rest at 0) (get_or rest (at + 1) 0)) (Some 2) later)) e

pub piece_hole :
    (taken : Bool) (rest : List ℕ) (at : ℕ) → at < length rest → is_free taken (get_or rest at 0) 96 ≡ false → opens_hole taken (get_or rest at 0) (get_or rest (at + 1) 0) ≡ true →
    piece_len taken (drop at rest) ≡ Some 2
piece_hole taken rest at h e f =
    let later = option_map (λ n. n + 1) (piece_len (is_free taken (get_or rest at 0) 92) (drop (at + 1) rest)) in
    piece_open taken rest at h e ∙ ap (λ t. cond t (Some 2) later) f

pub piece_pass :
    (taken : Bool) (rest : List ℕ) (at : ℕ) → at < length rest → is_free taken (get_or rest at 0) 96 ≡ false → opens_hole taken (get_or rest at 0) (get_or rest (at + 1) 0) ≡ false →
    option_map (λ n. n + at) (piece_len taken (drop at rest)) ≡ option_map (λ n. n + (at + 1)) (piece_len (is_free taken (get_or rest at 0) 92) (drop (at + 1) rest))
piece_pass taken rest at h e f =
    let later = piece_len (is_free taken (get_or rest at 0) 92) (drop (at + 1) rest) in
    let p : piece_len taken (drop at rest) ≡ option_map (λ n. n + 1) later = piece_open taken rest at h e ∙ ap (λ t. cond t (Some 2) (option_map (λ n. n + 1) later)) f in
    ap (option_map (λ n. n + at)) p ∙ counted_on later at 1

body_front :
    (in_class taken : Bool) (rest : List ℕ) (at : ℕ) → at < length rest →
    body_len in_class taken (drop at rest)
    ≡ cond (begins_line_end (drop at rest)) None
    (cond (ends_body in_class taken (get_or rest at 0)) (Some 1)
    (option_map (λ n. n + 1) (body_len (is_class_after in_class taken (get_or rest at 0)) (is_free taken (get_or rest at 0) 92) (drop (at + 1) rest))))
body_front in_class taken rest at h = rw (drop_front rest at h) refl

pub body_line : (in_class taken : Bool) (rest : List ℕ) (at : ℕ) → at < length rest → begins_line_end (drop at rest) ≡ true → body_len in_class taken (drop at rest) ≡ None
body_line in_class taken rest at h e =
    body_front in_class taken rest at h
    ∙ ap (λ t. cond t None (cond (ends_body in_class taken (get_or rest at 0)) (Some 1) (option_map (λ n. n + 1) (body_len (is_class_after in_class taken (get_or rest at 0)) (is_free taken (get_or rest at 0) 92) (drop (at + 1) rest))))) e

pub body_stop :
    (in_class taken : Bool) (rest : List ℕ) (at : ℕ) → at < length rest → begins_line_end (drop at rest) ≡ false → ends_body in_class taken (get_or rest at 0) ≡ true →
    body_len in_class taken (drop at rest) ≡ Some 1
body_stop in_class taken rest at h e f =
    body_front in_class taken rest at h
    ∙ ap (λ t. cond t None (cond (ends_body in_class taken (get_or rest at 0)) (Some 1) (option_map (λ n. n + 1) (body_len (is_class_after in_class taken (get_or rest at 0)) (is_free taken (get_or rest at 0) 92) (drop (at + 1) rest))))) e
    ∙ ap (λ t. cond t (Some 1) (option_map (λ n. n + 1) (body_len (is_class_after in_class taken (get_or rest at 0)) (is_free taken (get_or rest at 0) 92) (drop (at + 1) rest)))) f

pub body_pass :
    (in_class taken : Bool) (rest : List ℕ) (at : ℕ) → at < length rest → begins_line_end (drop at rest) ≡ false → ends_body in_class taken (get_or rest at 0) ≡ false →
    option_map (λ n. n + at) (body_len in_class taken (drop at rest))
    ≡ option_map (λ n. n + (at + 1)) (body_len (is_class_after in_class taken (get_or rest at 0)) (is_free taken (get_or rest at 0) 92) (drop (at + 1) rest))
body_pass in_class taken rest at h e f =
    let later = body_len (is_class_after in_class taken (get_or rest at 0)) (is_free taken (get_or rest at 0) 92) (drop (at + 1) rest) in
    let p : body_len in_class taken (drop at rest) ≡ option_map (λ n. n + 1) later =
    body_front in_class taken rest at h
    ∙ ap (λ t. cond t None (cond (ends_body in_class taken (get_or rest at 0)) (Some 1) (option_map (λ n. n + 1) later))) e
    ∙ ap (λ t. cond t (Some 1) (option_map (λ n. n + 1) later)) f in
    ap (option_map (λ n. n + at)) p ∙ counted_on later at 1

-- nothing is left
pub piece_past : (taken : Bool) (rest : List ℕ) (at : ℕ) → length rest ≤ at → piece_len taken (drop at rest) ≡ None
piece_past taken rest at h = ap (piece_len taken) (drop_all at rest h)

pub body_past : (in_class taken : Bool) (rest : List ℕ) (at : ℕ) → length rest ≤ at → body_len in_class taken (drop at rest) ≡ None
body_past in_class taken rest at h = ap (body_len in_class taken) (drop_all at rest h)
