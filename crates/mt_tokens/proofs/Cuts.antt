-- The token that a text begins with ends between characters.
use Rattle.std.proofs.Common.{arith, ◌≡◌, ◌==◌, ◌<◌, ◌≤◌, ◌+◌, ◌-◌, ◌||◌, ℕ, suc, Bool, true, false, cond, nat_lt, ltb, eqb, List, [], ◌∷◌, length, get_or, take, drop, refl, sym, ap, ◌∙◌, subst, Option, Some, None, Result, Ok, Err, inl, inr, IsUtf8}
use Rattle.std.specs.Cmp.Lexicographic.{pointwise}
use Rattle.std.specs.List.{list_all, starts_with}
use Rattle.std.specs.Option.{IfSome, option_map, option_map_or}
use Rattle.std.specs.Result.{IfOk}
use Rattle.std.proofs.lemmas.Bool.{and_parts, cases_Bool, ltb-true}
use Rattle.std.proofs.lemmas.Bool.Decides.{nat_tests, Decides-eqb}
use Rattle.std.proofs.lemmas.List.{get_or-take}
use Rattle.std.proofs.lemmas.Slice.Eq.{slice_eq-Decides}
use Rattle.std.proofs.lemmas.Str.{IsUtf8-drop}
use Rattle.mt_chars.specs.LineEnds.{begins_line_end, escape_len as taken_len}
use Rattle.mt_chars.specs.Names.{name_len, private_len, run_len}
use Rattle.mt_chars.specs.Numbers.{begins_number, number_len}
use Rattle.mt_chars.specs.declared.names.RunOf.TheVariants.{Blanks, Flags}
use Rattle.mt_chars.proofs.Cuts.{EndsAscii, both_cut, either_ends, ends_cut, names_cut, no_ends, number_ends, one_ends, privates_cut, runs_cut, then_ends}
use Rattle.mt_chars.proofs.Extents.{and_right}
use Rattle.mt_tokens.specs.Strings.{is_quote, closing_len}
use Rattle.mt_tokens.specs.Templates.{is_free, begins_piece, opens_hole, piece_kind, piece_len}
use Rattle.mt_tokens.specs.Comments.{begins_comment, block_len, comment_of, line_len}
use Rattle.mt_tokens.specs.Front.{front_of}
use Rattle.mt_tokens.specs.Punctuators.{is_among, is_choice_of_number, of_four, of_one, of_three, of_two, punct_len}
use Rattle.mt_tokens.specs.Regexes.{begins_regex, body_len, ends_body, is_class_after}
use Rattle.mt_tokens.specs.declared.front.Before.{Before}
use Rattle.mt_tokens.specs.declared.token.TokenKind.{TokenKind}
use Rattle.mt_tokens.specs.declared.token.TokenKind.TheVariants.{Comment, Regex, Str}
use Rattle.mt_tokens.specs.declared.token.TokenFault.{TokenFault}
use Rattle.mt_tokens.specs.declared.token.TokenFault.TheVariants.{UnclosedComment, UnclosedRegex, UnclosedString, UnclosedTemplate}
use Rattle.mt_tokens.proofs.Extents.{body_within}
use Rattle.mt_tokens.proofs.Fronts.{front_fits}

-- ---- what is closed

-- the last of so many bytes is there, and of ASCII
abbrev LastIs : List ℕ → ℕ → Type 0
LastIs rest n = (0 < n) × (get_or rest (n - 1) 0 < 128)

map_last : (b : ℕ) (rest : List ℕ) (x : Option ℕ) → IfSome x (LastIs rest) → IfSome (option_map (λ n. n + 1) x) (LastIs (b ∷ rest))
map_last b rest None h = tt
map_last b rest (Some n) h =
    let p = h.0 in
    let e : n + 1 - 1 ≡ suc (n - 1) = omega arith in
    (omega arith, subst (λ i. get_or (b ∷ rest) i 0 < 128) (sym e) h.1)

if_last : (rest : List ℕ) (test : Bool) (x y : Option ℕ) → (test ≡ true → IfSome x (LastIs rest)) → IfSome y (LastIs rest) → IfSome (cond test x y) (LastIs rest)
if_last rest true x y f g = f refl
if_last rest false x y f g = g

closing_last : (quote : ℕ) → quote < 128 → (taken : ℕ) (rest : List ℕ) → IfSome (closing_len quote taken rest) (LastIs rest)
closing_last quote q taken [] = tt
closing_last quote q taken (b ∷ rest) =
    if_last (b ∷ rest) (nat_lt 0 taken) _ _ (λ _. map_last b rest (closing_len quote (taken - 1) rest) (closing_last quote q (taken - 1) rest))
    (if_last (b ∷ rest) (b == quote) (Some 1) _ (λ h. (omega arith, let low : b < 128 = grind (arith, nat_tests) in low))
    (if_last (b ∷ rest) (b == 10 || b == 13) None _ (λ _. tt)
    (map_last b rest (closing_len quote (cond (b == 92) (taken_len rest) 0) rest) (closing_last quote q (cond (b == 92) (taken_len rest) 0) rest))))

block_two : (b : ℕ) (rest : List ℕ) → starts_with eqb (b ∷ rest) (42 ∷ 47 ∷ []) ≡ true → get_or rest 0 0 < 128
block_two b [] h = omega arith
block_two b (c ∷ rest) h = grind (arith, nat_tests)

block_last : (rest : List ℕ) → IfSome (block_len rest) (LastIs rest)
block_last [] = tt
block_last (b ∷ rest) =
    if_last (b ∷ rest) (starts_with eqb (b ∷ rest) (42 ∷ 47 ∷ [])) (Some 2) _ (λ h. (omega arith, block_two b rest h)) (map_last b rest (block_len rest) (block_last rest))

free_low : (taken : Bool) (b wanted : ℕ) → wanted < 128 → is_free taken b wanted ≡ true → b < 128
free_low taken b wanted w h = grind (arith, nat_tests)

hole_low : (taken : Bool) (b next : ℕ) → opens_hole taken b next ≡ true → next < 128
hole_low taken b next h = let t = and_right (is_free taken b 36) (next == 123) h in grind (arith, nat_tests)

piece_last : (taken : Bool) (rest : List ℕ) → IfSome (piece_len taken rest) (LastIs rest)
piece_last taken [] = tt
piece_last taken (b ∷ rest) =
    if_last (b ∷ rest) (is_free taken b 96) (Some 1) _ (λ h. (omega arith, free_low taken b 96 (omega arith) h))
    (if_last (b ∷ rest) (opens_hole taken b (get_or rest 0 0)) (Some 2) _ (λ h. (omega arith, hole_low taken b (get_or rest 0 0) h))
    (map_last b rest (piece_len (is_free taken b 92) rest) (piece_last (is_free taken b 92) rest)))

ends_low : (in_class taken : Bool) (b : ℕ) → ends_body in_class taken b ≡ true → b < 128
ends_low in_class taken b h = grind (arith, nat_tests)

body_last : (in_class taken : Bool) (rest : List ℕ) → IfSome (body_len in_class taken rest) (LastIs rest)
body_last in_class taken [] = tt
body_last in_class taken (b ∷ rest) =
    if_last (b ∷ rest) (begins_line_end (b ∷ rest)) None _ (λ _. tt)
    (if_last (b ∷ rest) (ends_body in_class taken b) (Some 1) _ (λ h. (omega arith, ends_low in_class taken b h))
    (map_last b rest (body_len (is_class_after in_class taken b) (is_free taken b 92) rest) (body_last (is_class_after in_class taken b) (is_free taken b 92) rest)))

-- ---- punctuators

among_low : (i : ℕ) (texts : List (List ℕ)) (text : List ℕ) → list_all (λ t. ltb (get_or t i 0) 128) texts ≡ true → is_among texts text ≡ true → get_or text i 0 < 128
among_low i [] text h e = absurd (cc)
among_low i (t ∷ ts) text h e =
    let a = and_parts (ltb (get_or t i 0) 128) (list_all (λ t. ltb (get_or t i 0) 128) ts) h in
    let low : get_or t i 0 < 128 = ltb-true (get_or t i 0) 128 a.0 in
    let same : pointwise (λ a b. a == b) text t ≡ true → text ≡ t = (slice_eq-Decides Decides-eqb text t _ refl).0 in
    elim (cases_Bool (pointwise (λ a b. a == b) text t)) [
      | inl y ↦ subst (λ x. get_or x i 0 < 128) (sym (same y)) low
      | inr n ↦ among_low i ts text a.1 (sym (ap (λ x. x || is_among ts text) n) ∙ e)
    ]

among_ends : (n i : ℕ) (texts : List (List ℕ)) (rest : List ℕ) → n - 1 ≡ i → i < n → list_all (λ t. ltb (get_or t i 0) 128) texts ≡ true → is_among texts (take n rest) ≡ true → EndsAscii rest n
among_ends n i texts rest e l h m p =
    let low = among_low i texts (take n rest) h m in
    let here : get_or (take n rest) i 0 ≡ get_or rest (n - 1) 0 = get_or-take n rest i 0 l ∙ ap (λ j. get_or rest j 0) (sym e) in
    omega (arith, low, here)

choice_low : (rest : List ℕ) → is_choice_of_number rest ≡ true → get_or rest 0 0 < 128
choice_low [] h = omega arith
choice_low (a ∷ []) h = grind (arith, nat_tests)
choice_low (a ∷ b ∷ rest) h = grind (arith, nat_tests)

punct_ends : (rest : List ℕ) → EndsAscii rest (punct_len rest)
punct_ends rest =
    either_ends rest (is_among of_four (take 4 rest)) 4 _ (among_ends 4 3 of_four rest refl (omega arith) refl)
    (either_ends rest (is_among of_three (take 3 rest)) 3 _ (among_ends 3 2 of_three rest refl (omega arith) refl)
    (either_ends rest (is_choice_of_number rest) 1 _ (λ h. one_ends rest (choice_low rest h))
    (either_ends rest (is_among of_two (take 2 rest)) 2 _ (among_ends 2 1 of_two rest refl (omega arith) refl)
    (either_ends rest (is_among of_one (take 1 rest)) 1 0 (among_ends 1 0 of_one rest refl (omega arith) refl) (no_ends rest)))))

-- ---- before a line end

abbrev LineEnds : List ℕ → ℕ → Type 0
LineEnds text n = (n ≤ length text) × (n < length text → 128 ≤ get_or text n 0 → 192 ≤ get_or text n 0)

line_by : (b : ℕ) (rest : List ℕ) (ends : Bool) → begins_line_end (b ∷ rest) ≡ ends → LineEnds rest (line_len rest) → LineEnds (b ∷ rest) (cond ends 0 (line_len rest + 1))
line_by b rest true e h = (omega arith, λ within high. grind (arith, nat_tests))
line_by b rest false e h =
    let next : line_len rest + 1 ≡ suc (line_len rest) = omega arith in
    let inner = h.0 in
    subst (LineEnds (b ∷ rest)) (sym next) (omega (arith, inner), λ within high. h.1 (omega (arith, within)) high)

line_ends : (text : List ℕ) → LineEnds text (line_len text)
line_ends [] = (omega arith, λ within high. absurd (omega (arith, within)))
line_ends (b ∷ rest) = line_by b rest (begins_line_end (b ∷ rest)) refl (line_ends rest)

-- ---- the kinds

-- a token that is within the text cuts it between characters
abbrev IsCutting : List ℕ → Result (TokenKind × ℕ) TokenFault → Type 0
IsCutting rest r = IfOk r (λ f. f.1 ≤ length rest → IsUtf8 rest → IsUtf8 (drop f.1 rest))

first_kind : (rest : List ℕ) (test : Bool) (here after : Result (TokenKind × ℕ) TokenFault) → (test ≡ true → IsCutting rest here) → IsCutting rest after → IsCutting rest (cond test here after)
first_kind rest true here after f g = f refl
first_kind rest false here after f g = g

-- a length that is found after some bytes
found_last : (b : ℕ) (rest : List ℕ) (kind : ℕ → TokenKind) (x : Option ℕ) (e : TokenFault) → IfSome x (LastIs rest) → IsCutting (b ∷ rest) (option_map_or (λ n. Ok (kind n, n + 1)) x (Err e))
found_last b rest kind None e h = tt
found_last b rest kind (Some n) e h =
    let m = map_last b rest (Some n) h in
    λ l u. ends_cut (b ∷ rest) (n + 1) (λ _. m.1) l u

block_by : (rest : List ℕ) (x : Option ℕ) (e : TokenFault) → IfSome x (LastIs (drop 2 rest)) → IsCutting rest (option_map_or (λ n. Ok (Comment, n + 2)) x (Err e))
block_by rest None e h = tt
block_by rest (Some n) e h =
    let p = h.0 in
    λ l u. ends_cut rest (n + 2) (then_ends rest 2 n (n + 2) (omega arith) (λ z. absurd (omega (arith, p, z))) (λ _. h.1)) l u

comment_cuts : (place : ℕ) (rest : List ℕ) → IsCutting rest (comment_of place rest)
comment_cuts place rest =
    first_kind rest (starts_with eqb rest (47 ∷ 42 ∷ [])) _ _ (λ _. block_by rest (block_len (drop 2 rest)) (UnclosedComment place) (block_last (drop 2 rest)))
    (λ l u. IsUtf8-drop rest (line_len rest) u (line_ends rest))

quote_low : (b : ℕ) → is_quote b ≡ true → b < 128
quote_low b h = grind (arith, nat_tests)

regex_by : (place b : ℕ) (rest : List ℕ) (x : Option ℕ) → IfSome x (λ n. (0 < n) × (n ≤ length rest)) → IfSome x (LastIs rest) → IsCutting (b ∷ rest) (option_map_or (λ n. Ok (Regex, n + 1 + run_len Flags (drop (n + 1) (b ∷ rest)))) x (Err (UnclosedRegex place)))
regex_by place b rest None w h = tt
regex_by place b rest (Some n) w h =
    let m = map_last b rest (Some n) h in
    let i = w.1 in
    let r = run_len Flags (drop (n + 1) (b ∷ rest)) in
    λ l u. both_cut (b ∷ rest) (n + 1) r (n + 1 + r) refl (runs_cut Flags (drop (n + 1) (b ∷ rest)) (ends_cut (b ∷ rest) (n + 1) (λ _. m.1) (omega (arith, i)) u))

front_cutting : (before : Before) (place : ℕ) (rest : List ℕ) → IsCutting rest (front_of before place rest)
front_cutting before place [] = tt
front_cutting before place (b ∷ rest) =
    first_kind (b ∷ rest) (nat_lt 0 (run_len Blanks (b ∷ rest))) _ _ (λ _ _ u. runs_cut Blanks (b ∷ rest) u)
    (first_kind (b ∷ rest) (begins_comment place (b ∷ rest)) _ _ (λ _. comment_cuts place (b ∷ rest))
    (first_kind (b ∷ rest) (nat_lt 0 (name_len (b ∷ rest))) _ _ (λ _ _ u. names_cut (b ∷ rest) u)
    (first_kind (b ∷ rest) (nat_lt 0 (private_len (b ∷ rest))) _ _ (λ _ _ u. privates_cut (b ∷ rest) u)
    (first_kind (b ∷ rest) (begins_number (b ∷ rest)) _ _ (λ _ l u. ends_cut (b ∷ rest) (number_len (b ∷ rest)) (number_ends (b ∷ rest)) l u)
    (first_kind (b ∷ rest) (is_quote b) _ _ (λ h. found_last b rest (λ _. Str) (closing_len b 0 rest) (UnclosedString place) (closing_last b (quote_low b h) 0 rest))
    (first_kind (b ∷ rest) (begins_piece before.in_template b) _ _ (λ _. found_last b rest (λ n. piece_kind b (get_or rest (n - 1) 0)) (piece_len false rest) (UnclosedTemplate place) (piece_last false rest))
    (first_kind (b ∷ rest) (begins_regex before.operand b) _ _ (λ _. regex_by place b rest (body_len false false rest) (body_within false false rest) (body_last false false rest))
    (first_kind (b ∷ rest) (nat_lt 0 (punct_len (b ∷ rest))) _ _ (λ _ l u. ends_cut (b ∷ rest) (punct_len (b ∷ rest)) (punct_ends (b ∷ rest)) l u) tt))))))))

pub front_cuts : (before : Before) (place : ℕ) (rest : List ℕ) (kind : TokenKind) (n : ℕ) → front_of before place rest ≡ Ok (kind, n) → IsUtf8 rest → IsUtf8 (drop n rest)
front_cuts before place rest kind n e u =
    let c = front_cutting before place rest in
    let d = rw e at c in
    d (front_fits before place rest kind n e).1 u
