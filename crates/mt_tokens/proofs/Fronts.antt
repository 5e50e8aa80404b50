-- The token that a text begins with is not empty, and within the text.
use Rattle.std.proofs.Common.{Bool, arith, ◌≡◌, ◌==◌, ◌<◌, ◌≤◌, ◌+◌, ◌-◌, true, false, nat_lt, cond, ℕ, List, [], ◌∷◌, length, refl, get_or, take, drop, Result, Ok, Err, Option, Some, None, eqb, sym}
use Rattle.std.specs.List.{list_all, starts_with}
use Rattle.std.specs.Result.{IfOk}
use Rattle.std.specs.Cmp.Lexicographic.{pointwise}
use Rattle.std.specs.Option.{option_map_or, IfSome}
use Rattle.std.proofs.lemmas.List.{length-take, length-drop}
use Rattle.std.proofs.lemmas.Bool.Decides.{nat_tests, Decides-eqb}
use Rattle.std.proofs.lemmas.Bool.{ltb-true}
use Rattle.std.proofs.lemmas.Slice.Eq.{slice_eq-Decides}
use Rattle.mt_chars.specs.Numbers.{begins_number}
use Rattle.mt_chars.proofs.Extents.{name_within, number_within, private_within, runs_within}
use Rattle.mt_chars.specs.Names.{name_len, private_len, run_len}
use Rattle.mt_chars.specs.declared.names.RunOf.TheVariants.{Blanks, Flags}
use Rattle.mt_tokens.specs.Front.{front_of}
use Rattle.mt_tokens.specs.Comments.{begins_comment, comment_of, block_len}
use Rattle.mt_tokens.specs.Strings.{string_of, closing_len, is_quote}
use Rattle.mt_tokens.proofs.Extents.{starts_within, block_within, body_within, closing_within, comment_some, line_within, piece_within}
use Rattle.mt_tokens.specs.declared.token.TokenKind.TheVariants.{Comment, Regex, Str}
use Rattle.mt_tokens.specs.declared.token.TokenFault.TheVariants.{UnclosedComment, UnclosedRegex, UnclosedString, UnclosedTemplate}
use Rattle.mt_tokens.specs.Regexes.{begins_regex, body_len, regex_of}
use Rattle.mt_tokens.specs.Templates.{begins_piece, piece_kind, piece_len, piece_of}
use Rattle.mt_tokens.specs.declared.front.Before.{Before}
use Rattle.mt_tokens.specs.Punctuators.{punct_len, is_among, of_four, of_three, of_two, of_one, is_choice_of_number}
use Rattle.mt_tokens.specs.declared.token.TokenKind.{TokenKind}
use Rattle.mt_tokens.specs.declared.token.TokenFault.{TokenFault}

-- a text among texts of one length has that length
pub among_length : (n : ℕ) (texts : List (List ℕ)) (text : List ℕ) → list_all (λ t. length t == n) texts ≡ true → is_among texts text ≡ true → length text ≡ n
among_length n [] text h e = absurd (cc)
among_length n (t ∷ ts) text h e =
    let same : pointwise (λ a b. a == b) text t ≡ true → text ≡ t = (slice_eq-Decides Decides-eqb text t _ refl).0 in
    let others : list_all (λ t. length t == n) ts ≡ true → is_among ts text ≡ true → length text ≡ n = among_length n ts text in
    grind (arith, nat_tests)

-- a text that begins with one of texts of one length is as long
pub among_within : (n : ℕ) (texts : List (List ℕ)) (rest : List ℕ) → list_all (λ t. length t == n) texts ≡ true → is_among texts (take n rest) ≡ true → n ≤ length rest
among_within n texts rest h e = let l = among_length n texts (take n rest) h e in omega (arith, l, length-take n rest)

-- a length chosen by five tests in a row
pub chosen_length :
    (four three number two one : Bool) (n : ℕ) →
    (four ≡ true → 4 ≤ n) → (three ≡ true → 3 ≤ n) → (two ≡ true → 2 ≤ n) → 1 ≤ n →
    cond four 4 (cond three 3 (cond number 1 (cond two 2 (cond one 1 0)))) ≤ n
chosen_length true three number two one n f t w o = f refl
chosen_length false true number two one n f t w o = t refl
chosen_length false false true two one n f t w o = o
chosen_length false false false true one n f t w o = w refl
chosen_length false false false false true n f t w o = o
chosen_length false false false false false n f t w o = omega arith

-- the punctuator that a text begins with is within it
pub punct_within : (b : ℕ) (rest : List ℕ) → punct_len (b ∷ rest) ≤ length (b ∷ rest)
punct_within b rest =
    let some : 1 ≤ length (b ∷ rest) = omega arith in
    chosen_length (is_among of_four (take 4 (b ∷ rest))) (is_among of_three (take 3 (b ∷ rest))) (is_choice_of_number (b ∷ rest))
    (is_among of_two (take 2 (b ∷ rest)))
    (is_among of_one (take 1 (b ∷ rest)))
    (length (b ∷ rest))
    (among_within 4 of_four (b ∷ rest) refl)
    (among_within 3 of_three (b ∷ rest) refl)
    (among_within 2 of_two (b ∷ rest) refl)
    some

-- a token is not empty, and within the text
abbrev pub IsWithin : List ℕ → Result (TokenKind × ℕ) TokenFault → Type 0
IsWithin rest r = IfOk r (λ f. (0 < f.1) × (f.1 ≤ length rest))

-- one kind, or the kinds after it
pub first_kind : (rest : List ℕ) (test : Bool) (here after : Result (TokenKind × ℕ) TokenFault) → (test ≡ true → IsWithin rest here) → IsWithin rest after → IsWithin rest (cond test here after)
first_kind rest true here after f g = f refl
first_kind rest false here after f g = g

-- a length that is found, of a kind, or a fault
pub found_within : (rest : List ℕ) (kind : ℕ → TokenKind) (more : ℕ) (x : Option ℕ) (e : TokenFault) → 0 < more → IfSome x (λ n. n + more ≤ length rest) → IsWithin rest (option_map_or (λ n. Ok (kind n, n + more)) x (Err e))
found_within rest kind more None e m h = tt
found_within rest kind more (Some n) e m h = (omega arith, h)

-- the bound of a length that is found after some bytes
pub found_after : (x : Option ℕ) (k m n : ℕ) → IfSome x (λ i. i ≤ k) → k + m ≤ n → IfSome x (λ i. i + m ≤ n)
found_after None k m n h l = tt
found_after (Some i) k m n h l = omega arith

pub comment_within : (place b : ℕ) (rest : List ℕ) → begins_comment place (b ∷ rest) ≡ true → IsWithin (b ∷ rest) (comment_of place (b ∷ rest))
comment_within place b rest h =
    let block = block_len (drop 2 (b ∷ rest)) in
    first_kind (b ∷ rest) (starts_with eqb (b ∷ rest) (47 ∷ 42 ∷ [])) _ _
    (λ t.
    let l = starts_within (b ∷ rest) (47 ∷ 42 ∷ []) t in
    found_within (b ∷ rest) (λ _. Comment) 2 block (UnclosedComment place) (omega arith)
    (found_after block (length (drop 2 (b ∷ rest))) 2 (length (b ∷ rest)) (block_within (drop 2 (b ∷ rest))) (omega (arith, l, length-drop 2 (b ∷ rest)))))
    (comment_some place b rest h, line_within (b ∷ rest))

pub string_within : (place b : ℕ) (rest : List ℕ) → IsWithin (b ∷ rest) (string_of place (b ∷ rest))
string_within place b rest =
    found_within (b ∷ rest) (λ _. Str) 1 (closing_len b 0 rest) (UnclosedString place) (omega arith)
    (found_after (closing_len b 0 rest) (length rest) 1 (length (b ∷ rest)) (closing_within b 0 rest) (omega arith))

inside_after : (x : Option ℕ) (k m n : ℕ) → IfSome x (λ i. (0 < i) × (i ≤ k)) → k + m ≤ n → IfSome x (λ i. i + m ≤ n)
inside_after None k m n h l = tt
inside_after (Some i) k m n h l = let w = h.1 in omega (arith, w)

pub template_within : (place b : ℕ) (rest : List ℕ) → IsWithin (b ∷ rest) (piece_of place (b ∷ rest))
template_within place b rest =
    found_within (b ∷ rest) (λ n. piece_kind b (get_or rest (n - 1) 0)) 1 (piece_len false rest) (UnclosedTemplate place) (omega arith)
    (inside_after (piece_len false rest) (length rest) 1 (length (b ∷ rest)) (piece_within false rest) (omega arith))

regex_by : (place b : ℕ) (rest : List ℕ) (x : Option ℕ) → IfSome x (λ n. (0 < n) × (n ≤ length rest)) → IsWithin (b ∷ rest) (option_map_or (λ n. Ok (Regex, n + 1 + run_len Flags (drop (n + 1) (b ∷ rest)))) x (Err (UnclosedRegex place)))
regex_by place b rest None h = tt
regex_by place b rest (Some n) h =
    let w = h.1 in
    let r = runs_within Flags (drop (n + 1) (b ∷ rest)) in
    let d = length-drop (n + 1) (b ∷ rest) in
    (omega arith, omega (arith, w, r, d))

pub regex_within : (place b : ℕ) (rest : List ℕ) → IsWithin (b ∷ rest) (regex_of place (b ∷ rest))
regex_within place b rest = regex_by place b rest (body_len false false rest) (body_within false false rest)

-- whatever the token is
pub front_within : (before : Before) (place : ℕ) (rest : List ℕ) → IsWithin rest (front_of before place rest)
front_within before place [] = tt
front_within before place (b ∷ rest) =
    first_kind (b ∷ rest) (nat_lt 0 (run_len Blanks (b ∷ rest))) _ _ (λ h. (ltb-true 0 (run_len Blanks (b ∷ rest)) h, runs_within Blanks (b ∷ rest)))
    (first_kind (b ∷ rest) (begins_comment place (b ∷ rest)) _ _ (comment_within place b rest)
    (first_kind (b ∷ rest) (nat_lt 0 (name_len (b ∷ rest))) _ _ (λ h. (ltb-true 0 (name_len (b ∷ rest)) h, name_within (b ∷ rest)))
    (first_kind (b ∷ rest) (nat_lt 0 (private_len (b ∷ rest))) _ _ (λ h. (ltb-true 0 (private_len (b ∷ rest)) h, private_within (b ∷ rest)))
    (first_kind (b ∷ rest) (begins_number (b ∷ rest)) _ _ (number_within b rest)
    (first_kind (b ∷ rest) (is_quote b) _ _ (λ _. string_within place b rest)
    (first_kind (b ∷ rest) (begins_piece before.in_template b) _ _ (λ _. template_within place b rest)
    (first_kind (b ∷ rest) (begins_regex before.operand b) _ _ (λ _. regex_within place b rest)
    (first_kind (b ∷ rest) (nat_lt 0 (punct_len (b ∷ rest))) _ _ (λ h. (ltb-true 0 (punct_len (b ∷ rest)) h, punct_within b rest)) tt))))))))

-- the token at a place ends after it, and within the text
pub front_ends : (before : Before) (place : ℕ) (text : List ℕ) (kind : TokenKind) (n : ℕ) → place ≤ length text → Ok (kind, n) ≡ front_of before place (take (length text - place) (drop place text)) → (place < place + n) × (place + n ≤ length text)
front_ends before place text kind n h e =
    let rest = take (length text - place) (drop place text) in
    let w = front_within before place rest in
    let l : (0 < n) × (n ≤ length rest) = rw (sym e) at w in
    let t : length rest ≤ length text - place = omega (arith, length-take (length text - place) (drop place text)) in
    (omega arith, omega arith)

-- a token is not empty, and within the rest of the text
pub front_fits : (before : Before) (place : ℕ) (rest : List ℕ) (kind : TokenKind) (n : ℕ) → front_of before place rest ≡ Ok (kind, n) → (0 < n) × (n ≤ length rest)
front_fits before place rest kind n e = let w = front_within before place rest in rw e at w
