-- Which of the kinds fits first.
use Rattle.std.proofs.Common.{arith, ◌≡◌, ◌<◌, ℕ, Bool, true, false, cond, nat_lt, List, [], ◌∷◌, length, get_or, refl, ap, ◌∙◌, Ok, Err, Result}
use Rattle.std.proofs.lemmas.Bool.Decides.{nat_tests}
use Rattle.mt_chars.specs.Names.{name_len, private_len, run_len}
use Rattle.mt_chars.specs.Numbers.{begins_number, number_len}
use Rattle.mt_chars.specs.declared.names.RunOf.TheVariants.{Blanks}
use Rattle.mt_tokens.specs.Strings.{is_quote, string_of}
use Rattle.mt_tokens.specs.Comments.{begins_comment, comment_of}
use Rattle.mt_tokens.specs.Front.{front_of, other_of}
use Rattle.mt_tokens.specs.Punctuators.{punct_of}
use Rattle.mt_tokens.specs.Regexes.{begins_regex, regex_of}
use Rattle.mt_tokens.specs.Templates.{begins_piece, piece_of}
use Rattle.mt_tokens.specs.declared.front.Before.{Before}
use Rattle.mt_tokens.specs.declared.token.TokenKind.{TokenKind}
use Rattle.mt_tokens.specs.declared.token.TokenKind.TheVariants.{Space, Ident, Private, Number}
use Rattle.mt_tokens.specs.declared.token.TokenFault.{TokenFault}
use Rattle.mt_tokens.specs.declared.token.TokenFault.TheVariants.{BadByte}

-- what a place begins with
abbrev Found : Type 0
Found = Result (TokenKind × ℕ) TokenFault

no_length : (n : ℕ) → n ≡ 0 → nat_lt 0 n ≡ false
no_length n e = grind (arith, nat_tests)

second : (p q : Bool) (x y o : Found) → p ≡ false → q ≡ true → cond p x (cond q y o) ≡ y
second p q x y o e f = ap (λ t. cond t x (cond q y o)) e ∙ ap (λ t. cond t y o) f

after_three : (p q r : Bool) (x y z o : Found) → p ≡ false → q ≡ false → r ≡ false → cond p x (cond q y (cond r z o)) ≡ o
after_three p q r x y z o e f g = ap (λ t. cond t x (cond q y (cond r z o))) e ∙ ap (λ t. cond t y (cond r z o)) f ∙ ap (λ t. cond t z o) g

pub front_comment : (before : Before) (place : ℕ) (rest : List ℕ) → run_len Blanks rest ≡ 0 → begins_comment place rest ≡ true → front_of before place rest ≡ comment_of place rest
front_comment before place [] z c = absurd (grind (arith, nat_tests))
front_comment before place (b ∷ rest) z c =
    second (nat_lt 0 (run_len Blanks (b ∷ rest))) (begins_comment place (b ∷ rest)) (Ok (Space, run_len Blanks (b ∷ rest))) (comment_of place (b ∷ rest))
    (cond (nat_lt 0 (name_len (b ∷ rest))) (Ok (Ident, name_len (b ∷ rest))) (other_of before place (b ∷ rest)))
    (no_length (run_len Blanks (b ∷ rest)) z)
    c

pub front_other :
    (before : Before) (place : ℕ) (rest : List ℕ) → run_len Blanks rest ≡ 0 → begins_comment place rest ≡ false → name_len rest ≡ 0 →
    front_of before place rest ≡ other_of before place rest
front_other before place [] z c n = refl
front_other before place (b ∷ rest) z c n =
    after_three (nat_lt 0 (run_len Blanks (b ∷ rest))) (begins_comment place (b ∷ rest)) (nat_lt 0 (name_len (b ∷ rest))) (Ok (Space, run_len Blanks (b ∷ rest))) (comment_of place (b ∷ rest))
    (Ok (Ident, name_len (b ∷ rest)))
    (other_of before place (b ∷ rest))
    (no_length (run_len Blanks (b ∷ rest)) z)
    c
    (no_length (name_len (b ∷ rest)) n)

-- past all kinds but punctuators
pub other_is_punct :
    (before : Before) (place : ℕ) (rest : List ℕ) → 0 < length rest → private_len rest ≡ 0 → begins_number rest ≡ false → is_quote (get_or rest 0 0) ≡ false →
    begins_piece before.in_template (get_or rest 0 0) ≡ false → begins_regex before.operand (get_or rest 0 0) ≡ false →
    other_of before place rest ≡ punct_of place rest
other_is_punct before place [] l p n q t r = absurd (omega arith)
other_is_punct before place (b ∷ rest) l p n q t r =
    let punct : Found = punct_of place (b ∷ rest) in
    let late : Found = cond (begins_piece before.in_template b) (piece_of place (b ∷ rest)) (cond (begins_regex before.operand b) (regex_of place (b ∷ rest)) punct) in
    after_three (nat_lt 0 (private_len (b ∷ rest))) (begins_number (b ∷ rest)) (is_quote b) (Ok (Private, private_len (b ∷ rest))) (Ok (Number, number_len (b ∷ rest)))
    (string_of place (b ∷ rest))
    late
    (no_length (private_len (b ∷ rest)) p)
    n
    q
    ∙ after_three (begins_piece before.in_template b) (begins_regex before.operand b) false (piece_of place (b ∷ rest)) (regex_of place (b ∷ rest)) (Err (BadByte place)) punct t r refl
