-- Tokens that are told by their first byte.
use Rattle.std.proofs.Common.{arith, ◌≡◌, ◌<◌, ◌∙◌, ℕ, Bool, true, false, List, [], ◌∷◌, length, refl, subst, sym, get_or, Ok, eqb, inl, inr, codes}
use Rattle.std.specs.Prelude.{◌==◌, ◌&&◌, nat_lt}
use Rattle.std.specs.Char.{is_ascii_alphabetic}
use Rattle.std.specs.Str.{continuation_len}
use Rattle.std.proofs.lemmas.Bool.Decides.{nat_tests}
use Rattle.std.specs.List.{AllByRecursion, list_any}
use Rattle.std.proofs.lemmas.Bool.{eqb-true, false≢true, or_cases}
use Rattle.mt_chars.specs.Classes.{is_space, is_start}
use Rattle.mt_chars.specs.Names.{name_escape_len, name_len, private_len, run_len, start_len, unit_len}
use Rattle.mt_chars.specs.Numbers.{begins_number}
use Rattle.mt_chars.specs.declared.names.RunOf.TheVariants.{Blanks}
use Rattle.mt_chars.proofs.Characters.{first_char_one, is_start_ascii}
use Rattle.mt_chars.proofs.Runs.{run-stop}
use Rattle.mt_tokens.specs.Comments.{begins_comment}
use Rattle.mt_tokens.specs.Front.{front_of}
use Rattle.mt_tokens.specs.Punctuators.{is_lone, punct_len}
use Rattle.mt_tokens.specs.Regexes.{begins_regex}
use Rattle.mt_tokens.specs.Strings.{is_quote}
use Rattle.mt_tokens.specs.Templates.{begins_piece}
use Rattle.mt_tokens.specs.declared.front.Before.{Before}
use Rattle.mt_tokens.specs.declared.token.TokenKind.TheVariants.{Ident, Punct}
use lib.Utf8.{scalar}
use Rattle.mt_tokens.proofs.FirstKinds.{front_other, other_is_punct}
use Rattle.mt_tokens.proofs.Punctuation.{punct_len_by_bytes}

-- ---- punctuators

-- what no kind before the punctuators may begin with, and nothing longer
record Alone (before : Before) (place b : ℕ) (rest : List ℕ) : Type 0 where
  ascii : continuation_len b ≡ 0
  space : is_space b ≡ false
  start : is_start b ≡ false
  escape : name_escape_len (b ∷ rest) ≡ 0
  comment : begins_comment place (b ∷ rest) ≡ false
  private : private_len (b ∷ rest) ≡ 0
  number : begins_number (b ∷ rest) ≡ false
  quote : is_quote b ≡ false
  piece : begins_piece before.in_template b ≡ false
  regex : begins_regex before.operand b ≡ false
  len : punct_len (b ∷ rest) ≡ 1

alone : (before : Before) (place b : ℕ) (rest : List ℕ) → Alone before place b rest → front_of before place (b ∷ rest) ≡ Ok (Punct, 1)
alone before place b rest a =
    let first = first_char_one (b ∷ rest) (rw a.ascii (omega arith)) in
    let u : unit_len Blanks (b ∷ rest) ≡ 0 = rw (first, a.space) refl in
    let s : start_len (b ∷ rest) ≡ 0 = rw (first, a.start) a.escape in
    let n : name_len (b ∷ rest) ≡ 0 = rw s refl in
    front_other before place (b ∷ rest) (run-stop Blanks (b ∷ rest) u) a.comment n
    ∙ other_is_punct before place (b ∷ rest) (omega arith) a.private a.number a.quote a.piece a.regex
    ∙ rw a.len refl

never : (p : Bool) → (p && false) ≡ false
never true = refl
never false = refl

-- each of them is alone
semicolon : (before : Before) (place : ℕ) (rest : List ℕ) → Alone before place 59 rest
semicolon before place rest =
    record { ascii = refl; space = refl; start = is_start_ascii 59 (omega arith) ∙ refl; escape = refl; comment = never (place == 0); private = refl; number = refl; quote = refl; piece = refl; regex = refl; len = punct_len_by_bytes (59 ∷ rest) ∙ refl }

comma : (before : Before) (place : ℕ) (rest : List ℕ) → Alone before place 44 rest
comma before place rest =
    record { ascii = refl; space = refl; start = is_start_ascii 44 (omega arith) ∙ refl; escape = refl; comment = never (place == 0); private = refl; number = refl; quote = refl; piece = refl; regex = refl; len = punct_len_by_bytes (44 ∷ rest) ∙ refl }

open_parenthesis : (before : Before) (place : ℕ) (rest : List ℕ) → Alone before place 40 rest
open_parenthesis before place rest =
    record { ascii = refl; space = refl; start = is_start_ascii 40 (omega arith) ∙ refl; escape = refl; comment = never (place == 0); private = refl; number = refl; quote = refl; piece = refl; regex = refl; len = punct_len_by_bytes (40 ∷ rest) ∙ refl }

close_parenthesis : (before : Before) (place : ℕ) (rest : List ℕ) → Alone before place 41 rest
close_parenthesis before place rest =
    record { ascii = refl; space = refl; start = is_start_ascii 41 (omega arith) ∙ refl; escape = refl; comment = never (place == 0); private = refl; number = refl; quote = refl; piece = refl; regex = refl; len = punct_len_by_bytes (41 ∷ rest) ∙ refl }

open_brace : (before : Before) (place : ℕ) (rest : List ℕ) → Alone before place 123 rest
open_brace before place rest =
    record { ascii = refl; space = refl; start = is_start_ascii 123 (omega arith) ∙ refl; escape = refl; comment = never (place == 0); private = refl; number = refl; quote = refl; piece = refl; regex = refl; len = punct_len_by_bytes (123 ∷ rest) ∙ refl }

open_bracket : (before : Before) (place : ℕ) (rest : List ℕ) → Alone before place 91 rest
open_bracket before place rest =
    record { ascii = refl; space = refl; start = is_start_ascii 91 (omega arith) ∙ refl; escape = refl; comment = never (place == 0); private = refl; number = refl; quote = refl; piece = refl; regex = refl; len = punct_len_by_bytes (91 ∷ rest) ∙ refl }

close_bracket : (before : Before) (place : ℕ) (rest : List ℕ) → Alone before place 93 rest
close_bracket before place rest =
    record { ascii = refl; space = refl; start = is_start_ascii 93 (omega arith) ∙ refl; escape = refl; comment = never (place == 0); private = refl; number = refl; quote = refl; piece = refl; regex = refl; len = punct_len_by_bytes (93 ∷ rest) ∙ refl }

-- a byte of a list
among : (b : ℕ) (P : ℕ → Type 0) (cs : List ℕ) → list_any (eqb b) cs ≡ true → AllByRecursion P cs → P b
among b P [] h k = absurd (false≢true h)
among b P (c ∷ cs) h k = elim (or_cases (eqb b c) (list_any (eqb b) cs) h) [
  | inl e ↦ subst P (sym (eqb-true b c e)) k.0
  | inr m ↦ among b P cs m k.1
]

pub front_lone : (before : Before) (place : ℕ) (rest : List ℕ) → 0 < length rest → is_lone (get_or rest 0 0) ≡ true → Ok (Punct, 1) ≡ front_of before place rest
front_lone before place [] l h = absurd (omega arith)
front_lone before place (b ∷ rest) l h =
    sym (alone before place b rest
    (among b (λ c. Alone before place c rest) (codes ";,(){[]") h
    (semicolon before place rest, (comma before place rest, (open_parenthesis before place rest, (close_parenthesis before place rest, (open_brace before place rest, (open_bracket before place rest, (close_bracket before place rest, tt)))))))))

-- ---- names that begin with a letter of ASCII

letter_bounds : (b : ℕ) → is_ascii_alphabetic b ≡ true → (64 < b) × (b < 123)
letter_bounds b h = (grind (arith, nat_tests), grind (arith, nat_tests))

no_space : (b : ℕ) → 64 < b → b < 123 → is_space b ≡ false
no_space b l h = grind (arith, nat_tests)

no_comment : (place b : ℕ) (rest : List ℕ) → 64 < b → begins_comment place (b ∷ rest) ≡ false
no_comment place b rest l = grind (arith, nat_tests)

starts : (b : ℕ) → is_ascii_alphabetic b ≡ true → b < 123 → is_start b ≡ true
starts b h l =
    let s : scalar b ≡ true = grind (arith, nat_tests) in
    is_start_ascii b (omega (arith, l)) ∙ rw (h, s) (grind (arith, nat_tests))

some_name : (before : Before) (place : ℕ) (rest : List ℕ) → run_len Blanks rest ≡ 0 → begins_comment place rest ≡ false → 0 < name_len rest → Ok (Ident, name_len rest) ≡ front_of before place rest
some_name before place [] z c n = absurd (grind (arith, nat_tests))
some_name before place (b ∷ rest) z c n =
    let y : nat_lt 0 (run_len Blanks (b ∷ rest)) ≡ false = grind (arith, nat_tests) in
    let t : nat_lt 0 (name_len (b ∷ rest)) ≡ true = grind (arith, nat_tests) in
    rw (y, c, t) refl

pub front_letter : (before : Before) (place : ℕ) (rest : List ℕ) → 0 < length rest → is_ascii_alphabetic (get_or rest 0 0) ≡ true → Ok (Ident, name_len rest) ≡ front_of before place rest
front_letter before place [] l h = absurd (omega arith)
front_letter before place (b ∷ rest) l h =
    let w = letter_bounds b h in
    let a : continuation_len b ≡ 0 = grind (arith, nat_tests) in
    let first = first_char_one (b ∷ rest) (rw a (omega arith)) in
    let u : unit_len Blanks (b ∷ rest) ≡ 0 = rw (first, no_space b w.0 w.1) refl in
    let s : start_len (b ∷ rest) ≡ 1 = rw (first, starts b h w.1, a) refl in
    let n : 0 < name_len (b ∷ rest) = rw s (omega arith) in
    some_name before place (b ∷ rest) (run-stop Blanks (b ∷ rest) u) (no_comment place b rest w.0) n
