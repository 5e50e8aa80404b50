-- The lengths of numbers, of names and of runs are within the text.
use Rattle.std.proofs.Common.{ℕ, Bool, true, false, ◌≡◌, ◌==◌, ◌<◌, ◌≤◌, ◌+◌, ◌-◌, ◌&&◌, ◌||◌, inl, inr, subst, List, [], ◌∷◌, length, drop, get_or, arith, refl, sym, ap, ◌∙◌, cond, eqb, nat_lt}
use Rattle.std.specs.List.{prefix_len, starts_with}
use Rattle.std.proofs.lemmas.List.{length-drop, get_or_past}
use Rattle.std.proofs.lemmas.List.Sums.{prefix_len-le-length}
use Rattle.std.proofs.lemmas.Bool.Decides.{leb_tells, nat_tests}
use Rattle.std.proofs.lemmas.Bool.{ltb-true}
use Rattle.unicode_ident.proofs.IdentLemmas.{is_xid_start-ascii, is_xid_continue-ascii}
use Rattle.mt_chars.specs.Classes.{char_len, first_char, is_digit, is_hex_digit, is_number_part, is_part, is_space, is_start}
use Rattle.mt_chars.specs.LineEnds.{escape_len}
use Rattle.mt_chars.specs.Names.{code_len, name_escape_len, name_len, private_len, run_after, run_len, start_len, unit_len}
use Rattle.mt_chars.specs.Numbers.{begins_base, begins_number, is_digit_part, fraction_len, sign_len, exponent_len, and_after, number_len}
use Rattle.mt_chars.specs.declared.names.RunOf.{RunOf}
use Rattle.mt_chars.specs.declared.names.RunOf.TheVariants.{Blanks, NameParts, Flags}
use Rattle.mt_chars.proofs.Characters.{first_char_short}

-- a `\` takes two bytes at most
pub escape_few : (rest : List ℕ) → escape_len rest ≤ 2
escape_few rest = elim (starts_with eqb rest (13 ∷ 10 ∷ [])) as (λ t. cond t 2 1 ≤ 2) [ true ↦ omega arith | false ↦ omega arith ]

-- a length that a test chooses, or none
pub choose_within : (test : Bool) (x n : ℕ) → (test ≡ true → x ≤ n) → cond test x 0 ≤ n
choose_within true x n f = f refl
choose_within false x n f = omega arith

-- one length or another
pub pick_within : (test : Bool) (x y n : ℕ) → (test ≡ true → (0 < x) × (x ≤ n)) → (0 < y) × (y ≤ n) → (0 < cond test x y) × (cond test x y ≤ n)
pick_within true x y n f g = f refl
pick_within false x y n f g = g

pub and_right : (a b : Bool) → (a && b) ≡ true → b ≡ true
and_right true b h = h
and_right false b h = absurd (cc)

-- two parts are within the text, one after the other
pub and_after_within : (p q : List ℕ → ℕ) → ((r : List ℕ) → p r ≤ length r) → ((r : List ℕ) → q r ≤ length r) → (r : List ℕ) → and_after p q r ≤ length r
and_after_within p q f g r = omega (arith, f r, g (drop (p r) r), length-drop (p r) r)

pub fraction_within : (r : List ℕ) → fraction_len r ≤ length r
fraction_within [] = omega arith
fraction_within (b ∷ r) =
    let p = prefix_len-le-length is_digit_part r in choose_within (b == 46) (prefix_len is_digit_part r + 1) (length (b ∷ r)) (λ _. omega arith)

-- a digit is within the text
pub digit_within : (r : List ℕ) (at : ℕ) → is_digit (get_or r at 0) ≡ true → at < length r
digit_within r at h =
    let past : length r ≤ at → get_or r at 0 ≡ 0 = get_or_past r at 0 in
    grind (arith, nat_tests)

pub exponent_within : (r : List ℕ) → exponent_len r ≤ length r
exponent_within r =
    let at = sign_len (drop 1 r) + 1 in
    choose_within ((get_or r 0 0 == 101 || get_or r 0 0 == 69) && is_digit (get_or r at 0)) (prefix_len is_digit (drop at r) + at) (length r)
    (λ h.
    let d = digit_within r at (and_right (get_or r 0 0 == 101 || get_or r 0 0 == 69) (is_digit (get_or r at 0)) h) in
    omega (arith, d, prefix_len-le-length is_digit (drop at r), length-drop at r))

-- a number of another base has two bytes
pub base_within : (b : ℕ) (rest : List ℕ) → begins_base (b ∷ rest) ≡ true → 2 ≤ length (b ∷ rest)
base_within b [] h = let f : false ≡ true = and_right (b == 48) false h in absurd (cc)
base_within b (c ∷ rest) h = omega arith

-- where no digit begins a number, `.` does
pub or_second : (d e u n : Bool) → (d || (e && n)) ≡ true → (d || u) ≡ false → e ≡ true
or_second true e u n h g = absurd (cc)
or_second false true u n h g = refl
or_second false false u n h g = absurd (cc)

-- a number of base ten has a byte
pub decimal_some :
    (b : ℕ) (rest : List ℕ) (tail : List ℕ → ℕ) (digit : Bool) → is_digit_part b ≡ digit → begins_number (b ∷ rest) ≡ true →
    0 < and_after (prefix_len is_digit_part) (and_after fraction_len tail) (b ∷ rest)
decimal_some b rest tail true e h =
    let p : prefix_len is_digit_part (b ∷ rest) ≡ 1 + prefix_len is_digit_part rest = ap (λ t. cond t (1 + prefix_len is_digit_part rest) 0) e in
    omega (arith, p)
decimal_some b rest tail false e h =
    let p : prefix_len is_digit_part (b ∷ rest) ≡ 0 = ap (λ t. cond t (1 + prefix_len is_digit_part rest) 0) e in
    let d : (b == 46) ≡ true = or_second (is_digit b) (b == 46) (b == 95) (is_digit (get_or rest 0 0)) h e in
    let f : fraction_len (b ∷ rest) ≡ prefix_len is_digit_part rest + 1 = ap (λ t. cond t (prefix_len is_digit_part rest + 1) 0) d in
    rw p (omega (arith, f))

pub number_within : (b : ℕ) (rest : List ℕ) → begins_number (b ∷ rest) ≡ true → (0 < number_len (b ∷ rest)) × (number_len (b ∷ rest) ≤ length (b ∷ rest))
number_within b rest h =
    let part = prefix_len is_number_part in
    pick_within (begins_base (b ∷ rest)) (part (drop 2 (b ∷ rest)) + 2) (and_after (prefix_len is_digit_part) (and_after fraction_len (and_after exponent_len part)) (b ∷ rest)) (length (b ∷ rest))
    (λ t.
    let l = base_within b rest t in
    (omega arith, omega (arith, l, prefix_len-le-length is_number_part (drop 2 (b ∷ rest)), length-drop 2 (b ∷ rest)))) (
      decimal_some b rest (and_after exponent_len part) (is_digit_part b) refl h,
      and_after_within (prefix_len is_digit_part) (and_after fraction_len (and_after exponent_len part)) (prefix_len-le-length is_digit_part)
          (and_after_within fraction_len (and_after exponent_len part) fraction_within (and_after_within exponent_len part exponent_within (prefix_len-le-length is_number_part)))
          (b ∷ rest),
    )

-- ---- characters, escapes and runs

-- a byte other than 0 is within the text
pub byte_within : (r : List ℕ) (at v : ℕ) → get_or r at 0 ≡ v → 0 < v → at < length r
byte_within r at v e p =
    let past : length r ≤ at → get_or r at 0 ≡ 0 = get_or_past r at 0 in
    grind arith

pub first_of : (a b c : Bool) → (a && b && c) ≡ true → a ≡ true
first_of true b c h = refl
first_of false b c h = absurd (cc)

pub third_of : (a b c : Bool) → (a && b && c) ≡ true → c ≡ true
third_of true true c h = h
third_of true false c h = absurd (cc)
third_of false b c h = absurd (cc)

pub either_within : (test : Bool) (x y n : ℕ) → x ≤ n → y ≤ n → cond test x y ≤ n
either_within true x y n p q = p
either_within false x y n p q = q

-- a character of a class that hasn't 0 isn't cut off
pub class_within : (class : ℕ → Bool) (rest : List ℕ) (other : ℕ) → class 0 ≡ false → other ≤ length rest → cond (class (first_char rest)) (char_len rest) other ≤ length rest
class_within class rest other z o = elim (leb_tells (char_len rest) (length rest)) [
  | inl p ↦ either_within (class (first_char rest)) (char_len rest) other (length rest) p.1 o
  | inr p ↦
      let f : class (first_char rest) ≡ false = ap class (first_char_short rest p.1) ∙ z in
      subst (λ t. cond t (char_len rest) other ≤ length rest) (sym f) o
]

pub char_fits : (class : ℕ → Bool) (rest : List ℕ) → class 0 ≡ false → class (first_char rest) ≡ true → char_len rest ≤ length rest
char_fits class rest z t = elim (leb_tells (char_len rest) (length rest)) [
  | inl p ↦ p.1
  | inr p ↦ absurd (let f : class (first_char rest) ≡ false = ap class (first_char_short rest p.1) ∙ z in let g : true ≡ false = sym t ∙ f in cc)
]

pub start_zero : is_start 0 ≡ false
start_zero = rw (is_xid_start-ascii 0 (omega arith)) refl

pub part_zero : is_part 0 ≡ false
part_zero = rw (is_xid_start-ascii 0 (omega arith), is_xid_continue-ascii 0 (omega arith)) refl

pub code_within : (rest : List ℕ) → code_len rest ≤ length rest
code_within rest =
    let n = prefix_len is_hex_digit (drop 2 rest) in
    let m = prefix_len is_hex_digit (drop 1 rest) in
    either_within (get_or rest 1 0 == 123) (cond (nat_lt 0 n && nat_lt n 7 && get_or rest (n + 2) 0 == 125) (n + 3) 0) (cond (nat_lt 3 m) 5 0) (length rest)
    (choose_within (nat_lt 0 n && nat_lt n 7 && get_or rest (n + 2) 0 == 125) (n + 3) (length rest)
    (λ h.
    let t = third_of (nat_lt 0 n) (nat_lt n 7) (get_or rest (n + 2) 0 == 125) h in
    let e : get_or rest (n + 2) 0 ≡ 125 = grind (arith, nat_tests) in
    let w = byte_within rest (n + 2) 125 e (omega arith) in omega arith))
    (choose_within (nat_lt 3 m) 5 (length rest)
    (λ h.
    let t = ltb-true 3 m h in
    omega (arith, t, prefix_len-le-length is_hex_digit (drop 1 rest), length-drop 1 rest)))

pub escape_within : (rest : List ℕ) → name_escape_len rest ≤ length rest
escape_within rest =
    let len = code_len (drop 1 rest) in
    choose_within (get_or rest 0 0 == 92 && get_or rest 1 0 == 117 && nat_lt 0 len) (len + 1) (length rest)
    (λ h.
    let t = first_of (get_or rest 0 0 == 92) (get_or rest 1 0 == 117) (nat_lt 0 len) h in
    let e : get_or rest 0 0 ≡ 92 = grind (arith, nat_tests) in
    let w = byte_within rest 0 92 e (omega arith) in
    omega (arith, w, code_within (drop 1 rest), length-drop 1 rest))

pub start_within : (rest : List ℕ) → start_len rest ≤ length rest
start_within rest = class_within is_start rest (name_escape_len rest) start_zero (escape_within rest)

pub unit_within : (of : RunOf) (rest : List ℕ) → unit_len of rest ≤ length rest
unit_within Blanks rest = class_within is_space rest 0 refl (omega arith)
unit_within NameParts rest = class_within is_part rest (name_escape_len rest) part_zero (escape_within rest)
unit_within Flags rest = class_within is_part rest 0 part_zero (omega arith)

run_after_within : (of : RunOf) (taken : ℕ) (rest : List ℕ) → run_after of taken rest ≤ length rest
run_after_within of taken [] = omega arith
run_after_within of taken (b ∷ rest) =
    let one = run_after_within of (taken - 1) rest in
    let next = run_after_within of (unit_len of (b ∷ rest) - 1) rest in
    either_within (nat_lt 0 taken) (run_after of (taken - 1) rest + 1) (cond (nat_lt 0 (unit_len of (b ∷ rest))) (run_after of (unit_len of (b ∷ rest) - 1) rest + 1) 0) (length (b ∷ rest))
    (omega arith)
    (either_within (nat_lt 0 (unit_len of (b ∷ rest))) (run_after of (unit_len of (b ∷ rest) - 1) rest + 1) 0 (length (b ∷ rest)) (omega arith) (omega arith))

pub runs_within : (of : RunOf) (rest : List ℕ) → run_len of rest ≤ length rest
runs_within of rest = run_after_within of 0 rest

pub name_within : (rest : List ℕ) → name_len rest ≤ length rest
name_within rest =
    let s = start_len rest in
    choose_within (nat_lt 0 s) (s + run_len NameParts (drop s rest)) (length rest)
    (λ _. omega (arith, start_within rest, runs_within NameParts (drop s rest), length-drop s rest))

pub private_within : (rest : List ℕ) → private_len rest ≤ length rest
private_within rest =
    let n = name_len (drop 1 rest) in
    choose_within (get_or rest 0 0 == 35 && nat_lt 0 n) (n + 1) (length rest)
    (λ h.
    let p = ltb-true 0 n (and_right (get_or rest 0 0 == 35) (nat_lt 0 n) h) in
    omega (arith, p, name_within (drop 1 rest), length-drop 1 rest))
