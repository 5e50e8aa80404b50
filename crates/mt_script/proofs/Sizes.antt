-- The texts of sizes, and the numbers that they are.
use Rattle.std.proofs.Common.{◌≡◌, ◌<◌, ◌≤◌, ◌^◌, ◌==◌, ◌&&◌, ◌||◌, not, true, ltb, leb, refl, List, ℕ, zero, suc, inl, inr, length, get_or, sym, ap, ◌∙◌, arith, rules, Some, Result, lit<}
use Rattle.std.specs.Char.{is_ascii_digit}
use Rattle.std.specs.Fmt.{decimal}
use Rattle.std.specs.List.{list_all}
use Rattle.std.specs.Result.{result_ok}
use Rattle.std.specs.Str.Parse.{digits_value, ParsesUnsigned}
use Rattle.std.proofs.lemmas.Bool.{and_parts, and_from, ltb-true, lt-ltb, leb-true, le-leb, eqb-true, eqb-false, eq-eqb, not-true, or_cases, or_left, or_right, ne_eqb, cases_eq}
use Rattle.std.proofs.lemmas.Fmt.{decimal-digits_value, digits_decimal, digits_value-decimal, decimal_nonempty, first_decimal, length-decimal-le, decimal_digit}
use Rattle.std.proofs.lemmas.Result.{Ok-from_Ok_iff}
use Rattle.std.proofs.lemmas.Str.Parse.{IsNumeralModel, numerals_by_value, parse_digits, digits_value_short}
use Rattle.mt_script.specs.Heads.{is_size, size_of}
use Rattle.mt_script.proofs.Conditions.{kept}

-- the test of digits
pub own : IsNumeralModel (λ ds. list_all is_ascii_digit ds ≡ true) (digits_value 10)
own = numerals_by_value (λ ds. list_all is_ascii_digit ds ≡ true) (search rules)

-- what a size is
pub record IsSize (text : List ℕ) : Type 0 where
  pub some : 0 < length text
  pub few : length text ≤ 9
  pub first : get_or text 0 0 ≡ 48 → length text ≡ 1
  pub digits : list_all is_ascii_digit text ≡ true

first_or_one : (text : List ℕ) → (length text == 1 || not (get_or text 0 0 == 48)) ≡ true → get_or text 0 0 ≡ 48 → length text ≡ 1
first_or_one text h e =
    elim (or_cases (length text == 1) (not (get_or text 0 0 == 48)) h) [
      | inl p ↦ eqb-true (length text) 1 p
      | inr p ↦ absurd (eqb-false (get_or text 0 0) 48 (not-true (get_or text 0 0 == 48) p) e)
    ]

-- the test of a size
pub when_size : (text : List ℕ) → is_size text ≡ true → IsSize text
when_size text h =
    let p = and_parts (ltb 0 (length text) && leb (length text) 9 && (length text == 1 || not (get_or text 0 0 == 48))) (list_all is_ascii_digit text) h in
    let q = and_parts (ltb 0 (length text) && leb (length text) 9) (length text == 1 || not (get_or text 0 0 == 48)) p.0 in
    let s = and_parts (ltb 0 (length text)) (leb (length text) 9) q.0 in
    record { some = ltb-true 0 (length text) s.0; few = leb-true (length text) 9 s.1; first = first_or_one text q.1; digits = p.1 }

not_first : (text : List ℕ) → (get_or text 0 0 ≡ 48 → length text ≡ 1) → (length text == 1 || not (get_or text 0 0 == 48)) ≡ true
not_first text h =
    elim (cases_eq (get_or text 0 0) 48) [
      | inl e ↦ or_left (length text == 1) (not (get_or text 0 0 == 48)) (eq-eqb (length text) 1 (h e))
      | inr e ↦ or_right (length text == 1) (not (get_or text 0 0 == 48)) (ap not (ne_eqb (get_or text 0 0) 48 e))
    ]

-- and back
pub is_size_text : (text : List ℕ) → IsSize text → is_size text ≡ true
is_size_text text h =
    and_from (ltb 0 (length text) && leb (length text) 9 && (length text == 1 || not (get_or text 0 0 == 48))) (list_all is_ascii_digit text)
    (and_from (ltb 0 (length text) && leb (length text) 9) (length text == 1 || not (get_or text 0 0 == 48)) (and_from (ltb 0 (length text)) (leb (length text) 9) (lt-ltb 0 (length text) h.some) (le-leb (length text) 9 h.few)) (not_first text h.first))
    h.digits

-- a size is below 10 ^ 9
pub size_short : (text : List ℕ) → IsSize text → digits_value 10 text < 10 ^ 9
size_short text h = digits_value_short own text 9 h.digits h.few

-- what `parse` gives of a size
pub parsed_size : {E : Type 0} (text : List ℕ) (r : Result ℕ E) → ParsesUnsigned 32 10 text r → is_size text ≡ true → result_ok r ≡ size_of text
parsed_size text r h size =
    let s = when_size text size in
    let short = size_short text s in
    let small : digits_value 10 text < 2 ^ 32 = omega arith in
    let found = Ok-from_Ok_iff r _ (digits_value 10 text) (parse_digits own 32 text r h s.digits) (s.some, small) in
    rw (found, size) refl

-- only the text of 0 begins with `0`
zero_only : (n : ℕ) → n < 2 ^ 64 → get_or (decimal n) 0 0 ≡ 48 → length (decimal n) ≡ 1
zero_only zero big e = ap length (decimal_digit 0 (lit< tt))
zero_only (suc n) big e = absurd (omega (arith, first_decimal (suc n) (omega arith) big))

-- the decimal text of a number below 10 ^ 9 is its size
pub size_of_decimal : (n : ℕ) → n < 10 ^ 9 → size_of (decimal n) ≡ Some n
size_of_decimal n small =
    let big : n < 2 ^ 64 = omega arith in
    let value : digits_value 10 (decimal n) ≡ n = digits_value-decimal own n big in
    let size : is_size (decimal n) ≡ true = is_size_text (decimal n) (record {
      some = decimal_nonempty n big;
      few = length-decimal-le 9 n (omega arith) small big;
      first = λ e. zero_only n big e;
      digits = digits_decimal own n big;
    }) in
    rw size (ap Some value)

-- a text that has a size is the decimal text of it
pub decimal_of_size : (text : List ℕ) (n : ℕ) → size_of text ≡ Some n → decimal n ≡ text
decimal_of_size text n h =
    let p = kept (is_size text) (digits_value 10 text) n h in
    let s = when_size text p.0 in
    let short = size_short text s in
    ap decimal (sym p.1) ∙ decimal-digits_value own text s.digits s.some s.first (omega arith)
