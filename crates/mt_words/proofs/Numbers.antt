-- The texts of numbers, and the numbers that they are.
use Rattle.std.proofs.Common.{◌≡◌, ◌<◌, ◌≤◌, ◌^◌, ◌==◌, ◌&&◌, ◌||◌, not, true, false, ltb, refl, List, ℕ, zero, suc, inl, inr, length, get_or, sym, ap, ◌∙◌, arith, rules, cond, Bool, Some, None, Result, Ok, Err, lit<}
use Rattle.std.specs.Char.{is_ascii_digit}
use Rattle.std.specs.Fmt.{decimal}
use Rattle.std.specs.List.{list_all}
use Rattle.std.specs.Result.{result_ok}
use Rattle.std.specs.Str.Parse.{digits_value, ParsesUnsigned}
use Rattle.std.proofs.lemmas.Bool.{and_parts, and_from, ltb-true, ltb-false, lt-ltb, eqb-true, eqb-false, eq-eqb, not-true, or_cases, or_left, or_right, ne_eqb, cases_eq}
use Rattle.std.proofs.lemmas.Fmt.{decimal-digits_value, digits_decimal, digits_value-decimal, decimal_nonempty, first_decimal, decimal_digit}
use Rattle.std.proofs.lemmas.Result.{Ok-from_Ok_iff}
use Rattle.std.proofs.lemmas.Str.Parse.{IsNumeralModel, numerals_by_value, parse_digits}
use Rattle.mt_words.specs.Values.{is_decimal, number_of}

-- the test of digits
pub own : IsNumeralModel (λ ds. list_all is_ascii_digit ds ≡ true) (digits_value 10)
own = numerals_by_value (λ ds. list_all is_ascii_digit ds ≡ true) (search rules)

-- what a decimal text is
pub record IsDecimal (text : List ℕ) : Type 0 where
  pub some : 0 < length text
  pub first : get_or text 0 0 ≡ 48 → length text ≡ 1
  pub digits : list_all is_ascii_digit text ≡ true

first_or_one : (text : List ℕ) → (length text == 1 || not (get_or text 0 0 == 48)) ≡ true → get_or text 0 0 ≡ 48 → length text ≡ 1
first_or_one text h e =
    elim (or_cases (length text == 1) (not (get_or text 0 0 == 48)) h) [
      | inl p ↦ eqb-true (length text) 1 p
      | inr p ↦ absurd (eqb-false (get_or text 0 0) 48 (not-true (get_or text 0 0 == 48) p) e)
    ]

-- the test of a decimal text
pub when_decimal : (text : List ℕ) → is_decimal text ≡ true → IsDecimal text
unfolding is_decimal
when_decimal text h =
    let p = and_parts (ltb 0 (length text) && (length text == 1 || not (get_or text 0 0 == 48))) (list_all is_ascii_digit text) h in
    let q = and_parts (ltb 0 (length text)) (length text == 1 || not (get_or text 0 0 == 48)) p.0 in
    record { some = ltb-true 0 (length text) q.0; first = first_or_one text q.1; digits = p.1 }

not_first : (text : List ℕ) → (get_or text 0 0 ≡ 48 → length text ≡ 1) → (length text == 1 || not (get_or text 0 0 == 48)) ≡ true
not_first text h =
    elim (cases_eq (get_or text 0 0) 48) [
      | inl e ↦ or_left (length text == 1) (not (get_or text 0 0 == 48)) (eq-eqb (length text) 1 (h e))
      | inr e ↦ or_right (length text == 1) (not (get_or text 0 0 == 48)) (ap not (ne_eqb (get_or text 0 0) 48 e))
    ]

-- and back
pub is_decimal_text : (text : List ℕ) → IsDecimal text → is_decimal text ≡ true
unfolding is_decimal
is_decimal_text text h =
    and_from (ltb 0 (length text) && (length text == 1 || not (get_or text 0 0 == 48))) (list_all is_ascii_digit text)
    (and_from (ltb 0 (length text)) (length text == 1 || not (get_or text 0 0 == 48)) (lt-ltb 0 (length text) h.some) (not_first text h.first))
    h.digits

-- a text that is no decimal text
pub no_number : (text : List ℕ) → is_decimal text ≡ false → None ≡ number_of text
unfolding number_of
no_number text h = rw h refl

number_by : (text : List ℕ) (small : Bool) → is_decimal text ≡ true → ltb (digits_value 10 text) (2 ^ 64) ≡ small → number_of text ≡ cond small (Some (digits_value 10 text)) None
unfolding number_of
number_by text small h e = rw (h, e) refl

-- what `parse` gives of a decimal text whose value fits, or not
parsed_by : {E : Type 0} (text : List ℕ) (r : Result ℕ E) (small : Bool) → ParsesUnsigned 64 10 text r → IsDecimal text → ltb (digits_value 10 text) (2 ^ 64) ≡ small → result_ok r ≡ cond small (Some (digits_value 10 text)) None
parsed_by text r true h d e = rw (Ok-from_Ok_iff r _ (digits_value 10 text) (parse_digits own 64 text r h d.digits) (d.some, ltb-true (digits_value 10 text) (2 ^ 64) e)) refl
parsed_by text (Err x) false h d e = refl
parsed_by {E} text (Ok n) false h d e =
    let r : Result ℕ E = Ok n in
    let p = parse_digits own 64 text r h d.digits in
    let big : 2 ^ 64 ≤ digits_value 10 text = ltb-false (digits_value 10 text) (2 ^ 64) e in
    let value : digits_value 10 text < 2 ^ 64 = p.0.1 in
    absurd (omega arith)

-- what `parse` gives of a decimal text
pub parsed_number : {E : Type 0} (text : List ℕ) (r : Result ℕ E) → ParsesUnsigned 64 10 text r → is_decimal text ≡ true → result_ok r ≡ number_of text
parsed_number text r h d =
    let small = ltb (digits_value 10 text) (2 ^ 64) in
    parsed_by text r small h (when_decimal text d) refl ∙ sym (number_by text small d refl)

-- only the text of 0 begins with `0`
zero_only : (n : ℕ) → n < 2 ^ 64 → get_or (decimal n) 0 0 ≡ 48 → length (decimal n) ≡ 1
zero_only zero big e = ap length (decimal_digit 0 (lit< tt))
zero_only (suc n) big e = absurd (omega (arith, first_decimal (suc n) (omega arith) big))

-- the decimal text of a number below 2^64 is its text
pub number_of_decimal : (n : ℕ) → n < 2 ^ 64 → number_of (decimal n) ≡ Some n
number_of_decimal n big =
    let value : digits_value 10 (decimal n) ≡ n = digits_value-decimal own n big in
    let text : is_decimal (decimal n) ≡ true = is_decimal_text (decimal n) (record {
      some = decimal_nonempty n big;
      first = λ e. zero_only n big e;
      digits = digits_decimal own n big;
    }) in
    let small : ltb (digits_value 10 (decimal n)) (2 ^ 64) ≡ true = lt-ltb (digits_value 10 (decimal n)) (2 ^ 64) (omega arith) in
    number_by (decimal n) true text small ∙ ap Some value

-- which way a test of two went
kept : (b c : Bool) (x y : ℕ) → cond (b && c) (Some x) None ≡ Some y → (b ≡ true) × (c ≡ true) × (x ≡ y)
kept true true x y h = (refl, refl, cc)
kept true false x y h = cc
kept false c x y h = cc

-- a text that is a number is the decimal text of it
pub decimal_of_number : (text : List ℕ) (n : ℕ) → number_of text ≡ Some n → (decimal n ≡ text) × (n < 2 ^ 64)
unfolding number_of
decimal_of_number text n h =
    let p = kept (is_decimal text) (ltb (digits_value 10 text) (2 ^ 64)) (digits_value 10 text) n h in
    let d = when_decimal text p.0 in
    let small = ltb-true (digits_value 10 text) (2 ^ 64) p.1 in
    let same : digits_value 10 text ≡ n = p.2 in
    (ap decimal (sym p.2) ∙ decimal-digits_value own text d.digits d.some d.first small, omega arith)
