-- The path of a module is one.
use Rattle.std.proofs.Common.{◌≡◌, ◌≤◌, ◌<◌, ◌&&◌, ◌^◌, ◌++◌, ◌∷◌, [], true, ℕ, List, length, arith, rules, codes, subst, append-nil, ap, ◌∙◌}
use Rattle.std.specs.Fmt.{decimal}
use Rattle.std.specs.Char.{is_ascii_digit}
use Rattle.std.specs.List.{list_all}
use Rattle.std.specs.Str.Parse.{digits_value}
use Rattle.std.proofs.lemmas.Fmt.{digits_decimal, length-decimal-le}
use Rattle.std.proofs.lemmas.List.{length-append}
use Rattle.std.proofs.lemmas.List.Folds.{list_all-append}
use Rattle.std.proofs.lemmas.Str.Parse.{IsNumeralModel, numerals_by_value}
use Rattle.mt_path.specs.Parse.{IsPath}
use Rattle.mt_path.specs.Segments.{is_segment, is_segment_byte, text_of}
use Rattle.mt_path.proofs.Paths.{text_is_path}
use Rattle.mt_generator.specs.Modules.{module_path}

digits_only : IsNumeralModel (λ ds. list_all is_ascii_digit ds ≡ true) (digits_value 10)
digits_only = numerals_by_value (λ ds. list_all is_ascii_digit ds ≡ true) (search rules)

-- digits are bytes of segments
segment_digits : (ds : List ℕ) → list_all is_ascii_digit ds ≡ true → list_all is_segment_byte ds ≡ true
segment_digits [] h = h
segment_digits (d ∷ ds) h = grind (arith, segment_digits ds)

digits_of : (number : ℕ) → number < 2 ^ 32 → list_all is_ascii_digit (decimal number) ≡ true
digits_of number small = digits_decimal digits_only number (omega arith)

-- the name of a module is a segment
name_bytes : (number : ℕ) → number < 2 ^ 32 → list_all is_segment_byte (codes "m" ++ (decimal number ++ codes ".js")) ≡ true
name_bytes number small = list_all-append is_segment_byte (decimal number) (codes ".js") ∙ ap (λ b. b && true) (segment_digits (decimal number) (digits_of number small))

is_name : (number : ℕ) → number < 2 ^ 32 → list_all is_segment ((codes "m" ++ (decimal number ++ codes ".js")) ∷ []) ≡ true
is_name number small = let bytes = name_bytes number small in grind arith

short : (number : ℕ) → number < 2 ^ 32 → length (text_of ((codes "m" ++ (decimal number ++ codes ".js")) ∷ [])) ≤ 1024
short number small =
    let few = length-decimal-le 10 number (omega arith) (omega arith) (omega arith) in
    let parts = length-append (decimal number) (codes ".js") in
    let whole = length-append (decimal number ++ codes ".js") [] in
    omega (arith, few, parts, whole)

-- the path of a module is one
pub is_path : (number : ℕ) → number < 2 ^ 32 → IsPath (module_path number)
is_path number small =
    subst IsPath (append-nil (module_path number)) (text_is_path ((codes "m" ++ (decimal number ++ codes ".js")) ∷ []) (is_name number small) (short number small))
