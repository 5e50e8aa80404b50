-- Numbers.
use Rattle.std.specs.Prelude.{ℕ, Bool, ◌+◌, ◌&&◌, ◌||◌, ◌==◌, List, drop, slice_index, if◌then◌else◌}
use Rattle.std.specs.List.{prefix_len}
use Rattle.mt_chars.specs.Classes.{is_digit, is_number_part}

-- whether a number begins: a digit, or `.` before a digit
abbrev pub begins_number : List ℕ → Bool
begins_number rest = is_digit (slice_index rest 0) || (slice_index rest 0 == 46 && is_digit (slice_index rest 1))

-- the letters after `0` that tell another base than ten: `x`, `X`, `o`, `O`, `b` and `B`
abbrev pub is_base_letter : ℕ → Bool
is_base_letter b = b == 120 || b == 88 || b == 111 || b == 79 || b == 98 || b == 66

-- whether a number of another base than ten begins
abbrev pub begins_base : List ℕ → Bool
begins_base rest = slice_index rest 0 == 48 && is_base_letter (slice_index rest 1)

-- a digit, or the `_` that parts digits
abbrev pub is_digit_part : ℕ → Bool
is_digit_part b = is_digit b || b == 95

-- the length of the `.` and the digits after it
abbrev pub fraction_len : List ℕ → ℕ
fraction_len rest = if slice_index rest 0 == 46 then prefix_len is_digit_part (drop 1 rest) + 1 else 0

-- the length of the sign, if one is there
abbrev pub sign_len : List ℕ → ℕ
sign_len rest = if slice_index rest 0 == 43 || slice_index rest 0 == 45 then 1 else 0

-- the length of the `e` or `E`, the sign and the digits after it, of which there is one at least; else 0
abbrev pub exponent_len : List ℕ → ℕ
exponent_len rest =
    if (slice_index rest 0 == 101 || slice_index rest 0 == 69) && is_digit (slice_index rest (sign_len (drop 1 rest) + 1)) then prefix_len is_digit (drop (sign_len (drop 1 rest) + 1) rest) + (sign_len (drop 1 rest) + 1)
    else 0

-- the length of a part and of the next, which follows it
abbrev pub and_after : (List ℕ → ℕ) → (List ℕ → ℕ) → List ℕ → ℕ
and_after part next rest = part rest + next (drop (part rest) rest)

-- the length of the number that the text begins with: after the digits it takes the letters, digits, `_` and `$` that follow
abbrev pub number_len : List ℕ → ℕ
number_len rest =
    if begins_base rest then prefix_len is_number_part (drop 2 rest) + 2
    else and_after (prefix_len is_digit_part) (and_after fraction_len (and_after exponent_len (prefix_len is_number_part))) rest
