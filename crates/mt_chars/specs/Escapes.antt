-- The value of a string in quotes.
use Rattle.std.specs.Prelude.{ℕ, Bool, ◌+◌, ◌-◌, ◌*◌, ◌&&◌, ◌==◌, min, nat_lt, List, [], ◌∷◌, ◌++◌, length, take, drop, fold, slice_index, if◌then◌else◌, Option, Some, None, option_map, option_and_then, encode_utf8}
use Rattle.std.specs.List.{prefix_len}
use Rattle.std.specs.Option.{option_map_or}
use Rattle.mt_chars.specs.Classes.{char_len, first_char, is_digit, is_hex_digit}
use Rattle.mt_chars.specs.LineEnds.{begins_line_end, escape_len}
use Rattle.mt_chars.specs.declared.cooking.Code.{Code}
use Rattle.mt_chars.specs.declared.cooking.Part.{Part}
use lib.Utf8.{scalar}

-- the value of a digit of base sixteen
abbrev pub hex_value : ℕ → ℕ
hex_value b = if nat_lt b 58 then b - 48 else (if nat_lt b 97 then b - 55 else b - 87)

-- the number that digits of base sixteen spell: 0x110000, which is no character, where it is no smaller
abbrev pub hex_number : List ℕ → ℕ
hex_number digits = fold (λ n b. min (n * 16 + hex_value b) 0x110000) 0 digits

-- the number that so many digits after a letter spell
abbrev pub digits_of : ℕ → List ℕ → Option Code
digits_of count rest =
    if nat_lt (prefix_len is_hex_digit (drop 1 rest)) count then None else Some (record { code = hex_number (take count (drop 1 rest)); len = count + 1 })

-- the number that the digits in braces after a letter spell: one or more
abbrev pub braced_of : List ℕ → Option Code
braced_of rest =
    if nat_lt 0 (prefix_len is_hex_digit (drop 2 rest)) && slice_index rest (prefix_len is_hex_digit (drop 2 rest) + 2) == 125
    then Some (record { code = hex_number (take (prefix_len is_hex_digit (drop 2 rest)) (drop 2 rest)); len = prefix_len is_hex_digit (drop 2 rest) + 3 })
    else None

-- the number that `u` and its digits spell: four digits, or one or more in braces
abbrev pub unicode_of : List ℕ → Option Code
unicode_of rest = if slice_index rest 1 == 123 then braced_of rest else digits_of 4 rest

-- the same where a `\` stands before the `u`
abbrev pub next_unicode : List ℕ → Option Code
next_unicode rest = if slice_index rest 0 == 92 && slice_index rest 1 == 117 then unicode_of (drop 1 rest) else None

-- the numbers that spell a character above U+FFFF by two
abbrev pub is_high : ℕ → Bool
is_high code = nat_lt 0xD7FF code && nat_lt code 0xDC00

abbrev pub is_low : ℕ → Bool
is_low code = nat_lt 0xDBFF code && nat_lt code 0xE000

-- the character that two such numbers spell
abbrev pub pair_of : ℕ → ℕ → ℕ
pair_of high low = (high - 0xD800) * 1024 + (low - 0xDC00) + 0x10000

-- a number as a character, if it is one
abbrev pub char_of : ℕ → Option ℕ
char_of code = if scalar code then Some code else None

-- a character that so many bytes spell
abbrev pub spelled : ℕ → ℕ → Option Part
spelled code len = option_map (λ c. record { value = Some c; len = len }) (char_of code)

-- the character of a high number, where an escape of a low one follows directly
abbrev pub paired : Code → Option Code → Option Part
paired high None = None
paired high (Some low) = if is_low low.code then spelled (pair_of high.code low.code) (high.len + 1 + low.len) else None

-- the character that an escape with this number spells, alone or with the escape after it
abbrev pub character_of : List ℕ → Option Code → Option Part
character_of rest None = None
character_of rest (Some c) = if is_high c.code then paired c (next_unicode (drop c.len rest)) else spelled c.code c.len

-- what a letter or a mark after `\` stands for: `\b`, `\f`, `\n`, `\r`, `\t`, `\v`, and itself else
abbrev pub single : ℕ → ℕ
single b = if b == 98 then 8 else (if b == 102 then 12 else (if b == 110 then 10 else (if b == 114 then 13 else (if b == 116 then 9 else (if b == 118 then 11 else b)))))

-- what the text after a `\` stands for, where it begins with this byte and with no line end: nothing where there is a digit other than a lone 0, or `x` or `u` without the digits of a character. Of a character above U+007F only the `\` is passed here
abbrev pub mark_of : ℕ → List ℕ → Option Part
mark_of b rest =
    if b == 120 then character_of rest (digits_of 2 rest)
    else (if b == 117 then character_of rest (unicode_of rest)
    else (if b == 48 then (if is_digit (slice_index rest 1) then None else Some (record { value = Some 0; len = 1 }))
    else (if is_digit b then None else (if nat_lt b 128 then Some (record { value = Some (single b); len = 1 }) else Some (record { value = None; len = 0 })))))

-- the length of the line end that a text begins with: U+2028 and U+2029 have three bytes
abbrev pub line_break_len : List ℕ → ℕ
line_break_len rest = if slice_index rest 0 == 226 then 3 else escape_len rest

-- what the text after a `\` stands for: a line end for nothing
abbrev pub escape_of : List ℕ → Option Part
escape_of [] = None
escape_of (b ∷ rest) = if begins_line_end (b ∷ rest) then Some (record { value = None; len = line_break_len (b ∷ rest) }) else mark_of b (b ∷ rest)

-- one byte more before a part
abbrev pub after_one : Part → Part
after_one p = record { value = p.value; len = p.len + 1 }

-- the part of a string that a text begins with: an escape, or a character that stands for itself
abbrev pub part_of : List ℕ → Option Part
part_of rest = if slice_index rest 0 == 92 then option_map after_one (escape_of (drop 1 rest)) else Some (record { value = char_of (first_char rest); len = char_len rest })

-- the bytes of what a part stands for
abbrev pub value_of : Part → List ℕ
value_of p = option_map_or encode_utf8 p.value []

-- the value of what stands between quotes, part by part, where so many bytes at the start belong to a part that is read already
abbrev pub cooked_from : ℕ → List ℕ → Option (List ℕ)
cooked_from taken [] = Some []
cooked_from taken (b ∷ rest) =
    if nat_lt 0 taken then cooked_from (taken - 1) rest
    else option_and_then (λ p. option_map (λ value. value_of p ++ value) (cooked_from (p.len - 1) rest)) (part_of (b ∷ rest))

-- what stands between the first and the last byte
abbrev pub inner : List ℕ → List ℕ
inner literal = take (length literal - 1 - 1) (drop 1 literal)

-- the value of a string in quotes, if it has one
abbrev pub cooked : List ℕ → Option (List ℕ)
cooked literal = cooked_from 0 (inner literal)
