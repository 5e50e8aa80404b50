-- What the value of an option may be.
use Rattle.std.specs.Prelude.{ℕ, Bool, true, false, not, ◌&&◌, ◌||◌, ◌==◌, ◌^◌, List, [], ◌∷◌, length, nat_lt, nat_le, slice_index, if◌then◌else◌, Option, Some, None, codes}
use Rattle.std.specs.Char.{is_ascii_digit, is_ascii_lowercase}
use Rattle.std.specs.List.{list_all}
use Rattle.std.specs.Option.{option_map_or}
use Rattle.std.specs.Str.{bytes_eq}
use Rattle.std.specs.Str.Parse.{digits_value}
use Rattle.mt_words.specs.declared.value.ValueKind.{ValueKind}
use Rattle.mt_words.specs.declared.value.ValueKind.TheVariants.{Flag, Folder, Platform, Truth, Number}

-- a word that is no value: it is empty, or begins with `-`
abbrev pub is_odd : List ℕ → Bool
is_odd [] = true
is_odd (b ∷ bs) = b == 45

-- digits, the first of which is `0` only in `0` itself
unfoldable pub is_decimal : List ℕ → Bool
is_decimal text = nat_lt 0 (length text) && (length text == 1 || not (slice_index text 0 == 48)) && list_all is_ascii_digit text

-- the number that a text is, if it is one below 2^64
unfoldable pub number_of : List ℕ → Option ℕ
number_of text = if is_decimal text && nat_lt (digits_value 10 text) (2 ^ 64) then Some (digits_value 10 text) else None

-- a lower-case letter or a digit
abbrev pub is_platform_byte : ℕ → Bool
is_platform_byte b = is_ascii_lowercase b || is_ascii_digit b

-- a lower-case letter, and up to 15 more or digits
unfoldable pub is_platform : List ℕ → Bool
is_platform [] = false
is_platform (b ∷ bs) = is_ascii_lowercase b && nat_le (length bs) 15 && list_all is_platform_byte bs

-- a number from the least to the most
abbrev pub is_between : ℕ → ℕ → Option ℕ → Bool
is_between least most number = option_map_or (λ n. nat_le least n && nat_le n most) number false

-- whether a text may be the value of an option of this kind
unfoldable pub is_value : ValueKind → List ℕ → Bool
is_value Flag text = false
is_value Folder text = not (is_odd text)
is_value Platform text = is_platform text
is_value Truth text = bytes_eq text (codes "true") || bytes_eq text (codes "false")
is_value (Number least most) text = is_between least most (number_of text)
