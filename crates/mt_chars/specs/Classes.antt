-- The classes of bytes and of characters, and the character that a text begins with.
use Rattle.std.specs.Prelude.{ℕ, Bool, ◌+◌, ◌&&◌, ◌||◌, ◌==◌, nat_lt, List, [], ◌∷◌, slice_index, chars}
use Rattle.std.specs.Str.{continuation_len}
use Rattle.unicode_ident.specs.Ident.{is_xid_start, is_xid_continue}
use lib.Utf8.{scalar}

-- `0` to `9`
abbrev pub is_digit : ℕ → Bool
is_digit b = nat_lt 47 b && nat_lt b 58

-- a digit of base sixteen
abbrev pub is_hex_digit : ℕ → Bool
is_hex_digit b = is_digit b || (nat_lt 64 b && nat_lt b 71) || (nat_lt 96 b && nat_lt b 103)

-- `$`, `_`, and the letters and digits of ASCII: what a number goes on with after its digits
abbrev pub is_number_part : ℕ → Bool
is_number_part b = b == 36 || b == 95 || (nat_lt 64 b && nat_lt b 91) || (nat_lt 96 b && nat_lt b 123) || is_digit b

-- the character that a text begins with, and 0 where it begins with none
abbrev pub first_char : List ℕ → ℕ
first_char rest = slice_index (chars rest) 0

-- how many bytes the character has that a text begins with
abbrev pub char_len : List ℕ → ℕ
char_len [] = 0
char_len (b ∷ rest) = continuation_len b + 1

-- the blanks and the line ends
abbrev pub is_space : ℕ → Bool
is_space c =
    (nat_lt 8 c && nat_lt c 14) || c == 0x20 || c == 0xA0 || c == 0x1680 || (nat_lt 0x1FFF c && nat_lt c 0x200B) || c == 0x2028 || c == 0x2029 || c == 0x202F
    || c == 0x205F
    || c == 0x3000
    || c == 0xFEFF

-- the characters that a name may begin with: `$`, `_` and those of Unicode's XID_Start
abbrev pub is_start : ℕ → Bool
is_start c = c == 36 || c == 95 || (scalar c && is_xid_start c)

-- the characters that a name may go on with: those that begin one, those of XID_Continue, U+200C and U+200D
abbrev pub is_part : ℕ → Bool
is_part c = is_start c || (scalar c && is_xid_continue c) || c == 0x200C || c == 0x200D
