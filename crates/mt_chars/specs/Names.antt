-- Blanks, names, and runs of characters.
use Rattle.std.specs.Prelude.{ℕ, ◌+◌, ◌-◌, ◌&&◌, ◌==◌, nat_lt, List, [], ◌∷◌, drop, slice_index, if◌then◌else◌}
use Rattle.std.specs.List.{prefix_len}
use Rattle.mt_chars.specs.Classes.{first_char, char_len, is_hex_digit, is_part, is_space, is_start}
use Rattle.mt_chars.specs.declared.names.RunOf.{RunOf}
use Rattle.mt_chars.specs.declared.names.RunOf.TheVariants.{Blanks, NameParts, Flags}

-- the length of the `u` and the digits of an escape: four digits, or one to six of them in braces; 0 where there is none
abbrev pub code_len : List ℕ → ℕ
code_len rest =
    if slice_index rest 1 == 123
    then (if nat_lt 0 (prefix_len is_hex_digit (drop 2 rest)) && nat_lt (prefix_len is_hex_digit (drop 2 rest)) 7 && slice_index rest (prefix_len is_hex_digit (drop 2 rest) + 2) == 125
    then prefix_len is_hex_digit (drop 2 rest) + 3
    else 0)
    else (if nat_lt 3 (prefix_len is_hex_digit (drop 1 rest)) then 5 else 0)

-- the length of the escape that a text begins with: `\u` and the digits of a character; 0 where there is none
abbrev pub name_escape_len : List ℕ → ℕ
name_escape_len rest = if slice_index rest 0 == 92 && slice_index rest 1 == 117 && nat_lt 0 (code_len (drop 1 rest)) then code_len (drop 1 rest) + 1 else 0

-- the length of what a name may begin with, a character or an escape; 0 where none is there
abbrev pub start_len : List ℕ → ℕ
start_len rest = if is_start (first_char rest) then char_len rest else name_escape_len rest

-- the length of one part of a run at the front of a text, of a blank, a part of a name or a letter after a regular expression; 0 where none is there
abbrev pub unit_len : RunOf → List ℕ → ℕ
unit_len Blanks rest = if is_space (first_char rest) then char_len rest else 0
unit_len NameParts rest = if is_part (first_char rest) then char_len rest else name_escape_len rest
unit_len Flags rest = if is_part (first_char rest) then char_len rest else 0

-- the length of the longest run at the front of a text, of which so many bytes at the start belong to a part that is counted already
abbrev pub run_after : RunOf → ℕ → List ℕ → ℕ
run_after of taken [] = 0
run_after of taken (b ∷ rest) =
    if nat_lt 0 taken then run_after of (taken - 1) rest + 1
    else (if nat_lt 0 (unit_len of (b ∷ rest)) then run_after of (unit_len of (b ∷ rest) - 1) rest + 1 else 0)

-- the length of the longest run at the front of a text
abbrev pub run_len : RunOf → List ℕ → ℕ
run_len of rest = run_after of 0 rest

-- the length of the name that a text begins with; 0 where it begins with none
abbrev pub name_len : List ℕ → ℕ
name_len rest = if nat_lt 0 (start_len rest) then start_len rest + run_len NameParts (drop (start_len rest) rest) else 0

-- the length of the `#` and the name that a text begins with; 0 where it begins with none
abbrev pub private_len : List ℕ → ℕ
private_len rest = if slice_index rest 0 == 35 && nat_lt 0 (name_len (drop 1 rest)) then name_len (drop 1 rest) + 1 else 0
