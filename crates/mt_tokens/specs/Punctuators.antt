-- The punctuators.
use Rattle.std.specs.Prelude.{ℕ, Bool, ◌&&◌, List, [], ◌∷◌, take, map, nat_eq, nat_lt, slice_index, if◌then◌else◌, codes, Result, Ok, Err}
use Rattle.std.specs.Cmp.Lexicographic.{pointwise}
use Rattle.std.specs.List.{list_any}
use Rattle.mt_chars.specs.Classes.{is_digit}
use Rattle.mt_tokens.specs.declared.token.TokenKind.{TokenKind}
use Rattle.mt_tokens.specs.declared.token.TokenKind.TheVariants.{Punct}
use Rattle.mt_tokens.specs.declared.token.TokenFault.{TokenFault}
use Rattle.mt_tokens.specs.declared.token.TokenFault.TheVariants.{BadByte}

-- the punctuators of four bytes
abbrev pub of_four : List (List ℕ)
of_four = codes ">>>=" ∷ []

-- the punctuators of three bytes
abbrev pub of_three : List (List ℕ)
of_three =
    codes "..." ∷ codes "===" ∷ codes "!==" ∷ codes ">>>" ∷ codes "**=" ∷ codes "<<=" ∷ codes ">>=" ∷ codes "&&=" ∷ codes "||=" ∷ codes "??=" ∷ []

-- the punctuators of two bytes
abbrev pub of_two : List (List ℕ)
of_two =
    codes "<=" ∷ codes ">=" ∷ codes "==" ∷ codes "!=" ∷ codes "**" ∷ codes "++" ∷ codes "--" ∷ codes "<<" ∷ codes ">>" ∷ codes "&&" ∷ codes "||" ∷ codes "??"
    ∷ codes "?." ∷ codes "+=" ∷ codes "-=" ∷ codes "*=" ∷ codes "/=" ∷ codes "%=" ∷ codes "&=" ∷ codes "|=" ∷ codes "^=" ∷ codes "=>" ∷ []

-- the punctuators of one byte
abbrev pub of_one : List (List ℕ)
of_one = map (λ b. b ∷ []) (codes "{}()[].;,<>+-*/%&|^!~?:=@")

-- whether a text is one of the list
abbrev pub is_among : List (List ℕ) → List ℕ → Bool
is_among texts text = list_any (pointwise nat_eq text) texts

-- whether a text begins with `?.` and a digit, as in `a?.5:b`
abbrev pub is_choice_of_number : List ℕ → Bool
is_choice_of_number rest = pointwise nat_eq (take 2 rest) (codes "?.") && is_digit (slice_index rest 2)

-- the length of the longest punctuator that a text begins with, and 0 where it begins with none; `?.` is none before a digit
abbrev pub punct_len : List ℕ → ℕ
punct_len rest =
    if is_among of_four (take 4 rest) then 4
    else (if is_among of_three (take 3 rest) then 3
    else (if is_choice_of_number rest then 1 else (if is_among of_two (take 2 rest) then 2 else (if is_among of_one (take 1 rest) then 1 else 0))))

-- a byte that is a punctuator by itself, wherever a token begins with it
abbrev pub is_lone : ℕ → Bool
is_lone b = list_any (nat_eq b) (codes ";,(){[]")

-- the punctuator that begins at the place
abbrev pub punct_of : ℕ → List ℕ → Result (TokenKind × ℕ) TokenFault
punct_of place rest = if nat_lt 0 (punct_len rest) then Ok (Punct, punct_len rest) else Err (BadByte place)
