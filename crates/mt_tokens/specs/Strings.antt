-- Strings.
use Rattle.std.specs.Prelude.{ℕ, Bool, ◌+◌, ◌-◌, ◌||◌, ◌==◌, List, [], ◌∷◌, nat_lt, if◌then◌else◌, Option, Some, None, option_map, Result, Ok, Err}
use Rattle.std.specs.Option.{option_map_or}
use Rattle.mt_chars.specs.LineEnds.{escape_len}
use Rattle.mt_tokens.specs.declared.token.TokenKind.{TokenKind}
use Rattle.mt_tokens.specs.declared.token.TokenKind.TheVariants.{Str}
use Rattle.mt_tokens.specs.declared.token.TokenFault.{TokenFault}
use Rattle.mt_tokens.specs.declared.token.TokenFault.TheVariants.{UnclosedString}

-- `"` and `'`
abbrev pub is_quote : ℕ → Bool
is_quote b = b == 34 || b == 39

-- the length through the closing quote, where so many bytes at the start are taken by a `\`; none where a line end or the end comes first
abbrev pub closing_len : ℕ → ℕ → List ℕ → Option ℕ
closing_len quote taken [] = None
closing_len quote taken (b ∷ rest) =
    if nat_lt 0 taken then option_map (λ n. n + 1) (closing_len quote (taken - 1) rest)
    else (if b == quote then Some 1
    else (if b == 10 || b == 13 then None else option_map (λ n. n + 1) (closing_len quote (if b == 92 then escape_len rest else 0) rest)))

-- the string that begins at the place with a quote
abbrev pub string_of : ℕ → List ℕ → Result (TokenKind × ℕ) TokenFault
string_of place [] = Err (UnclosedString place)
string_of place (quote ∷ rest) = option_map_or (λ n. Ok (Str, n + 1)) (closing_len quote 0 rest) (Err (UnclosedString place))
