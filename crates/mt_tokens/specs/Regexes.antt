-- Regular expressions.
use Rattle.std.specs.Prelude.{ℕ, Bool, true, false, ◌+◌, ◌&&◌, ◌==◌, not, List, [], ◌∷◌, drop, if◌then◌else◌, Option, Some, None, option_map, Result, Ok, Err}
use Rattle.std.specs.Option.{option_map_or}
use Rattle.mt_chars.specs.LineEnds.{begins_line_end}
use Rattle.mt_chars.specs.Names.{run_len}
use Rattle.mt_chars.specs.declared.names.RunOf.TheVariants.{Flags}
use Rattle.mt_tokens.specs.Templates.{is_free}
use Rattle.mt_tokens.specs.declared.token.TokenKind.{TokenKind}
use Rattle.mt_tokens.specs.declared.token.TokenKind.TheVariants.{Regex}
use Rattle.mt_tokens.specs.declared.token.TokenFault.{TokenFault}
use Rattle.mt_tokens.specs.declared.token.TokenFault.TheVariants.{UnclosedRegex}

-- whether a regular expression begins with this byte: a `/` where an operand comes
abbrev pub begins_regex : Bool → ℕ → Bool
begins_regex operand b = b == 47 && operand

-- whether what follows a byte is between `[` and `]`: as before, where a `\` takes the byte
abbrev pub is_class_after : Bool → Bool → ℕ → Bool
is_class_after in_class taken b = if taken then in_class else (if b == 91 then true else (if b == 93 then false else in_class))

-- whether a `/` ends a regular expression: one that no `\` takes and no `[` holds
abbrev pub ends_body : Bool → Bool → ℕ → Bool
ends_body in_class taken b = is_free taken b 47 && not in_class

-- the length through the `/` that ends a regular expression, where a `\` may take the first byte; none where a line end or the end comes first, also after a `\`
abbrev pub body_len : Bool → Bool → List ℕ → Option ℕ
body_len in_class taken [] = None
body_len in_class taken (b ∷ rest) =
    if begins_line_end (b ∷ rest) then None
    else (if ends_body in_class taken b then Some 1 else option_map (λ n. n + 1) (body_len (is_class_after in_class taken b) (is_free taken b 92) rest))

-- the regular expression that begins at the place with a `/`: its body, and the letters after it
abbrev pub regex_of : ℕ → List ℕ → Result (TokenKind × ℕ) TokenFault
regex_of place rest = option_map_or (λ n. Ok (Regex, n + 1 + run_len Flags (drop (n + 1) rest))) (body_len false false (drop 1 rest)) (Err (UnclosedRegex place))
