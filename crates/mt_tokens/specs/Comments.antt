-- Comments.
use Rattle.std.specs.Prelude.{ℕ, Bool, ◌+◌, ◌&&◌, ◌||◌, ◌==◌, List, [], ◌∷◌, drop, nat_eq, codes, if◌then◌else◌, Option, Some, None, option_map, Result, Ok, Err}
use Rattle.std.specs.List.{starts_with}
use Rattle.std.specs.Option.{option_map_or}
use Rattle.mt_chars.specs.LineEnds.{begins_line_end}
use Rattle.mt_tokens.specs.declared.token.TokenKind.{TokenKind}
use Rattle.mt_tokens.specs.declared.token.TokenKind.TheVariants.{Comment}
use Rattle.mt_tokens.specs.declared.token.TokenFault.{TokenFault}
use Rattle.mt_tokens.specs.declared.token.TokenFault.TheVariants.{UnclosedComment}

-- whether a comment begins at the place: `//` or `/*`, or `#!` at the text's start
abbrev pub begins_comment : ℕ → List ℕ → Bool
begins_comment place rest =
    starts_with nat_eq rest (codes "//") || starts_with nat_eq rest (codes "/*") || (place == 0 && starts_with nat_eq rest (codes "#!"))

-- the length up to before the next line end, or to the end
abbrev pub line_len : List ℕ → ℕ
line_len [] = 0
line_len (b ∷ rest) = if begins_line_end (b ∷ rest) then 0 else line_len rest + 1

-- the length through the first `*/`, if there is one
abbrev pub block_len : List ℕ → Option ℕ
block_len [] = None
block_len (b ∷ rest) = if starts_with nat_eq (b ∷ rest) (codes "*/") then Some 2 else option_map (λ n. n + 1) (block_len rest)

-- the comment that begins at the place: after `/*` it goes through the first `*/`, and else to the line's end
abbrev pub comment_of : ℕ → List ℕ → Result (TokenKind × ℕ) TokenFault
comment_of place rest =
    if starts_with nat_eq rest (codes "/*") then option_map_or (λ n. Ok (Comment, n + 2)) (block_len (drop 2 rest)) (Err (UnclosedComment place))
    else Ok (Comment, line_len rest)
