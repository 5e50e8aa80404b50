-- The pieces of templates.
use Rattle.std.specs.Prelude.{ℕ, Bool, false, not, ◌+◌, ◌-◌, ◌&&◌, ◌||◌, ◌==◌, List, [], ◌∷◌, slice_index, if◌then◌else◌, Option, Some, None, option_map, Result, Ok, Err}
use Rattle.std.specs.Option.{option_map_or}
use Rattle.mt_tokens.specs.declared.token.TokenKind.{TokenKind}
use Rattle.mt_tokens.specs.declared.token.TokenKind.TheVariants.{Whole, Head, Middle, Tail}
use Rattle.mt_tokens.specs.declared.token.TokenFault.{TokenFault}
use Rattle.mt_tokens.specs.declared.token.TokenFault.TheVariants.{UnclosedTemplate}

-- whether a byte is the wanted one, and no `\` takes it
abbrev pub is_free : Bool → ℕ → ℕ → Bool
is_free taken b wanted = not taken && b == wanted

-- whether a piece begins with this byte: a backtick, or a `}` that closes a `${`
abbrev pub begins_piece : Bool → ℕ → Bool
begins_piece in_template b = b == 96 || (b == 125 && in_template)

-- whether a `$` that no `\` takes and a `{` after it end a piece
abbrev pub opens_hole : Bool → ℕ → ℕ → Bool
opens_hole taken b next = is_free taken b 36 && next == 123

-- the length through the next backtick or `${` that no `\` takes, where one may take the first byte; none where the end comes first.
-- A `\` takes one byte of a longer character, since no other byte of it is a backtick, a `$` or a `\`
abbrev pub piece_len : Bool → List ℕ → Option ℕ
piece_len taken [] = None
piece_len taken (b ∷ rest) =
    if is_free taken b 96 then Some 1
    else (if opens_hole taken b (slice_index rest 0) then Some 2 else option_map (λ n. n + 1) (piece_len (is_free taken b 92) rest))

-- the kind of a piece, by the bytes that it begins and ends with
abbrev pub piece_kind : ℕ → ℕ → TokenKind
piece_kind first last = if first == 96 then (if last == 96 then Whole else Head) else (if last == 96 then Tail else Middle)

-- the piece that begins at the place
abbrev pub piece_of : ℕ → List ℕ → Result (TokenKind × ℕ) TokenFault
piece_of place [] = Err (UnclosedTemplate place)
piece_of place (b ∷ rest) = option_map_or (λ n. Ok (piece_kind b (slice_index rest (n - 1)), n + 1)) (piece_len false rest) (Err (UnclosedTemplate place))
