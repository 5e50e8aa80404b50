-- The token that a text begins with.
use Rattle.std.specs.Prelude.{ℕ, List, [], ◌∷◌, nat_lt, if◌then◌else◌, Result, Ok, Err}
use Rattle.mt_chars.specs.Names.{name_len, private_len, run_len}
use Rattle.mt_chars.specs.Numbers.{begins_number, number_len}
use Rattle.mt_chars.specs.declared.names.RunOf.TheVariants.{Blanks}
use Rattle.mt_tokens.specs.Strings.{is_quote, string_of}
use Rattle.mt_tokens.specs.Comments.{begins_comment, comment_of}
use Rattle.mt_tokens.specs.Punctuators.{punct_of}
use Rattle.mt_tokens.specs.Regexes.{begins_regex, regex_of}
use Rattle.mt_tokens.specs.Templates.{begins_piece, piece_of}
use Rattle.mt_tokens.specs.declared.front.Before.{Before}
use Rattle.mt_tokens.specs.declared.token.TokenKind.{TokenKind}
use Rattle.mt_tokens.specs.declared.token.TokenKind.TheVariants.{Space, Ident, Private, Number}
use Rattle.mt_tokens.specs.declared.token.TokenFault.{TokenFault}
use Rattle.mt_tokens.specs.declared.token.TokenFault.TheVariants.{BadByte}

-- the kind and the length of the token that the rest of a text begins with, at a place, where it begins with neither blanks nor a comment nor a name: the first kind that fits
abbrev pub other_of : Before → ℕ → List ℕ → Result (TokenKind × ℕ) TokenFault
other_of before place [] = Err (BadByte place)
other_of before place (b ∷ rest) =
    if nat_lt 0 (private_len (b ∷ rest)) then Ok (Private, private_len (b ∷ rest))
    else (if begins_number (b ∷ rest) then Ok (Number, number_len (b ∷ rest))
    else (if is_quote b then string_of place (b ∷ rest)
    else (if begins_piece before.in_template b then piece_of place (b ∷ rest)
    else (if begins_regex before.operand b then regex_of place (b ∷ rest) else punct_of place (b ∷ rest)))))

-- the same of any token
abbrev pub front_of : Before → ℕ → List ℕ → Result (TokenKind × ℕ) TokenFault
front_of before place [] = Err (BadByte place)
front_of before place (b ∷ rest) =
    if nat_lt 0 (run_len Blanks (b ∷ rest)) then Ok (Space, run_len Blanks (b ∷ rest))
    else (if begins_comment place (b ∷ rest) then comment_of place (b ∷ rest)
    else (if nat_lt 0 (name_len (b ∷ rest)) then Ok (Ident, name_len (b ∷ rest)) else other_of before place (b ∷ rest)))
