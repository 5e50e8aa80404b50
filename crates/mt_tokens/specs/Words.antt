-- What tokens are, by their kinds and their bytes.
use Rattle.std.specs.Prelude.{ℕ, Bool, true, false, ◌-◌, ◌&&◌, ◌||◌, not, List, take, drop, filter, Option, codes}
use Rattle.std.specs.List.{list_any}
use Rattle.std.specs.Option.{option_map_or}
use Rattle.std.specs.Str.{bytes_eq}
use Rattle.mt_tokens.specs.declared.token.Token.{Token}
use Rattle.mt_tokens.specs.declared.token.TokenKind.{TokenKind}
use Rattle.mt_tokens.specs.declared.token.TokenKind.TheVariants.{Space, Comment, Ident, Str, Punct}

-- the bytes of a token
abbrev pub bytes_of : List ℕ → Token → List ℕ
bytes_of text t = take (t.end - t.start) (drop t.start text)

-- neither blank nor comment
abbrev pub is_seen : TokenKind → Bool
is_seen Space = false
is_seen Comment = false
is_seen kind = true

abbrev pub is_ident : TokenKind → Bool
is_ident Ident = true
is_ident kind = false

abbrev pub is_str : TokenKind → Bool
is_str Str = true
is_str kind = false

abbrev pub is_punct_kind : TokenKind → Bool
is_punct_kind Punct = true
is_punct_kind kind = false

-- the tokens that are neither blanks nor comments
abbrev pub seen : List Token → List Token
seen ts = filter (λ t. is_seen t.kind) ts

-- whether a text is one of these
abbrev pub is_one_of : List (List ℕ) → List ℕ → Bool
is_one_of texts text = list_any (bytes_eq text) texts

-- whether a token is this word
abbrev pub is_word : List ℕ → List ℕ → Token → Bool
is_word text word t = is_ident t.kind && bytes_eq (bytes_of text t) word

-- whether a token is this punctuator
abbrev pub is_mark : List ℕ → List ℕ → Token → Bool
is_mark text mark t = is_punct_kind t.kind && bytes_eq (bytes_of text t) mark

-- whether a token is `.` or `?.`
abbrev pub is_access : List ℕ → Token → Bool
is_access text t = is_mark text (codes ".") t || is_mark text (codes "?.") t

-- a word is plain after this token, if there is one: unless it is `.` or `?.`
abbrev pub is_plain_after : List ℕ → Option Token → Bool
is_plain_after text before = not (option_map_or (is_access text) before false)

-- whether a token is this word, and plain
abbrev pub is_plain : List ℕ → List ℕ → Option Token → Token → Bool
is_plain text word before t = is_word text word t && is_plain_after text before
