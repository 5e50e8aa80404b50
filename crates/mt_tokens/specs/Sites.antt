-- Tokens where they stand.
use Rattle.std.specs.Prelude.{ℕ, ◌+◌, ◌-◌, ◌==◌, Bool, false, not, List, [], ◌∷◌, if◌then◌else◌, Option, Some, None}
use Rattle.mt_tokens.specs.Brackets.{closing, opening}
use Rattle.mt_tokens.specs.Words.{is_ident, is_mark, is_plain, is_word}
use Rattle.mt_tokens.specs.declared.token.Token.{Token}

-- whether a token opens a bracket or a `${`
abbrev pub opens : List ℕ → Token → Bool
opens text t = not (opening text t == 0)

-- whether a token closes a bracket or a `${`
abbrev pub closes : List ℕ → Token → Bool
closes text t = not (closing text t == 0)

-- how many openers are unclosed after a token, where so many are before it: the middle of a template closes one and opens one
abbrev pub depth_after : List ℕ → ℕ → Token → ℕ
depth_after text depth t = (if closes text t then depth - 1 else depth) + (if opens text t then 1 else 0)

-- a token, the one before it, if there is one, how many openers are unclosed before it, and the tokens after it
pub record Site : Type 0 where
  pub before : Option Token
  pub depth : ℕ
  pub here : Token
  pub after : List Token

-- each token where it stands, after this one and at this depth
abbrev pub sites : List ℕ → Option Token → ℕ → List Token → List Site
sites text before depth [] = []
sites text before depth (t ∷ ts) = record { before = before; depth = depth; here = t; after = ts } ∷ sites text (Some t) (depth_after text depth t) ts

-- the sites before the first one of which this holds
abbrev pub until : (Site → Bool) → List Site → List Site
until test [] = []
until test (s ∷ ss) = if test s then [] else s ∷ until test ss

-- whether a plain word stands here
abbrev pub is_plain_at : List ℕ → List ℕ → Site → Bool
is_plain_at text word s = is_plain text word s.before s.here

-- whether the first of these tokens is this punctuator
abbrev pub begins : List ℕ → List ℕ → List Token → Bool
begins text mark [] = false
begins text mark (t ∷ ts) = is_mark text mark t

-- whether the first of these tokens is this word
abbrev pub begins_word : List ℕ → List ℕ → List Token → Bool
begins_word text word [] = false
begins_word text word (t ∷ ts) = is_word text word t

-- the first of these tokens
abbrev pub first_token : List Token → Option Token
first_token [] = None
first_token (t ∷ ts) = Some t

-- the first of these tokens, if it is a name
abbrev pub first_name : List Token → Option Token
first_name [] = None
first_name (t ∷ ts) = if is_ident t.kind then Some t else None
