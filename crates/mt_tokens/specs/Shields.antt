-- The functions that shield what is in them: one of their parameters is named `require`, so no `require` in them names a module.
use Rattle.std.specs.Prelude.{ℕ, ◌+◌, ◌-◌, ◌==◌, max, Bool, true, false, ◌&&◌, ◌||◌, List, [], ◌∷◌, drop, length, if◌then◌else◌, codes}
use Rattle.mt_tokens.specs.Sites.{begins, closes, depth_after}
use Rattle.mt_tokens.specs.Words.{is_ident, is_mark, is_word}
use Rattle.mt_tokens.specs.declared.forms.Cover.{Cover}
use Rattle.mt_tokens.specs.declared.forms.Head.{Head}
use Rattle.mt_tokens.specs.declared.forms.Head.TheVariants.{Elsewhere, Function, Name, Star}
use Rattle.mt_tokens.specs.declared.token.Token.{Token}

-- the tokens from the closer of a bracket on, where so many more are open inside it
abbrev pub from_closer : List ℕ → ℕ → List Token → List Token
from_closer text inside [] = []
from_closer text inside (t ∷ ts) = if closes text t && inside == 0 then t ∷ ts else from_closer text (depth_after text inside t) ts

-- the tokens after the closer of a bracket, which was opened before these
abbrev pub after_closer : List ℕ → List Token → List Token
after_closer text ts = drop 1 (from_closer text 0 ts)

-- whether the tokens begin with `require` and `,`, `)` or `=`
abbrev pub begins_parameter : List ℕ → List Token → Bool
begins_parameter text [] = false
begins_parameter text (r ∷ ts) = is_word text (codes "require") r && (begins text (codes ",") ts || begins text (codes ")") ts || begins text (codes "=") ts)

-- whether that stands after a `,` directly in a bracket, before its closer, where so many more are open inside it
abbrev pub has_parameter : List ℕ → ℕ → List Token → Bool
has_parameter text inside [] = false
has_parameter text inside (t ∷ ts) =
    if closes text t && inside == 0 then false
    else (inside == 0 && is_mark text (codes ",") t && begins_parameter text ts) || has_parameter text (depth_after text inside t) ts

-- how many tokens `(` parameters `)` `{` body `}` has from this token on, if one of the parameters is `require`; 0 where it isn't that
abbrev pub span : List ℕ → Token → List Token → ℕ
span text t ts =
    if is_mark text (codes "(") t && (begins_parameter text ts || has_parameter text 0 ts) && begins text (codes "{") (after_closer text ts)
    then (length ts + 1) - length (after_closer text (drop 1 (after_closer text ts))) else 0

-- the front of a function after one token more: `function`, an optional `*` and an optional name
abbrev pub star_after : Head → Head
star_after Function = Star
star_after head = Elsewhere

abbrev pub name_after : Head → Head
name_after Function = Name
name_after Star = Name
name_after head = Elsewhere

abbrev pub head_after : List ℕ → Head → Token → Head
head_after text head t =
    if is_word text (codes "function") t then Function
    else (if is_mark text (codes "*") t then star_after head else (if is_ident t.kind then name_after head else Elsewhere))

abbrev pub is_front : Head → Bool
is_front Elsewhere = false
is_front head = true

-- before the first token
abbrev pub no_cover : Cover
no_cover = record { head = Elsewhere; count = 0 }

-- what is covered after a token with this span: it counts where the front of a function is before it
abbrev pub cover_by : List ℕ → Cover → ℕ → Token → Cover
cover_by text c n t = record { head = head_after text c.head t; count = (if is_front c.head then max c.count n else c.count) - 1 }

abbrev pub cover_after : List ℕ → Cover → Token → List Token → Cover
cover_after text c t ts = cover_by text c (span text t ts) t
