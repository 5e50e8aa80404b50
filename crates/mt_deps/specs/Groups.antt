-- Brackets, from the last token back.
use Rattle.std.specs.Prelude.{ℕ, ◌+◌, ◌-◌, true, false, ◌&&◌, ◌||◌, List, [], ◌∷◌, drop, length, if◌then◌else◌, Option, Some, None, codes}
use Rattle.mt_tokens.specs.Shields.{after_closer, begins_parameter, span}
use Rattle.mt_tokens.specs.Sites.{begins, closes, opens}
use Rattle.mt_tokens.specs.Words.{is_mark}
use Rattle.mt_tokens.specs.declared.token.Token.{Token}
use Rattle.mt_deps.specs.declared.spans.Group.{Group}

-- how many tokens are after a body that begins here
abbrev pub body_of : List ℕ → List Token → Option ℕ
body_of text us = if begins text (codes "{") us then Some (length (after_closer text (drop 1 us))) else None

-- a `require` is a parameter in the innermost bracket
abbrev pub mark_first : List Group → List Group
mark_first [] = []
mark_first (g ∷ gs) = record { after = g.after; body = g.body; has = true } ∷ gs

-- a token opens the innermost bracket, if it opens one
abbrev pub without_opened : List ℕ → List Group → Token → List Group
without_opened text gs t = if opens text t then drop 1 gs else gs

-- one token more before
abbrev pub groups_before : List ℕ → List Group → Option ℕ → Token → List Token → List Group
groups_before text gs body t ts =
    if closes text t then record { after = length ts; body = body; has = false } ∷ without_opened text gs t
    else (if is_mark text (codes ",") t && begins_parameter text ts then mark_first (without_opened text gs t) else without_opened text gs t)

-- the brackets that are closed and not opened in these tokens, the innermost first
abbrev pub groups_of : List ℕ → List Token → List Group
groups_of text [] = []
groups_of text (t ∷ ts) = groups_before text (groups_of text ts) (body_of text ts) t ts

abbrev pub first_group : List Group → Option Group
first_group [] = None
first_group (g ∷ gs) = Some g

abbrev pub after_of : Option Group → ℕ
after_of None = 0
after_of (Some g) = g.after

-- a body begins with a token whose bracket is this one
abbrev pub body_before : List ℕ → Option Group → Token → Option ℕ
body_before text g t = if is_mark text (codes "{") t then Some (after_of g) else None

abbrev pub length_to : ℕ → Option ℕ → ℕ
length_to n None = 0
length_to n (Some behind) = n - behind

-- the span of a token whose bracket is this one
abbrev pub span_by : List ℕ → Option Group → Token → List Token → ℕ
span_by text None t ts = 0
span_by text (Some g) t ts = if is_mark text (codes "(") t && (begins_parameter text ts || g.has) then length_to (length ts + 1) g.body else 0

-- the spans of all tokens
abbrev pub spans_of : List ℕ → List Token → List ℕ
spans_of text [] = []
spans_of text (t ∷ ts) = span text t ts ∷ spans_of text ts
