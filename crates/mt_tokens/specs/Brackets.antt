-- The brackets that are open after a list of tokens.
use Rattle.std.specs.Prelude.{ℕ, Bool, ◌+◌, ◌-◌, ◌==◌, ◌||◌, ◌&&◌, not, false, List, [], ◌∷◌, slice_index, Option, Some, None, if◌then◌else◌}
use Rattle.mt_tokens.specs.declared.token.Token.{Token}
use Rattle.mt_tokens.specs.declared.token.TokenKind.{TokenKind}
use Rattle.mt_tokens.specs.declared.token.TokenKind.TheVariants.{Punct, Head, Middle, Tail}

-- `(`, `[` and `{`
abbrev pub is_opener : ℕ → Bool
is_opener b = b == 40 || b == 91 || b == 123

-- `)`, `]` and `}`
abbrev pub is_closer : ℕ → Bool
is_closer b = b == 41 || b == 93 || b == 125

-- the closer that fits an opener
abbrev pub closer_of : ℕ → ℕ
closer_of b = if b == 40 then 41 else (if b == 91 then 93 else 125)

-- the byte of the text that a token begins with
abbrev pub first_byte : List ℕ → Token → ℕ
first_byte text t = slice_index text t.start

-- what closes that which a token of this kind and first byte opens: the closer of a bracket, a backtick for the `${` that ends a piece of a template, and 0 where it opens nothing
abbrev pub opened_by : TokenKind → ℕ → ℕ
opened_by Punct b = if is_opener b then closer_of b else 0
opened_by Head b = 96
opened_by Middle b = 96
opened_by kind b = 0

-- what a token of this kind and first byte closes, told in the same way
abbrev pub closed_by : TokenKind → ℕ → ℕ
closed_by Punct b = if is_closer b then b else 0
closed_by Middle b = 96
closed_by Tail b = 96
closed_by kind b = 0

abbrev pub opening : List ℕ → Token → ℕ
opening text t = opened_by t.kind (first_byte text t)

abbrev pub closing : List ℕ → Token → ℕ
closing text t = closed_by t.kind (first_byte text t)

-- an opener that stays unclosed: its place, what closes it, and the tokens before it, from the last one back
pub record Unclosed : Type 0 where
  pub place : ℕ
  pub closer : ℕ
  pub before : List Token

-- the openers that stay unclosed, the innermost first, in the tokens from the last one back, where so many closers were seen
-- that still close one
abbrev pub unclosed : List ℕ → ℕ → List Token → List Unclosed
unclosed text closers [] = []
unclosed text closers (t ∷ back) =
    if opening text t == 0 then unclosed text (if closing text t == 0 then closers else closers + 1) back
    else (if closers == 0
    then record { place = t.start; closer = opening text t; before = back } ∷ unclosed text (if closing text t == 0 then 0 else 1) back
    else unclosed text (if closing text t == 0 then closers - 1 else closers - 1 + 1) back)

-- whether something that a token closes isn't the innermost of the openers
abbrev pub is_misfit : ℕ → List Unclosed → Bool
is_misfit closed [] = not (closed == 0)
is_misfit closed (o ∷ openers) = not (closed == 0) && not (closed == o.closer)

-- whether the innermost of the openers is the `${` of a template
abbrev pub is_in_template : List Unclosed → Bool
is_in_template [] = false
is_in_template (o ∷ openers) = o.closer == 96

-- the place of the innermost of the openers
abbrev pub innermost_place : List Unclosed → Option ℕ
innermost_place [] = None
innermost_place (o ∷ openers) = Some o.place
