-- The tokens of a text.
use Rattle.std.specs.Prelude.{ℕ, zero, suc, ◌+◌, ◌<◌, ◌≡◌, ◌⊎◌, List, [], ◌∷◌, ◌++◌, length, take, drop, reverse, nat_lt, slice_get, if◌then◌else◌, Some, Result, Ok, Err, IsCharBoundary}
use Rattle.std.specs.Option.{option_map, option_map_or}
use Rattle.mt_tokens.specs.Brackets.{Unclosed, closing, innermost_place, is_in_template, is_misfit, unclosed}
use Rattle.mt_tokens.specs.Front.{front_of}
use Rattle.mt_tokens.specs.Goals.{goal}
use Rattle.mt_tokens.specs.Words.{seen}
use Rattle.mt_tokens.specs.declared.front.Before.{Before}
use Rattle.mt_tokens.specs.declared.token.Token.{Token}
use Rattle.mt_tokens.specs.declared.token.TokenFault.{TokenFault}
use Rattle.mt_tokens.specs.declared.token.TokenFault.TheVariants.{Unbalanced}

-- the largest number of bytes of a text that tokens are made of: 16 MiB
abbrev pub max_text_bytes : ℕ
max_text_bytes = 16777216

-- what comes next after an answer, which a fault ends
abbrev pub and_then : {T U : Type 0} → Result T TokenFault → (T → Result U TokenFault) → Result U TokenFault
and_then (Ok x) next = next x
and_then (Err e) next = Err e

-- where tokens end that begin at a place
abbrev pub end_from : ℕ → List Token → ℕ
end_from place [] = place
end_from place (t ∷ ts) = end_from t.end ts

-- where the tokens end
abbrev pub end_of : List Token → ℕ
end_of ts = end_from 0 ts

-- the tokens that are neither blanks nor comments, from the last one back
abbrev pub looking_back : List Token → List Token
looking_back found = reverse (seen found)

-- the openers that the tokens found so far leave unclosed, the innermost first
abbrev pub open_in : List ℕ → List Token → List Unclosed
open_in text found = unclosed text 0 (looking_back found)

-- what the tokens found so far tell of the next one
abbrev pub before_next : List ℕ → List Token → Before
before_next text found = record { operand = goal text (looking_back found); in_template = is_in_template (open_in text found) }

-- the token of the first kind that fits at a place, after those found
abbrev pub token_at : List ℕ → Before → ℕ → Result Token TokenFault
token_at text before place = and_then (front_of before place (drop place text)) (λ f. Ok (record { kind = f.0; start = place; end = place + f.1 }))

-- a token, unless it closes something else than the innermost of the openers
abbrev pub fitting : List ℕ → List Unclosed → Token → Result Token TokenFault
fitting text openers t = if is_misfit (closing text t) openers then Err (Unbalanced t.start) else Ok t

-- the next token after those found: the first kind that fits where they end
abbrev pub next_token : List ℕ → List Token → Result Token TokenFault
next_token text found = and_then (token_at text (before_next text found) (end_of found)) (fitting text (open_in text found))

-- each of the tokens is the next one after those before it
abbrev pub FollowOneAnother : List ℕ → List Token → Type 0
FollowOneAnother text ts = (k : ℕ) (t : Token) → slice_get ts k ≡ Some t → next_token text (take k ts) ≡ Ok t

-- the tokens of a text: they follow one another to its end, and no opener stays unclosed
pub record HasTokens (text : List ℕ) (ts : List Token) : Type 0 where
  pub each : FollowOneAnother text ts
  pub whole : end_of ts ≡ length text
  pub closed : open_in text ts ≡ []

-- before the end of the text no token comes next
abbrev pub HasNoNext : List ℕ → List Token → TokenFault → Type 0
HasNoNext text found e = (end_of found < length text) × (next_token text found ≡ Err e)

-- at the end of the text an opener is unclosed
abbrev pub EndsUnclosed : List ℕ → List Token → TokenFault → Type 0
EndsUnclosed text found e = (end_of found ≡ length text) × (option_map Unbalanced (innermost_place (open_in text found)) ≡ Some e)

-- the first fault of a text: tokens follow one another up to it
pub record HasFault (text : List ℕ) (e : TokenFault) : Type 0 where
  pub found : List Token
  pub each : FollowOneAnother text found
  pub fault : HasNoNext text found e ⊎ EndsUnclosed text found e

-- the tokens at the end of the text, where no opener is unclosed
abbrev pub closed : List ℕ → List Token → Result (List Token) TokenFault
closed text found = option_map_or (λ place. Err (Unbalanced place)) (innermost_place (open_in text found)) (Ok found)

-- the tokens found so far and the next ones up to the end, so many at most
abbrev pub scan : ℕ → List ℕ → List Token → Result (List Token) TokenFault
scan zero text found = closed text found
scan (suc most) text found =
    if nat_lt (end_of found) (length text) then and_then (next_token text found) (λ t. scan most text (found ++ t ∷ [])) else closed text found

-- the tokens of a text, or the first fault: a text has no more tokens than bytes
abbrev pub tokens_of : List ℕ → Result (List Token) TokenFault
tokens_of text = scan (length text) text []

-- tokens lie one after another without gaps from a place to another, and none is empty
abbrev pub Covers : ℕ → ℕ → List Token → Type 0
Covers from to [] = from ≡ to
Covers from to (t ∷ ts) = (t.start ≡ from) × (t.start < t.end) × Covers t.end to ts

-- a token begins and ends between characters of the text
abbrev pub IsCut : List ℕ → Token → Type 0
IsCut text t = IsCharBoundary text t.start × IsCharBoundary text t.end
