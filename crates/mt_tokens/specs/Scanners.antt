-- What the code keeps of the tokens read so far.
use Rattle.std.specs.Prelude.{◌≡◌, ◌≢◌, ◌==◌, ℕ, Bool, true, false, if◌then◌else◌, List, ◌∷◌, map, drop, slice_get}
use Rattle.mt_tokens.specs.Brackets.{Unclosed, closing, is_misfit, unclosed}
use Rattle.mt_tokens.specs.Goals.{goal, operand_after, operand_after_innermost}
use Rattle.mt_tokens.specs.Tokens.{looking_back}
use Rattle.mt_tokens.specs.declared.brackets.Opener.{Opener}
use Rattle.mt_tokens.specs.declared.scanner.Scanner.{Scanner}
use Rattle.mt_tokens.specs.declared.token.Token.{Token}
use Rattle.mt_tokens.specs.declared.token.TokenFault.{TokenFault}
use Rattle.mt_tokens.specs.declared.token.TokenFault.TheVariants.{Unbalanced}

-- what is kept of an opener
abbrev pub kept : List ℕ → Unclosed → Opener
kept text o = record { place = o.place; closer = o.closer; operand = operand_after text o }

-- a closer, or none where it is 0, fits the innermost opener and closes it; what comes after a closer is told
abbrev pub IsClosed : ℕ → List ℕ → List Unclosed → List Opener → Bool → Type 0
IsClosed closed text openers rest inner =
    (is_misfit closed openers ≡ false)
    × (rest ≡ map (kept text) (drop (if closed == 0 then 0 else 1) openers))
    × (closed ≢ 0 → inner ≡ operand_after_innermost text openers)

-- the openers with one more, where it has a closer
abbrev pub with_opener : Opener → List Opener → List Opener
with_opener o openers = if o.closer == 0 then openers else o ∷ openers

-- a token closes nothing, or the innermost of these openers
abbrev pub Fits : List ℕ → Token → List Unclosed → Type 0
Fits text token openers = is_misfit (closing text token) openers ≡ false

-- a token closes something else, and is refused for it
abbrev pub IsRefused : List ℕ → Token → List Unclosed → TokenFault → Type 0
IsRefused text token openers fault = (is_misfit (closing text token) openers ≡ true) × (fault ≡ Unbalanced token.start)

-- the state of a scanner after these tokens, which are neither blanks nor comments, from the last one back
pub record Stands (text : List ℕ) (back : List Token) (s : Scanner) : Type 0 where
  pub openers : s.openers ≡ map (kept text) (unclosed text 0 back)
  pub last : s.last ≡ slice_get back 0
  pub earlier : s.earlier ≡ slice_get back 1
  pub operand : s.operand ≡ goal text back

-- the state of a scanner after these tokens
abbrev pub Follows : List ℕ → List Token → Scanner → Type 0
Follows text found s = Stands text (looking_back found) s
