-- What is cut between characters of a text.
use Rattle.std.specs.Prelude.{ℕ, List, Option, Some, None, IsCharBoundary}
use Rattle.std.specs.List.{AllByRecursion}
use Rattle.mt_tokens.specs.Tokens.{IsCut}
use Rattle.mt_tokens.specs.declared.forms.Bound.{Bound}
use Rattle.mt_tokens.specs.declared.forms.Bound.TheVariants.{All, Listed, Nothing}
use Rattle.mt_tokens.specs.declared.forms.Form.{Form}
use Rattle.mt_tokens.specs.declared.forms.Form.TheVariants.{ExportDeclared, ExportDefault, ExportFrom, ExportList, Import}
use Rattle.mt_tokens.specs.declared.forms.Found.{Found}
use Rattle.mt_tokens.specs.declared.forms.Found.TheVariants.{Dynamic, ImportCall, Require, Statement}
use Rattle.mt_tokens.specs.declared.forms.Item.{Item}
use Rattle.mt_tokens.specs.declared.forms.Named.{Named}
use Rattle.mt_tokens.specs.declared.token.Token.{Token}

-- what is there has it
abbrev pub IfThere : {X : Type 0} → (X → Type 0) → Option X → Type 0
IfThere P None = Unit {0}
IfThere P (Some x) = P x

-- each token begins and ends between characters
abbrev pub AreCut : List ℕ → List Token → Type 0
AreCut text ts = AllByRecursion (IsCut text) ts

-- so does a string that names a module, and what it stands in ends there
abbrev pub IsNamedCut : List ℕ → Named → Type 0
IsNamedCut text m = IsCut text m.string × IsCharBoundary text m.end

-- so do both names of an item
abbrev pub IsItemCut : List ℕ → Item → Type 0
IsItemCut text i = IsCut text i.name × IsCut text i.other

-- so do the names of what a statement takes
abbrev pub IsBoundCut : List ℕ → Bound → Type 0
IsBoundCut text Nothing = Unit {0}
IsBoundCut text (All n) = IsCut text n
IsBoundCut text (Listed its) = AllByRecursion (IsItemCut text) its

-- so do the tokens of a form, and its end is there
abbrev pub IsFormCut : List ℕ → Form → Type 0
IsFormCut text (Import d b m) = IfThere (IsCut text) d × IsBoundCut text b × IsNamedCut text m
IsFormCut text (ExportFrom b m) = IsBoundCut text b × IsNamedCut text m
IsFormCut text (ExportList its e) = AllByRecursion (IsItemCut text) its × IsCharBoundary text e
IsFormCut text (ExportDefault e l) = IsCharBoundary text e × IfThere (IsCut text) l
IsFormCut text (ExportDeclared ls) = AreCut text ls

-- so do the tokens of what is found at a word
abbrev pub IsFoundCut : List ℕ → Found → Type 0
IsFoundCut text (Require m) = IsNamedCut text m
IsFoundCut text (ImportCall w m) = IsCut text w × IsNamedCut text m
IsFoundCut text Dynamic = Unit {0}
IsFoundCut text (Statement w form) = IsCut text w × IsFormCut text form
