-- What takes the place of imports and exports, and the names that are exported.
use Rattle.std.specs.Prelude.{ℕ, List, [], ◌∷◌, ◌++◌, map, if◌then◌else◌, Option, Some, None, codes, decimal}
use Rattle.std.specs.List.{flat_map}
use Rattle.mt_tokens.specs.Words.{bytes_of, is_word}
use Rattle.mt_tokens.specs.declared.dep.Mark.{Mark}
use Rattle.mt_tokens.specs.declared.forms.Bound.{Bound}
use Rattle.mt_tokens.specs.declared.forms.Bound.TheVariants.{All, Listed, Nothing}
use Rattle.mt_tokens.specs.declared.forms.Form.{Form}
use Rattle.mt_tokens.specs.declared.forms.Form.TheVariants.{ExportDeclared, ExportDefault, ExportFrom, ExportList, Import}
use Rattle.mt_tokens.specs.declared.forms.Item.{Item}
use Rattle.mt_tokens.specs.declared.token.Token.{Token}

-- the dependency with this number, as a module's text names it
abbrev pub map_entry : ℕ → List ℕ
map_entry i = codes "dependencyMap[" ++ decimal i ++ codes "]"

-- the module, its default, and the whole of it
abbrev pub required : ℕ → List ℕ
required i = codes "require(" ++ map_entry i ++ codes ")"

abbrev pub defaulted : ℕ → List ℕ
defaulted i = codes "importDefault(" ++ map_entry i ++ codes ")"

abbrev pub whole : ℕ → List ℕ
whole i = codes "importAll(" ++ map_entry i ++ codes ")"

-- a statement that only requires the module
abbrev pub only_required : ℕ → List ℕ
only_required i = required i ++ codes ";"

-- `var n = ` or `exports.n = `
abbrev pub set_begin : List ℕ → List ℕ → Token → List ℕ
set_begin text target name = target ++ bytes_of text name ++ codes " = "

-- `var n = VALUE;` or `exports.n = VALUE;`
abbrev pub set_to : List ℕ → List ℕ → Token → List ℕ → List ℕ
set_to text target name value = set_begin text target name ++ value ++ codes ";"

-- what a module has by a name: its default, or a property
abbrev pub property : List ℕ → ℕ → Token → List ℕ
property text i n = if is_word text (codes "default") n then defaulted i else required i ++ codes "." ++ bytes_of text n

abbrev pub item_text : List ℕ → List ℕ → ℕ → Item → List ℕ
item_text text target i it = set_to text target it.other (property text i it.name)

-- the texts of the items with one blank between them, or the module alone where there is no item
abbrev pub list_text : List ℕ → List ℕ → ℕ → List Item → List ℕ
list_text text target i [] = only_required i
list_text text target i (it ∷ its) = item_text text target i it ++ flat_map (λ more. codes " " ++ item_text text target i more) its

abbrev pub default_text : List ℕ → ℕ → Token → List ℕ
default_text text i d = set_to text (codes "var ") d (defaulted i)

abbrev pub bound_text : List ℕ → List ℕ → ℕ → Bound → List ℕ
bound_text text target i Nothing = only_required i
bound_text text target i (All n) = set_to text target n (whole i)
bound_text text target i (Listed its) = list_text text target i its

-- what comes after the text of the default's name
abbrev pub more_text : List ℕ → ℕ → Bound → List ℕ
more_text text i Nothing = []
more_text text i (All n) = codes " " ++ bound_text text (codes "var ") i (All n)
more_text text i (Listed its) = codes " " ++ bound_text text (codes "var ") i (Listed its)

-- in place of an import
abbrev pub import_text : List ℕ → ℕ → Option Token → Bound → List ℕ
import_text text i None b = bound_text text (codes "var ") i b
import_text text i (Some d) b = default_text text i d ++ more_text text i b

-- in place of a call of `import`
abbrev pub import_call_text : ℕ → List ℕ
import_call_text i = codes "Promise.resolve(" ++ map_entry i ++ codes ").then(importAll)"

-- in place of an export of all that a module exports
abbrev pub export_all_text : ℕ → List ℕ
export_all_text i = codes "__exportAll(exports, " ++ required i ++ codes ");"

-- in place of an export of what another module has
abbrev pub export_from_text : List ℕ → ℕ → Bound → List ℕ
export_from_text text i Nothing = export_all_text i
export_from_text text i (All n) = bound_text text (codes "exports.") i (All n)
export_from_text text i (Listed its) = bound_text text (codes "exports.") i (Listed its)

-- in place of `export default`: nothing before a function or a class with a name
abbrev pub export_default_text : Option Token → List ℕ
export_default_text None = codes "exports.default ="
export_default_text (Some l) = []

-- in place of a form whose dependency has this number
abbrev pub form_text : List ℕ → ℕ → Form → List ℕ
form_text text i (Import d b m) = import_text text i d b
form_text text i (ExportFrom b m) = export_from_text text i b
form_text text i (ExportList its e) = []
form_text text i (ExportDefault e l) = export_default_text l
form_text text i (ExportDeclared ls) = []

-- `n as m` exports n under the name m
abbrev pub item_mark : List ℕ → Item → Mark
item_mark text it = record { name = bytes_of text it.other; local = bytes_of text it.name }

abbrev pub name_mark : List ℕ → Token → Mark
name_mark text l = record { name = bytes_of text l; local = bytes_of text l }

abbrev pub default_marks : List ℕ → Option Token → List Mark
default_marks text None = []
default_marks text (Some l) = record { name = codes "default"; local = bytes_of text l } ∷ []

-- the names that a form exports
abbrev pub marks_of : List ℕ → Form → List Mark
marks_of text (Import d b m) = []
marks_of text (ExportFrom b m) = []
marks_of text (ExportList its e) = map (item_mark text) its
marks_of text (ExportDefault e l) = default_marks text l
marks_of text (ExportDeclared ls) = map (name_mark text) ls
