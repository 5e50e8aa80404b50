-- What is found in a script: its dependencies, what takes the place of parts of it, and what it exports.
use Rattle.std.specs.Prelude.{ℕ, ◌+◌, Bool, true, false, ◌&&◌, List, [], ◌∷◌, ◌++◌, if◌then◌else◌, Option, Some, None, is_some, option_map, unwrap_or, Result, Ok, Err}
use Rattle.std.specs.List.{count_by, filter_map, flat_map, fold, list_any}
use Rattle.std.specs.Str.{bytes_eq}
use Rattle.mt_tokens.specs.Readings.{found_in}
use Rattle.mt_tokens.specs.Replacements.{form_text, import_call_text, map_entry, marks_of}
use Rattle.mt_tokens.specs.declared.dep.Dep.{Dep}
use Rattle.mt_tokens.specs.declared.dep.DepFault.{DepFault}
use Rattle.mt_tokens.specs.declared.dep.Mark.{Mark}
use Rattle.mt_tokens.specs.declared.dep.Use.{Use}
use Rattle.mt_tokens.specs.declared.forms.Form.{Form}
use Rattle.mt_tokens.specs.declared.forms.Form.TheVariants.{ExportDeclared, ExportDefault, ExportFrom, ExportList, Import}
use Rattle.mt_tokens.specs.declared.forms.Found.{Found}
use Rattle.mt_tokens.specs.declared.forms.Found.TheVariants.{Dynamic, ImportCall, Require, Statement}
use Rattle.mt_tokens.specs.declared.forms.Named.{Named}
use Rattle.mt_tokens.specs.declared.source.DepKind.{DepKind}
use Rattle.mt_tokens.specs.declared.source.DepKind.TheVariants as kind
use Rattle.mt_tokens.specs.declared.token.Token.{Token}

-- a dependency: what the string says, how it is named, and where the string begins
abbrev pub Dependency : Type 0
Dependency = Dep

-- a range of a text, and what takes its place
abbrev pub Edit : Type 0
Edit = Use

-- the dependency on a module
abbrev pub dependency : DepKind → Named → Dependency
dependency k m = record { name = m.name; kind = k; place = m.string.start }

abbrev pub form_dependency : Form → Option Dependency
form_dependency (Import d b m) = Some (dependency kind.Import m)
form_dependency (ExportFrom b m) = Some (dependency kind.Import m)
form_dependency (ExportList its e) = None
form_dependency (ExportDefault e l) = None
form_dependency (ExportDeclared ls) = None

-- the dependency of what is found at a word
abbrev pub dependency_of : Found → Option Dependency
dependency_of (Require m) = Some (dependency kind.Require m)
dependency_of (ImportCall w m) = Some (dependency kind.ImportCall m)
dependency_of Dynamic = None
dependency_of (Statement w form) = form_dependency form

-- whether two kinds are one
abbrev pub same_kind : DepKind → DepKind → Bool
same_kind kind.Require kind.Require = true
same_kind kind.Import kind.Import = true
same_kind kind.ImportCall kind.ImportCall = true
same_kind a b = false

-- whether a dependency has this name and kind
abbrev pub is_named : List ℕ → DepKind → Dependency → Bool
is_named name k d = same_kind d.kind k && bytes_eq d.name name

-- the number of a name and kind among the dependencies, from 0
abbrev pub number_of : List ℕ → DepKind → List Dependency → Option ℕ
number_of name k [] = None
number_of name k (d ∷ ds) = if is_named name k d then Some 0 else option_map (λ n. n + 1) (number_of name k ds)

-- the list with one more at its end, unless one of this name and kind is there already
abbrev pub with_first : List Dependency → Dependency → List Dependency
with_first ds d = if is_some (number_of d.name d.kind ds) then ds else ds ++ d ∷ []

-- each name and kind once, at its first place
abbrev pub dependencies : List Found → List Dependency
dependencies fs = fold with_first [] (filter_map dependency_of fs)

-- the number of a dependency, and 0 where there is none
abbrev pub number_in : List Dependency → Option Dependency → ℕ
number_in ds None = 0
number_in ds (Some d) = unwrap_or (number_of d.name d.kind ds) 0

-- the place after what a form replaces: the whole statement, or the words `export default` or `export`
abbrev pub form_end : Token → Form → ℕ
form_end word (Import d b m) = m.end
form_end word (ExportFrom b m) = m.end
form_end word (ExportList its e) = e
form_end word (ExportDefault e l) = e
form_end word (ExportDeclared ls) = word.end

-- what takes the place of what is found, whose dependency has this number: of a required string alone, of a whole call of `import`, of a statement
abbrev pub use_of : List ℕ → ℕ → Found → Option Edit
use_of text i (Require m) = Some (record { start = m.string.start; end = m.string.end; text = map_entry i })
use_of text i (ImportCall w m) = Some (record { start = w.start; end = m.end; text = import_call_text i })
use_of text i Dynamic = None
use_of text i (Statement w form) = Some (record { start = w.start; end = form_end w form; text = form_text text i form })

abbrev pub edit_of : List ℕ → List Dependency → Found → Option Edit
edit_of text ds f = use_of text (number_in ds (dependency_of f)) f

-- the names that it exports
abbrev pub marks_at : List ℕ → Found → List Mark
marks_at text (Statement w form) = marks_of text form
marks_at text (Require m) = []
marks_at text (ImportCall w m) = []
marks_at text Dynamic = []

-- whether it is a call that names no module
abbrev pub is_dynamic : Found → Bool
is_dynamic Dynamic = true
is_dynamic (Require m) = false
is_dynamic (ImportCall w m) = false
is_dynamic (Statement w form) = false

abbrev pub is_export_form : Form → Bool
is_export_form (Import d b m) = false
is_export_form (ExportFrom b m) = true
is_export_form (ExportList its e) = true
is_export_form (ExportDefault e l) = true
is_export_form (ExportDeclared ls) = true

-- whether it is an export
abbrev pub is_export : Found → Bool
is_export (Statement w form) = is_export_form form
is_export (Require m) = false
is_export (ImportCall w m) = false
is_export Dynamic = false

-- what is found in a text: its dependencies, the ranges to be replaced, the names that it exports, whether it has an `export`, and how many calls name what only a run can tell
pub record Deps : Type 0 where
  pub deps : List Dependency
  pub uses : List Edit
  pub marks : List Mark
  pub exporting : Bool
  pub dynamic : ℕ

abbrev pub gathered : List ℕ → List Found → Deps
gathered text fs = record {
  deps = dependencies fs;
  uses = filter_map (edit_of text (dependencies fs)) fs;
  marks = flat_map (marks_at text) fs;
  exporting = list_any is_export fs;
  dynamic = count_by is_dynamic fs;
}

abbrev pub gathered_or : List ℕ → Result (List Found) DepFault → Result Deps DepFault
gathered_or text (Ok fs) = Ok (gathered text fs)
gathered_or text (Err e) = Err e

-- what is found in a text with these tokens, or the first import or export that has no form
unfoldable pub deps_of : List ℕ → List Token → Result Deps DepFault
deps_of text ts = gathered_or text (found_in text ts)
