-- What becomes of a source: its body and its dependencies, or its first refusal.
use Rattle.std.specs.Prelude.{ℕ, ◌-◌, Bool, true, false, ◌&&◌, ◌||◌, List, [], ◌∷◌, ◌++◌, take, drop, length, if◌then◌else◌, nat_lt, is_some, Option, Some, None, Result, Ok, Err, codes}
use Rattle.std.specs.List.{filter_map, flat_map, starts_with}
use Rattle.std.specs.Bool.{nat_eq}
use Rattle.std.specs.Str.{is_utf8}
use Rattle.std.specs.Str.Lossy.{utf8_valid_len}
use Rattle.serde_json.specs.Read.{read}
use Rattle.mt_chars.specs.LineEnds.{begins_line_end}
use Rattle.mt_tokens.specs.Deps.{Dependency, Deps, Edit, deps_of}
use Rattle.mt_tokens.specs.Tokens.{tokens_of}
use Rattle.mt_tokens.specs.Words.{bytes_of}
use Rattle.mt_tokens.specs.declared.dep.DepFault.{DepFault}
use Rattle.mt_tokens.specs.declared.dep.DepFault.TheVariants as dep
use Rattle.mt_tokens.specs.declared.token.Token.{Token}
use Rattle.mt_tokens.specs.declared.dep.Mark.{Mark}
use Rattle.mt_tokens.specs.declared.token.TokenFault.{TokenFault}
use Rattle.mt_tokens.specs.declared.token.TokenFault.TheVariants as token
use Rattle.mt_tokens.specs.declared.token.TokenKind.{TokenKind}
use Rattle.mt_tokens.specs.declared.token.TokenKind.TheVariants.{Comment}
use Rattle.mt_tokens.specs.declared.source.SourceFault.{SourceFault}
use Rattle.mt_tokens.specs.declared.source.SourceFault.TheVariants as fault
use Rattle.mt_tokens.specs.declared.source.SyntaxFault.TheVariants as syntax
use Rattle.mt_tokens.specs.declared.source.PathKind.{PathKind}
use Rattle.mt_tokens.specs.declared.source.PathKind.TheVariants.{Script, Json}

-- the most distinct dependencies of a source
abbrev pub max_dependencies : ℕ
max_dependencies = 4096

-- the body of a source, its dependencies with their places, and how many calls name what only a run can tell
pub record Transformed : Type 0 where
  pub body : List ℕ
  pub dependencies : List Dependency
  pub dynamic : ℕ

-- the source's refusal for a refusal of its tokens
abbrev pub token_refusal : TokenFault → SourceFault
token_refusal (token.UnclosedString place) = fault.Syntax place syntax.UnclosedString
token_refusal (token.UnclosedComment place) = fault.Syntax place syntax.UnclosedComment
token_refusal (token.BadByte place) = fault.Syntax place syntax.BadCharacter
token_refusal (token.Unbalanced place) = fault.Syntax place syntax.UnbalancedBracket
token_refusal (token.UnclosedTemplate place) = fault.Syntax place syntax.UnclosedTemplate
token_refusal (token.UnclosedRegex place) = fault.Syntax place syntax.UnclosedRegex
token_refusal token.NoMemory = fault.NoMemory

-- the source's refusal for a refusal of its dependencies
abbrev pub dep_refusal : DepFault → SourceFault
dep_refusal (dep.ImportForm place) = fault.Syntax place syntax.ImportForm
dep_refusal (dep.ExportForm place) = fault.Syntax place syntax.ExportForm
dep_refusal dep.NoMemory = fault.NoMemory

-- the first line of a body that exports
abbrev pub start_text : Bool → List ℕ
start_text exporting = if exporting then codes "Object.defineProperty(exports, \"__esModule\", { value: true });\n" else []

-- the lines at the end of a body: one for each name that it exports
abbrev pub mark_text : Mark → List ℕ
mark_text m = codes "\nexports." ++ m.name ++ codes " = " ++ m.local ++ codes ";"

abbrev pub end_text : List Mark → List ℕ
end_text marks = flat_map mark_text marks

-- whether there is a line end in a text
abbrev pub has_line_end : List ℕ → Bool
has_line_end [] = false
has_line_end (b ∷ rest) = begins_line_end (b ∷ rest) || has_line_end rest

-- what takes the place of a comment that is left out: of one between `/*` and `*/` a line end or a blank, of others nothing
abbrev pub left_of : List ℕ → List ℕ
left_of comment = if starts_with nat_eq comment (codes "/*") then (if has_line_end comment then codes "\n" else codes " ") else []

-- whether a comment is left out: where comments are, and one that begins with `#!` in any case
abbrev pub is_left_out : Bool → List ℕ → Bool
is_left_out strip comment = strip || starts_with nat_eq comment (codes "#!")

abbrev pub is_comment : TokenKind → Bool
is_comment Comment = true
is_comment kind = false

abbrev pub comment_edit : Bool → List ℕ → Token → Option Edit
comment_edit strip text t =
    if is_comment t.kind && is_left_out strip (bytes_of text t) then Some (record { start = t.start; end = t.end; text = left_of (bytes_of text t) }) else None

-- the comments that are left out
abbrev pub comment_edits : Bool → List ℕ → List Token → List Edit
comment_edits strip text ts = filter_map (comment_edit strip text) ts

-- the edits up to the first that begins at a place or after it, and those from it on
abbrev pub edits_before : ℕ → List Edit → List Edit
edits_before place [] = []
edits_before place (e ∷ es) = if nat_lt e.start place then e ∷ edits_before place es else []

abbrev pub edits_from : ℕ → List Edit → List Edit
edits_from place [] = []
edits_from place (e ∷ es) = if nat_lt e.start place then edits_from place es else e ∷ es

-- two lists of edits, each ascending, as one
abbrev pub merged : List Edit → List Edit → List Edit
merged uses [] = uses
merged uses (c ∷ cs) = edits_before c.start uses ++ c ∷ merged (edits_from c.start uses) cs

-- the text from a place on, with the edits made one after another: one that begins before the last one ended is passed over
abbrev pub edited : List ℕ → ℕ → List Edit → List ℕ
edited text at [] = drop at text
edited text at (e ∷ es) = if nat_lt e.start at then edited text at es else take (e.start - at) (drop at text) ++ e.text ++ edited text e.end es

-- the body of a text with these tokens, by what is found in it: its first line, the text with its edits, and the lines at its end
abbrev pub body_of : Bool → List ℕ → List Token → Deps → List ℕ
body_of strip text ts found = start_text found.exporting ++ edited text 0 (merged found.uses (comment_edits strip text ts)) ++ end_text found.marks

-- what a text becomes by what is found in it
abbrev pub made_of : Bool → List ℕ → List Token → Deps → Transformed
made_of strip text ts found = record { body = body_of strip text ts found; dependencies = found.deps; dynamic = found.dynamic }

-- whether a text is JSON
abbrev pub is_json : List ℕ → Bool
is_json source = is_some (read source)

-- what a JSON source becomes
abbrev pub json_of : List ℕ → Transformed
json_of source = record { body = codes "module.exports = " ++ source ++ codes ";"; dependencies = []; dynamic = 0 }

-- too many dependencies are refused, after all that isn't read
abbrev pub read_deps : Bool → List ℕ → List Token → Result Deps DepFault → Result Transformed SourceFault
read_deps strip text ts (Ok found) = if nat_lt max_dependencies (length found.deps) then Err fault.TooManyDeps else Ok (made_of strip text ts found)
read_deps strip text ts (Err f) = Err (dep_refusal f)

-- what a script with these tokens becomes
abbrev pub script_of : Bool → List ℕ → List Token → Result Transformed SourceFault
script_of strip text ts = read_deps strip text ts (deps_of text ts)

-- what a script becomes
abbrev pub read_script : Bool → List ℕ → Result (List Token) TokenFault → Result Transformed SourceFault
read_script strip text (Ok ts) = script_of strip text ts
read_script strip text (Err f) = Err (token_refusal f)

-- what a source that is UTF-8 becomes, by its kind
abbrev pub kind_transformed : Bool → PathKind → List ℕ → Result Transformed SourceFault
kind_transformed strip Script source = read_script strip source (tokens_of source)
kind_transformed strip Json source = if is_json source then Ok (json_of source) else Err fault.Json

-- what a source becomes, with its comments left out where `strip` is true, or its first refusal: first what isn't UTF-8
unfoldable pub transformed : Bool → PathKind → List ℕ → Result Transformed SourceFault
transformed strip kind source = if is_utf8 source then kind_transformed strip kind source else Err (fault.NotUtf8 (utf8_valid_len source))

-- the dependencies of what a source became
abbrev pub dependencies_of : Result Transformed SourceFault → List Dependency
dependencies_of (Ok t) = t.dependencies
dependencies_of (Err f) = []
