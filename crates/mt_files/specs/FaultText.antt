-- How a fault is told.
use Rattle.std.specs.Prelude.{ℕ, ◌/◌, ◌%◌, ◌+◌, List, [], ◌∷◌, ◌++◌, nat_lt, ◌==◌, ◌||◌, if◌then◌else◌, codes}
use Rattle.std.specs.List.{flat_map}
use Rattle.std.specs.Fmt.{decimal}
use Rattle.mt_tokens.specs.declared.source.SourceFault.{SourceFault}
use Rattle.mt_tokens.specs.declared.source.SourceFault.TheVariants as source
use Rattle.mt_tokens.specs.declared.source.SyntaxFault.{SyntaxFault}
use Rattle.mt_tokens.specs.declared.source.SyntaxFault.TheVariants as syntax
use Rattle.mt_files.specs.declared.build_fault.BuildFault.{BuildFault}
use Rattle.mt_files.specs.declared.build_fault.BuildFault.TheVariants.{EntryMissing, Source, Unresolved, Package, TooManyModules, NoMemory}

-- a hexadecimal digit in lower case
abbrev pub hex_digit : ℕ → ℕ
hex_digit n = if nat_lt n 10 then 48 + n else 87 + n

-- a control character of a name as `\x` with two hexadecimal digits
abbrev pub control_text : ℕ → List ℕ
control_text b = 92 ∷ 120 ∷ hex_digit (b / 16) ∷ hex_digit (b % 16) ∷ []

-- a byte of a name: `\` before `\` and `"`, and a control character as `\x` with two hexadecimal digits
abbrev pub quoted_byte : ℕ → List ℕ
quoted_byte b =
    if b == 92 || b == 34 then 92 ∷ b ∷ []
    else (if nat_lt b 32 || b == 127 then control_text b else b ∷ [])

-- a name between `"`
abbrev pub quoted : List ℕ → List ℕ
quoted name = 34 ∷ flat_map quoted_byte name ++ 34 ∷ []

-- what breaks the grammar
abbrev pub syntax_text : SyntaxFault → List ℕ
syntax_text syntax.UnclosedString = codes "unclosed string"
syntax_text syntax.UnclosedComment = codes "unclosed comment"
syntax_text syntax.BadCharacter = codes "bad character"
syntax_text syntax.UnbalancedBracket = codes "unbalanced bracket"
syntax_text syntax.UnclosedTemplate = codes "unclosed template"
syntax_text syntax.UnclosedRegex = codes "unclosed regular expression"
syntax_text syntax.ImportForm = codes "import form"
syntax_text syntax.ExportForm = codes "export form"

-- a path, a place and what is wrong there
abbrev pub at_place : List ℕ → ℕ → List ℕ → List ℕ
at_place path place text = path ++ (codes ":" ++ (decimal place ++ (codes ": " ++ text)))

-- the refusal of the source at a path
abbrev pub source_text : List ℕ → SourceFault → List ℕ
source_text path (source.NotUtf8 place) = at_place path place (codes "not UTF-8")
source_text path (source.Syntax place why) = at_place path place (codes "syntax: " ++ syntax_text why)
source_text path source.Json = at_place path 0 (codes "not JSON")
source_text path source.TooManyDeps = at_place path 0 (codes "more than 4096 dependencies")
source_text path source.NoMemory = codes "out of memory"

-- an entry where no source stands
abbrev pub entry_text : List ℕ → List ℕ
entry_text path = codes "entry " ++ (path ++ codes " is not a source file")

-- a name that leads nowhere, at the place where it is required
abbrev pub unresolved_text : List ℕ → ℕ → List ℕ → List ℕ
unresolved_text path place name = at_place path place (codes "cannot resolve " ++ quoted name)

-- a package whose file can't be read, at the place where a name leads to it
abbrev pub package_text : List ℕ → ℕ → List ℕ → List ℕ
package_text path place file = at_place path place (codes "bad package file " ++ file)

-- the text of a fault
abbrev pub text_of : BuildFault → List ℕ
text_of (EntryMissing path) = entry_text path
text_of (Source path fault) = source_text path fault
text_of (Unresolved path place name) = unresolved_text path place name
text_of (Package path place file) = package_text path place file
text_of TooManyModules = codes "more than 65536 modules"
text_of NoMemory = codes "out of memory"
