-- What the bytes of a package file say.
use Rattle.std.specs.Prelude.{ℕ, List, [], ◌∷◌, if◌then◌else◌, Option, Some, None, is_some, option_and_then, Result, Ok, Err}
use Rattle.std.specs.Str.{is_utf8}
use Rattle.serde_json.specs.Data.{Data}
use Rattle.serde_json.specs.Find.{as_object, as_str, get}
use Rattle.serde_json.specs.Read.{read}
use Rattle.serde_json.specs.View.{view}
use Rattle.mt_package.specs.declared.package.Package.{Package}
use Rattle.mt_package.specs.declared.package.PackageFault.{PackageFault}
use Rattle.mt_package.specs.declared.package.PackageFault.TheVariants.{NotJson, NotObject}

-- JSON text that is an object
abbrev pub object_of : Option Data → Result Data PackageFault
object_of None = Err NotJson
object_of (Some d) = if is_some (as_object d) then Ok d else Err NotObject

-- the object that the bytes spell in JSON, which is UTF-8
abbrev pub package_of : List ℕ → Result Data PackageFault
package_of bytes = if is_utf8 bytes then object_of (read bytes) else Err NotJson

-- a text that is not empty
abbrev pub not_empty : List ℕ → Option (List ℕ)
not_empty [] = None
not_empty (b ∷ bs) = Some (b ∷ bs)

-- what a field says: a string that is not empty
abbrev pub field_of : Data → List ℕ → Option (List ℕ)
field_of d field = option_and_then not_empty (option_and_then as_str (get field d))

-- the first, if there is one, or else the second
abbrev pub or_else : Option (List ℕ) → Option (List ℕ) → Option (List ℕ)
or_else None second = second
or_else (Some first) second = Some first

-- what the first of these fields says that says something
abbrev pub entry_of : List (List ℕ) → Data → Option (List ℕ)
entry_of [] d = None
entry_of (field ∷ fields) d = or_else (field_of d field) (entry_of fields d)

-- what a package file that was read says
abbrev pub said_by : Package → Data
said_by p = view p.value
