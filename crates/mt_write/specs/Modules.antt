-- The text of a module in a bundle.
use Rattle.std.specs.Prelude.{ℕ, Bool, List, [], ◌∷◌, ◌++◌, drop, if◌then◌else◌, codes, ◌==◌, ◌||◌}
use Rattle.std.specs.List.{flat_map, join_by}
use Rattle.std.specs.Fmt.{decimal}
use Rattle.mt_write.specs.declared.slot.Slot.{Slot}
use Rattle.mt_write.specs.declared.slot.Slot.TheVariants.{Module, Empty}

-- a slot in the text of a module: the number of the module that a dependency leads to, or `null`
abbrev pub slot_text : Slot → List ℕ
slot_text (Module number) = decimal number
slot_text Empty = codes "null"

-- the line that begins each module
unfoldable pub module_head : List ℕ
module_head = codes "__d(function (global, require, importDefault, importAll, module, exports, dependencyMap) {\n"

-- a byte with `\` before it where it is `\` or `"`
abbrev pub escaped_byte : ℕ → List ℕ
escaped_byte b = if b == 92 || b == 34 then 92 ∷ b ∷ [] else b ∷ []

-- `\` before each `\` and `"`
abbrev pub escaped : List ℕ → List ℕ
escaped text = flat_map escaped_byte text

-- a path between `"`, without its first `/` and after a `,`
abbrev pub quoted_path : List ℕ → List ℕ
quoted_path path = codes ",\"" ++ escaped (drop 1 path) ++ codes "\""

-- the path of a module, which only a bundle for development has
abbrev pub path_text : Bool → List ℕ → List ℕ
path_text dev path = if dev then quoted_path path else []

-- a module's number, its slots joined by `,`, and its path
abbrev pub module_tail : ℕ → List ℕ → List Slot → Bool → List ℕ
module_tail number path slots dev = codes "\n}," ++ decimal number ++ codes ",[" ++ join_by slot_text (codes ",") slots ++ codes "]" ++ path_text dev path ++ codes ");\n"

-- the text of a module
abbrev pub module_of : ℕ → List ℕ → List ℕ → List Slot → Bool → List ℕ
module_of number path body slots dev = module_head ++ body ++ module_tail number path slots dev

-- the line that starts a module
abbrev pub start_of : ℕ → List ℕ
start_of number = codes "__r(" ++ decimal number ++ codes ");\n"
