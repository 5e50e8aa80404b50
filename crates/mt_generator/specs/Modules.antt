-- The paths of modules, and their texts, which are drawn.
use Rattle.std.specs.Prelude.{ℕ, zero, suc, ◌+◌, Bool, ◌&&◌, nat_lt, if◌then◌else◌, List, [], ◌++◌, codes}
use Rattle.std.specs.Fmt.{decimal}
use Rattle.mt_generator.specs.Draws.{drawn}

-- the path of the module with a number
abbrev pub module_path : ℕ → List ℕ
module_path number = codes "/m" ++ (decimal number ++ codes ".js")

-- the line that requires the module with a number
abbrev pub require_line : ℕ → List ℕ
require_line number = codes "require(\"./m" ++ (decimal number ++ codes ".js\");\n")

-- the line that gives a value
abbrev pub value_line : ℕ → List ℕ
value_line value = codes "exports.v = " ++ (decimal value ++ codes ";\n")

-- the first line of a chained module: it requires the next module, if there is one
abbrev pub chain_line : ℕ → ℕ → Bool → List ℕ
chain_line modules number chained = if chained && nat_lt (number + 1) modules then require_line (number + 1) else []

-- the lines before, and one more that requires a drawn module
abbrev pub with_line : ℕ → List ℕ × ℕ → List ℕ × ℕ
with_line modules before = let target = drawn before.1 modules in (before.0 ++ require_line target.0, target.1)

-- n lines that require drawn modules, and the next state
abbrev pub lines_drawn : ℕ → ℕ → ℕ → List ℕ × ℕ
lines_drawn state modules zero = ([], state)
lines_drawn state modules (suc n) = with_line modules (lines_drawn state modules n)

-- fewer than three such lines, and the next state: how many is drawn first
abbrev pub names_drawn : ℕ → ℕ → List ℕ × ℕ
names_drawn state modules = let count = drawn state 3 in lines_drawn count.1 modules count.0

-- the text of the module with a number, and the next state: the next module where it is chained, drawn modules, a drawn value
unfoldable pub module_drawn : ℕ → ℕ → ℕ → Bool → List ℕ × ℕ
module_drawn state modules number chained =
    let names = names_drawn state modules in
    let value = drawn names.1 1000000 in
    (chain_line modules number chained ++ (names.0 ++ value_line value.0), value.1)
