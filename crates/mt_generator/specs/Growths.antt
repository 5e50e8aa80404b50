-- A folder of modules and a script that edits them, both made from a number.
use Rattle.std.specs.Prelude.{ℕ, zero, suc, ◌≡◌, ◌≤◌, ◌==◌, true, List, [], ◌∷◌, ◌++◌, length, Some}
use Rattle.std.specs.FinMap.{empty, get, insert}
use Rattle.mt_io.specs.Files.{Files}
use Rattle.mt_tokens.specs.Sources.{max_source_bytes}
use Rattle.mt_script.specs.declared.command.Command.{Command}
use Rattle.mt_script.specs.declared.command.Command.TheVariants.{Put, Build, End}
use Rattle.mt_generator.specs.Draws.{drawn}
use Rattle.mt_generator.specs.Modules.{module_drawn, module_path}

-- each file is no longer than a source may be
pub record AreSources (files : Files) : Type 0 where
  pub small : (path text : List ℕ) → get files path ≡ Some text → length text ≤ max_source_bytes

-- the files before and that of the module with a number, and the next state
abbrev pub with_module : ℕ → ℕ → Files × ℕ → Files × ℕ
with_module modules number before =
    let text = module_drawn before.1 modules number true in
    (insert before.0 (module_path number) text.0, text.1)

-- the files of the first n modules, and the next state
abbrev pub first_files : ℕ → ℕ → ℕ → Files × ℕ
first_files state modules zero = (empty, state)
first_files state modules (suc n) = with_module modules n (first_files state modules n)

-- the files of all modules, and the next state
abbrev pub files_grown : ℕ → ℕ → Files × ℕ
files_grown state modules = first_files state modules modules

-- an edit, and the next state: a drawn module is put with a drawn text, chained or not, and built
abbrev pub edit_drawn : ℕ → ℕ → List Command × ℕ
edit_drawn state modules =
    let number = drawn state modules in
    let chained = drawn number.1 2 in
    let text = module_drawn chained.1 modules number.0 (chained.0 == 1) in
    (Put (module_path number.0) text.0 ∷ Build ∷ [], text.1)

-- the commands before and those of an edit, and the next state
abbrev pub with_edit : ℕ → List Command × ℕ → List Command × ℕ
with_edit modules before = let edit = edit_drawn before.1 modules in (before.0 ++ edit.0, edit.1)

-- the commands of n edits, and the next state
abbrev pub edits_grown : ℕ → ℕ → ℕ → List Command × ℕ
edits_grown state modules zero = ([], state)
edits_grown state modules (suc n) = with_edit modules (edits_grown state modules n)

-- a folder, and a script
pub record Grown : Type 0 where
  pub files : Files
  pub commands : List Command

-- the folder that is made from a seed, and the script: its edits are drawn after the folder, and `end` comes last
abbrev pub grown : ℕ → ℕ → ℕ → Grown
grown seed modules edits =
    let folder = files_grown seed modules in
    record { files = folder.0; commands = (edits_grown folder.1 modules edits).0 ++ End ∷ [] }
