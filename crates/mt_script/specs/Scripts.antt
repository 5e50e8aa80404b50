-- A whole script: its commands, and how they end.
use Rattle.std.specs.Prelude.{ℕ, zero, suc, ◌+◌, List, [], ◌∷◌, length, Option, Some, None}
use Rattle.mt_script.specs.Steps.{Found, Stopped, next_of}
use Rattle.mt_script.specs.declared.command.Command.{Command}
use Rattle.mt_script.specs.declared.command.Command.TheVariants.{End}
use Rattle.mt_script.specs.declared.fault.ScriptFault.{ScriptFault}
use Rattle.mt_script.specs.declared.fault.ScriptFault.TheVariants.{Cut}

-- the commands before the end, and the fault that ends them; none where `end` does
pub record Script : Type 0 where
  pub commands : List Command
  pub ending : Option ScriptFault

-- a command before a script
abbrev pub with_command : Command → Script → Script
with_command command script = record { commands = command ∷ script.commands; ending = script.ending }

-- a script from this command on: `end` ends it, another command goes before the rest
abbrev pub script_with : Command → Script → Script
script_with End script = record { commands = []; ending = None }
script_with command script = with_command command script

-- the script of the bytes, in at most so many steps
abbrev pub script_within : ℕ → ℕ → List ℕ → Script
script_within zero n bytes = record { commands = []; ending = Some (Cut (n + 1)) }
script_within (suc fuel) n bytes = elim (next_of n bytes) [
  | Found command rest ↦ script_with command (script_within fuel (n + 1) rest)
  | Stopped fault ↦ record { commands = []; ending = Some fault }
]

-- the script of these bytes, once n commands were read: each command takes a byte at least
unfoldable pub script_from : ℕ → List ℕ → Script
script_from n bytes = script_within (length bytes) n bytes

-- the script of these bytes
abbrev pub script_of : List ℕ → Script
script_of bytes = script_from 0 bytes
