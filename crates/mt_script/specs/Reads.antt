-- What a reader of commands holds, and what its calls read from their source.
use Rattle.std.specs.Prelude.{ℕ, ◌≡◌, false, ◌<◌, ◌≤◌, List, ◌++◌, length, take, drop, Option, Some, []}
use Rattle.std.specs.Option.{IfSome}
use Rattle.mt_io.specs.Causes.{Rose}
use Rattle.mt_io.specs.Seen.{Seen, Tells}
use Rattle.mt_io.specs.Told.{Reading, read_on}
use Rattle.mt_path.specs.Names.{is_root}
use Rattle.mt_script.specs.Commands.{IsCommand, IsPathText}
use Rattle.mt_script.specs.Steps.{Step, Found, Stopped, limited_step, next_of}
use Rattle.mt_script.specs.declared.command.Command.{Command}
use Rattle.mt_script.specs.declared.command_head.CommandHead.{CommandHead}
use Rattle.mt_script.specs.declared.command_head.CommandHead.TheVariants as head
use Rattle.mt_script.specs.declared.fault.ScriptFault.{ScriptFault}
use Rattle.mt_script.specs.declared.fault.ScriptFault.TheVariants.{Cut, Failed, NoMemory}

-- a reader of commands: the bytes that were read and belong to no command given, the commands given, and the fault
pub record Progress : Type 0 where
  pub held : List ℕ
  pub count : ℕ
  pub fault : Option ScriptFault

-- ---- what calls read

-- so many bytes were read
pub record ReadOn (before : Reading) (told : Option Reading) : Type 0 where
  pub count : ℕ
  pub now : told ≡ Some (read_on count before)

-- what a call that reads did to its source: its reading went on, where it tells one, and a failure has its fault
pub record Advances (before after : Seen Reading) (failed : Type 0) : Type 0 where
  pub on : (r : Reading) → Tells before r → ReadOn r after.told
  pub cause : failed → Rose before.faults after.faults
  pub later : before.faults ≤ after.faults
  pub apart : after.beside ≡ before.beside

-- so many bytes were read, and follow what was held
pub record Holds (before : Reading) (told : Option Reading) (old new : List ℕ) : Type 0 where
  pub count : ℕ
  pub now : told ≡ Some (read_on count before)
  pub held : new ≡ old ++ take count before.left

-- so many bytes were taken, of those held and of those read: the first of all that was left
pub record Takes (before : Reading) (told : Option Reading) (old new : List ℕ) (size : ℕ) (taken : List ℕ) : Type 0 where
  pub count : ℕ
  pub now : told ≡ Some (read_on count before)
  pub enough : size ≤ length (old ++ before.left)
  pub first : taken ≡ take size (old ++ before.left)
  pub rest : new ++ drop count before.left ≡ drop size (old ++ before.left)

-- what was held and read has fewer bytes than these
pub record Lacks (before : Reading) (told : Option Reading) (old : List ℕ) (size : ℕ) : Type 0 where
  pub count : ℕ
  pub now : told ≡ Some (read_on count before)
  pub short : length (old ++ take count before.left) < size

-- nothing is left
abbrev pub IsSpent : Option Reading → Type 0
IsSpent told = IfSome told (λ r. r.left ≡ [])

-- a window of bytes, of which those from `start` to `end` are held
pub record IsWindow (window : List ℕ) (start end : ℕ) : Type 0 where
  pub size : length window ≡ 8192
  pub order : start ≤ end
  pub within : end ≤ 8192

-- ---- what they find

-- the next command is found: it begins what was held and left, and what is held and left now follows it
pub record Finds (next : List ℕ → Step) (before : Reading) (told : Option Reading) (old new : List ℕ) (command : Command) : Type 0 where
  pub count : ℕ
  pub now : told ≡ Some (read_on count before)
  pub found : next (old ++ before.left) ≡ Found command (new ++ drop count before.left)

-- a read failed: what was held and read until then begins with no whole command
pub record Interrupted (next : List ℕ → Step) (number : ℕ) (before : Reading) (told : Option Reading) (old : List ℕ) : Type 0 where
  pub count : ℕ
  pub now : told ≡ Some (read_on count before)
  pub cut : next (old ++ take count before.left) ≡ Stopped (Cut number)

-- a fault that the bytes have, or the failure of a call
abbrev pub IsOf : ScriptFault → Step → Type 0
IsOf Failed step = Unit {0}
IsOf NoMemory step = Unit {0}
IsOf fault step = step ≡ Stopped fault

-- the path that the head of a command names is one of a command
abbrev pub IsHead : CommandHead → Type 0
IsHead (head.Whole command) = IsCommand command
IsHead (head.Put path size) = IsPathText path × (is_root path ≡ false)

-- the line at the start was read and is this head, whatever bytes follow
pub record FindsHead (n : ℕ) (before : Reading) (told : Option Reading) (old new : List ℕ) (command_head : CommandHead) : Type 0 where
  pub count : ℕ
  pub now : told ≡ Some (read_on count before)
  pub step : (more : List ℕ) → next_of n (old ++ take count before.left ++ more) ≡ limited_step n command_head (new ++ more)
