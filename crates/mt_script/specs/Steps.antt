-- The next command of a script, at the start of its bytes.
use Rattle.std.specs.Prelude.{ℕ, ◌+◌, ◌==◌, List, length, take, drop, nat_lt, nat_le, slice_index, if◌then◌else◌}
use Rattle.std.specs.Option.{option_map_or}
use Rattle.std.specs.List.{position_or_len}
use Rattle.mt_tokens.specs.Sources.{max_source_bytes}
use Rattle.mt_script.specs.Commands.{line_feed}
use Rattle.mt_script.specs.Heads.{head_of}
use Rattle.mt_script.specs.declared.command.Command.{Command}
use Rattle.mt_script.specs.declared.command.Command.TheVariants.{Put}
use Rattle.mt_script.specs.declared.fault.ScriptFault.{ScriptFault}
use Rattle.mt_script.specs.declared.fault.ScriptFault.TheVariants.{Bad, Cut, FileTooLarge, TooManyCommands}
use Rattle.mt_script.specs.declared.line.LineEnd.{LineEnd}
use Rattle.mt_script.specs.declared.line.LineEnd.TheVariants.{Whole, TooLong, Unfinished}
use Rattle.mt_script.specs.declared.command_head.CommandHead.{CommandHead}
use Rattle.mt_script.specs.declared.command_head.CommandHead.TheVariants as head

-- the most bytes of a line
abbrev pub max_line_bytes : ℕ
max_line_bytes = 1100

-- the most commands of a script
abbrev pub max_commands : ℕ
max_commands = 1048576

-- a command and the bytes after it, or why there is none
pub data Step : Type 0 where
  Found : Command → List ℕ → Step
  Stopped : ScriptFault → Step

-- how many bytes there are before the first line feed, or all where there is none
abbrev pub line_len : List ℕ → ℕ
line_len bytes = position_or_len (λ b. b == line_feed) bytes

-- how the line at the start ends: after so many bytes, too far off, or not yet
abbrev pub line_end : List ℕ → LineEnd
line_end bytes = if nat_lt max_line_bytes (line_len bytes) then TooLong
    else (if line_len bytes == length bytes then Unfinished else Whole (line_len bytes))

-- a `put` of so many bytes, once n commands were read: they are there, and a line feed follows
abbrev pub put_step : ℕ → List ℕ → ℕ → List ℕ → Step
put_step n path size bytes = if nat_le (length bytes) size then Stopped (Cut (n + 1))
    else (if slice_index bytes size == line_feed then Found (Put path (take size bytes)) (drop (size + 1) bytes) else Stopped (Bad (n + 1)))

-- what the head of a command makes of the bytes after its line
abbrev pub head_step : ℕ → CommandHead → List ℕ → Step
head_step n (head.Whole command) bytes = Found command bytes
head_step n (head.Put path size) bytes = if nat_lt max_source_bytes size then Stopped (FileTooLarge path size) else put_step n path size bytes

-- the same, where n commands leave room for one more
abbrev pub limited_step : ℕ → CommandHead → List ℕ → Step
limited_step n command_head bytes = if nat_lt n max_commands then head_step n command_head bytes else Stopped TooManyCommands

-- what a whole line makes of the bytes after it
abbrev pub line_step : ℕ → List ℕ → List ℕ → Step
line_step n line bytes = option_map_or (λ command_head. limited_step n command_head bytes) (head_of line) (Stopped (Bad (n + 1)))

-- the same, by how the line ends
abbrev pub ended_step : ℕ → LineEnd → List ℕ → Step
ended_step n TooLong bytes = Stopped (Bad (n + 1))
ended_step n Unfinished bytes = Stopped (Cut (n + 1))
ended_step n (Whole len) bytes = line_step n (take len bytes) (drop (len + 1) bytes)

-- the next command of these bytes, once n commands were read, or why there is none
unfoldable pub next_of : ℕ → List ℕ → Step
next_of n bytes = ended_step n (line_end bytes) bytes
