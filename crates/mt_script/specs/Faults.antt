-- Why a script gave no command, and how a fault stays.
use Rattle.std.specs.Prelude.{◌≡◌, ◌⊎◌, Result, Ok, Err}
use Rattle.mt_io.specs.declared.trouble.Trouble.{Trouble}
use Rattle.mt_io.specs.declared.trouble.Trouble.TheVariants as trouble
use Rattle.mt_script.specs.declared.command.Command.{Command}
use Rattle.mt_script.specs.declared.fault.ScriptFault.{ScriptFault}
use Rattle.mt_script.specs.declared.fault.ScriptFault.TheVariants.{FileTooLarge, Failed, NoMemory}

-- the fault that a trouble of the source is
abbrev pub trouble_fault : Trouble → ScriptFault
trouble_fault trouble.Failed = Failed
trouble_fault trouble.NoMemory = NoMemory

-- the fault that has a path
abbrev pub HasPath : ScriptFault → Type 0
HasPath (FileTooLarge path size) = Unit {0}
HasPath fault = ⊥

-- the same fault once more; only where it has a path, memory can run out for that
abbrev pub Copies : ScriptFault → ScriptFault → Type 0
Copies (FileTooLarge path size) copy = (copy ≡ FileTooLarge path size) ⊎ (copy ≡ NoMemory)
Copies fault copy = copy ≡ fault

-- the answer is such a copy
abbrev pub Repeats : ScriptFault → Result Command ScriptFault → Type 0
Repeats fault (Ok command) = ⊥
Repeats fault (Err copy) = Copies fault copy
