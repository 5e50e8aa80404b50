-- How a replay reads on in its script, whatever its commands do.
use Rattle.std.proofs.Common.{◌≡◌, ◌+◌, ◌++◌, ◌∙◌, [], ◌∷◌, take, Option, Some, Result, Ok, Err, refl, ap, sym, subst, append_assoc, arith}
use Rattle.std.specs.Prelude.{OnOk, IfErr}
use Rattle.mt_io.specs.Told.{Reading}
use Rattle.mt_script.specs.Commands.{GoesOn}
use Rattle.mt_script.specs.Reads.{Finds, IsOf, Progress}
use Rattle.mt_script.specs.Scripts.{Script, script_from, script_of}
use Rattle.mt_script.specs.Steps.{Stopped, next_of}
use Rattle.mt_script.specs.declared.command.Command.{Command}
use Rattle.mt_script.specs.declared.fault.ScriptFault.{ScriptFault}
use Rattle.mt_script.specs.declared.fault.ScriptFault.TheVariants.{Bad, Cut, FileTooLarge, TooManyCommands, Failed, NoMemory}
use Rattle.mt_script.proofs.Scripts.{script_found, script_stopped}
use Rattle.mt_io.specs.declared.trouble.Trouble.{Trouble}
use Rattle.mt_io.specs.declared.trouble.Trouble.TheVariants as trouble
use Rattle.mt_report.specs.Outcomes.{script_outcome, status_of, trouble_outcome}
use Rattle.mt_report.specs.declared.outcome.Outcome.{Outcome}
use Rattle.mt_report.specs.declared.outcome.Outcome.TheVariants as outcome
use Rattle.metro_program.specs.Progress.{Gave, HasRead, HasReason, IsOwn, IsScriptFault, with_commands}
use Rattle.metro_program.proofs.Readings.{found_read, gave_all, gave_none, gave_on}

-- at first nothing was read
unfoldable pub first_read : (reading : Reading) (reader : Progress) (script : Option Reading) → script ≡ Some reading → reader.held ≡ [] → reader.count ≡ 0 → HasRead reading reader script
first_read reading reader script told held count = record {
  read = [];
  gave = subst (λ t. Gave reading t []) (sym told) (gave_none reading);
  done = [];
  left = λ more. ap (λ n. script_from n more) (sym count) ∙ ap (λ xs. script_from reader.count (xs ++ more)) (sym held);
}

module _ (reading : Reading) (reader : Progress) (script : Option Reading) (r : HasRead reading reader script) where
  abbrev pub now : Reading
  now = record { given = reading.given ++ r.read; left = r.gave.left }

  pub gave_now : Gave reading (Some now) r.read
  gave_now = subst (λ told. Gave reading told r.read) r.gave.now r.gave

  all_left : reading.left ≡ r.read ++ now.left
  all_left = gave_all reading now r.read gave_now

  -- the script: the commands that were read, and that of what is held and left
  pub whole_script : script_of reading.left ≡ with_commands r.done (script_from reader.count (reader.held ++ now.left))
  whole_script = ap script_of all_left ∙ r.left now.left

  -- ---- no command follows

  stop_fault : (fault : ScriptFault) → next_of reader.count (reader.held ++ now.left) ≡ Stopped fault → IsScriptFault reading.left (script_outcome fault)
  stop_fault fault stopped = record { fault = fault; ending = ap (λ (sc : Script). sc.ending) (whole_script ∙ ap (with_commands r.done) (script_stopped reader.count (reader.held ++ now.left) fault stopped)); is = refl }

  reason_of : (fault : ScriptFault) → IsOf fault (next_of reader.count (reader.held ++ now.left)) → HasReason reading (script_outcome fault)
  reason_of (Bad command) of = record { cut = λ seven. stop_fault (Bad command) of }
  reason_of (Cut command) of = record { cut = λ seven. stop_fault (Cut command) of }
  reason_of (FileTooLarge path size) of = record { cut = λ (seven : 6 ≡ 7). absurd (omega (arith, seven)) }
  reason_of TooManyCommands of = record { cut = λ (seven : 6 ≡ 7). absurd (omega (arith, seven)) }
  reason_of Failed of = record { cut = λ (seven : 3 ≡ 7). absurd (omega (arith, seven)) }
  reason_of NoMemory of = record { cut = λ (seven : 5 ≡ 7). absurd (omega (arith, seven)) }

  pub stopped_reason : (fault : ScriptFault) (found : Outcome) → found ≡ script_outcome fault → ((at : Reading) → script ≡ Some at → IsOf fault (next_of reader.count (reader.held ++ at.left))) → HasReason reading found
  stopped_reason fault found is of = subst (HasReason reading) (sym is) (reason_of fault (of now r.gave.now))

  -- ---- a command follows

  unfoldable pub goes_read : (command : Command) (reader' : Progress) (told : Option Reading) → GoesOn command → Finds (next_of reader.count) now told reader.held reader'.held command → reader'.count ≡ reader.count + 1 → HasRead reading reader' told
  goes_read command reader' told on f count = record {
    read = r.read ++ take f.count now.left;
    gave = gave_on reading now told r.read f.count gave_now f.now;
    done = r.done ++ command ∷ [];
    left = λ more.
        ap script_of (append_assoc r.read (take f.count now.left) more)
        ∙ r.left (take f.count now.left ++ more)
        ∙ ap (with_commands r.done) (script_found reader.count (reader.held ++ (take f.count now.left ++ more)) command (reader'.held ++ more) on (found_read reader.count f.count reader.held reader'.held now.left command f.found more))
        ∙ ap (λ cs. record { commands = cs; ending = (script_from (reader.count + 1) (reader'.held ++ more)).ending }) (sym (append_assoc r.done (command ∷ []) (script_from (reader.count + 1) (reader'.held ++ more)).commands))
        ∙ ap (λ n. with_commands (r.done ++ command ∷ []) (script_from n (reader'.held ++ more))) (sym count);
  }

  pub turn_read :
      (answer : Result (Unit {0}) Outcome) (command : Command) (reader' : Progress) (told : Option Reading) → ((at : Reading) → script ≡ Some at → Finds (next_of reader.count) at told reader.held reader'.held command) → reader'.count ≡ reader.count + 1
      → OnOk answer (GoesOn command) → OnOk answer (HasRead reading reader' told)
  turn_read (Ok done) command reader' told finds count goes = goes_read command reader' told goes (finds now r.gave.now) count
  turn_read (Err found) command reader' told finds count goes = tt

-- ---- outcomes that the script does not give

-- a command's own
pub own_reason : (reading : Reading) (answer : Result (Unit {0}) Outcome) → IfErr answer IsOwn → IfErr answer (HasReason reading)
own_reason reading (Ok done) own = tt
own_reason reading (Err found) own = record { cut = λ seven. absurd (own.1 seven) }

pub memory_reason : (reading : Reading) → HasReason reading outcome.NoMemory
memory_reason reading = record { cut = λ (seven : 5 ≡ 7). absurd (omega (arith, seven)) }

pub trouble_own : (trouble : Trouble) → status_of (trouble_outcome trouble) ≡ 7 → ⊥
trouble_own trouble.Failed h = let z : 4 ≡ 7 = h in omega (arith, z)
trouble_own trouble.NoMemory h = let z : 5 ≡ 7 = h in omega (arith, z)

-- a trouble of the first build
pub trouble_reason : (reading : Reading) (trouble : Trouble) (found : Outcome) → found ≡ trouble_outcome trouble → HasReason reading found
trouble_reason reading trouble found is = record { cut = λ seven. absurd (trouble_own trouble (ap status_of (sym is) ∙ seven)) }
