-- How far a replay has come in its script.
use Rattle.std.specs.Prelude.{◌≡◌, ◌≢◌, ◌≤◌, ◌++◌, ℕ, Bool, List, [], ◌∷◌, Option, Some, Result, Ok, Err}
use Rattle.mt_io.specs.Causes.{Rose}
use Rattle.mt_io.specs.Files.{Files}
use Rattle.mt_io.specs.Seen.{Seen, Stopped, Tells, Wrote}
use Rattle.mt_io.specs.Told.{Reading}
use Rattle.mt_files.specs.Asks.{Ask}
use Rattle.mt_files.specs.Crawl.{crawled}
use Rattle.mt_files.specs.Snapshots.{Snapshot}
use Rattle.mt_script.specs.Reads.{Progress}
use Rattle.mt_script.specs.Scripts.{Script, script_from, script_of}
use Rattle.mt_script.specs.declared.command.Command.{Command}
use Rattle.mt_script.specs.declared.command.Command.TheVariants.{Build, Rescan}
use Rattle.mt_script.specs.declared.fault.ScriptFault.{ScriptFault}
use Rattle.mt_report.specs.Outcomes.{IsPlanned, script_outcome, status_of}
use Rattle.mt_report.specs.declared.outcome.Outcome.{Outcome}
use Rattle.mt_report.specs.declared.outcome.Outcome.TheVariants.{ReadFailed, WriteFailed}
use Rattle.metro_program.specs.States.{State}
use Rattle.metro_program.specs.Builds.{Answer, Step}
use Rattle.metro_program.specs.Lent.{Lent}
use Rattle.metro_program.specs.Plans.{Plan}
use Rattle.metro_program.specs.Replay.{History, files_plan, lines_after, lines_of, moved_by, unbuilt}

-- ---- what a run owes of its script

-- from this reading, these bytes were read
pub record Gave (before : Reading) (told : Option Reading) (read : List ℕ) : Type 0 where
  pub left : List ℕ
  pub parts : before.left ≡ read ++ left
  pub now : told ≡ Some (record { given = before.given ++ read; left = left })

-- a failed read ended the run here: no command is left of those read whole; or the folder failed, at a rescan or before the first build
abbrev pub IsStopped : Type 0 → List Command → List Command → Type 0
IsStopped failed done [] = Unit {0}
IsStopped failed done (Rescan ∷ rest) = failed
IsStopped failed done (Build ∷ rest) = (done ≡ []) × failed
IsStopped failed done (command ∷ rest) = ⊥

-- after a failed read, the lines of all commands that were read whole are written, up to a rescan that failed
pub record HasLines (full : Bool) (tree : Files) (ask : Ask) (files : Snapshot) (reading : Reading) (before after : Lent) : Type 0 where
  pub read : List ℕ
  pub gave : Gave reading after.script.told read
  pub done : List Command
  pub rest : List Command
  pub parts : Build ∷ (script_of read).commands ≡ done ++ rest
  pub now : History
  pub led : moved_by tree (unbuilt ask files) done ≡ Ok now
  pub wrote : Wrote before.out after.out (lines_of full now.answers)
  pub stopped : IsStopped (Rose before.folder.faults after.folder.faults) done rest

-- a script ends so
pub record IsScriptFault (bytes : List ℕ) (outcome : Outcome) : Type 0 where
  pub fault : ScriptFault
  pub ending : (script_of bytes).ending ≡ Some fault
  pub is : outcome ≡ script_outcome fault

-- what a run owes of a script that tells its reading: a failed read loses no line
pub record ReadsScript (full : Bool) (ask : Ask) (before after : Lent) (outcome : Outcome) : Type 0 where
  pub lines : outcome ≡ ReadFailed → (tree : Files) (files : Snapshot) (reading : Reading) → Tells before.folder tree → crawled tree ≡ Ok files → Tells before.script reading → HasLines full tree ask files reading before after

-- status 7 is the script's own fault, whatever the folder tells and the builds find
pub record HasReason (reading : Reading) (outcome : Outcome) : Type 0 where
  pub cut : status_of outcome ≡ 7 → IsScriptFault reading.left outcome

-- ---- on the way

-- where a replay began, and whether it is full
pub record Start : Type 0 where
  pub full : Bool
  pub ask : Ask
  pub files : Snapshot
  pub lent : Lent
  pub reading : Reading

-- over this tree the commands that were done lead to this state, and the lines of what they answer are written
pub record Leads (tree : Files) (start : Start) (done : List Command) (state : State) (out : Seen (List ℕ)) : Type 0 where
  pub answers : List Answer
  pub led : moved_by tree (unbuilt start.ask start.files) done ≡ Ok (record { state = state; answers = answers })
  pub wrote : Wrote start.lent.out out (lines_of start.full answers)

-- these commands, and then those of a script
abbrev pub with_commands : List Command → Script → Script
with_commands done script = record { commands = done ++ script.commands; ending = script.ending }

-- these commands of the script of a reading were read; the reader holds what was read of the next
pub record HasRead (reading : Reading) (reader : Progress) (script : Option Reading) : Type 0 where
  pub read : List ℕ
  pub gave : Gave reading script read
  pub done : List Command
  pub left : (more : List ℕ) → script_of (read ++ more) ≡ with_commands done (script_from reader.count (reader.held ++ more))

-- the first build and the commands that were read were done
pub record HasDone (start : Start) (state : State) (reader : Progress) (script : Option Reading) (out : Seen (List ℕ)) : Type 0 where
  pub has : HasRead start.reading reader script
  pub leads : (tree : Files) → Tells start.lent.folder tree → Leads tree start (Build ∷ has.done) state out

-- a replay of this ask and these files, full or not, begins with what it was lent
pub record IsStart (start : Start) (full : Bool) (ask : Ask) (files : Snapshot) (lent : Lent) : Type 0 where
  pub whole : start.full ≡ full
  pub asks : start.ask ≡ ask
  pub takes : start.files ≡ files
  pub folder : lent.folder.told ≡ start.lent.folder.told
  pub faults : start.lent.folder.faults ≤ lent.folder.faults
  pub script : Tells lent.script start.reading
  pub out : start.lent.out ≡ lent.out

-- the first build was made, and nothing of the script was read
pub record IsBegun (start : Start) (full : Bool) (state : State) (lent : Lent) : Type 0 where
  pub whole : start.full ≡ full
  pub folder : lent.folder.told ≡ start.lent.folder.told
  pub faults : start.lent.folder.faults ≤ lent.folder.faults
  pub script : Tells lent.script start.reading
  pub leads : (tree : Files) → Tells start.lent.folder tree → Leads tree start (Build ∷ []) state lent.out

-- a command led where it leads, and the lines of what it answers were written
abbrev pub Went : Bool → Result Step Outcome → State → State → Seen (List ℕ) → Seen (List ℕ) → Type 0
Went full (Ok step) s now before after = (now ≡ step.state) × Wrote before after (lines_after full s.latest step.answers)
Went full (Err outcome) s now before after = ⊥

-- a command ended the run: as it was to end, or by a fault, with a prefix of its lines
abbrev pub Halted : Bool → Result Step Outcome → State → Outcome → Seen (List ℕ) → Seen (List ℕ) → Type 0
Halted full (Ok step) s outcome before after = (IsPlanned outcome → ⊥) × Stopped before after (lines_after full s.latest step.answers)
Halted full (Err wanted) s outcome before after = (IsPlanned outcome → outcome ≡ wanted) × Wrote before after []

-- an outcome that neither the words nor the text of a script gives
abbrev pub IsOwn : Outcome → Type 0
IsOwn outcome = (status_of outcome ≢ 2) × (status_of outcome ≢ 7)

-- ---- at the end

-- a run keeps to a plan: an outcome that is no fault is the plan's, with the plan's bytes; else a prefix of them is written
pub record Keeps (plan : Plan) (outcome : Outcome) (before after : Seen (List ℕ)) : Type 0 where
  pub planned : IsPlanned outcome → outcome ≡ plan.outcome
  pub written : IsPlanned outcome → Wrote before after plan.bytes
  pub begun : Stopped before after plan.bytes

-- a run that writes and reads nothing: it fails at no read, a failed write has its cause, and what the output tells beside stays
pub record OnlyWrites (outcome : Outcome) (before after : Seen (List ℕ)) : Type 0 where
  pub read : outcome ≢ ReadFailed
  pub write : outcome ≡ WriteFailed → Rose before.faults after.faults
  pub apart : after.beside ≡ before.beside
  pub own : IsOwn outcome

-- a run that has read a folder: it keeps to the plan of the files, and only writes
pub record Fulfils (plan : Plan) (outcome : Outcome) (before after : Seen (List ℕ)) : Type 0 where
  pub keeps : Keeps plan outcome before after
  pub only : OnlyWrites outcome before after

-- what a replay owes from its start on
pub record Ends (start : Start) (outcome : Outcome) (after : Lent) : Type 0 where
  pub keeps : (tree : Files) → Tells start.lent.folder tree → Keeps (files_plan start.full tree start.ask start.reading.left (Ok start.files)) outcome start.lent.out after.out
  pub lines : outcome ≡ ReadFailed → (tree : Files) → Tells start.lent.folder tree → HasLines start.full tree start.ask start.files start.reading start.lent after
