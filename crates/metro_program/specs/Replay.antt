-- What `replay` writes, and how it ends.
use Rattle.std.specs.Prelude.{ℕ, Bool, List, [], ◌∷◌, ◌++◌, if◌then◌else◌, Option, Some, None, Result, Ok, Err}
use Rattle.std.specs.List.{fold}
use Rattle.std.specs.Option.{option_map_or}
use Rattle.mt_io.specs.Files.{Files}
use Rattle.mt_files.specs.Asks.{Ask}
use Rattle.mt_files.specs.Crawl.{crawled}
use Rattle.mt_files.specs.Snapshots.{Snapshot}
use Rattle.mt_files.specs.declared.fault.CrawlFault.{CrawlFault}
use Rattle.mt_revision.specs.Logs.{Accepted, Denied}
use Rattle.mt_revision.specs.Revisions.{bundle_of}
use Rattle.mt_revision.specs.declared.revision.Revision.{Revision}
use Rattle.mt_script.specs.Scripts.{Script, script_of, with_command}
use Rattle.mt_script.specs.declared.command.Command.{Command}
use Rattle.mt_script.specs.declared.command.Command.TheVariants.{Build}
use Rattle.mt_script.specs.declared.fault.ScriptFault.{ScriptFault}
use Rattle.mt_report.specs.Outcomes.{crawl_outcome, script_outcome}
use Rattle.mt_report.specs.Reports.{refused_line, revision_line, same_line}
use Rattle.mt_report.specs.declared.outcome.Outcome.{Outcome}
use Rattle.metro_program.specs.States.{State, opened}
use Rattle.metro_program.specs.Builds.{Answer, Built, Same, Step}
use Rattle.metro_program.specs.Commands.{moved, outcome_of}
use Rattle.metro_program.specs.Plans.{Plan, without_bytes}

-- ---- the lines of answers

-- the latest revision after an answer, where this was the latest before
abbrev pub latest_after : Option Revision → Answer → Option Revision
latest_after before (Built (Accepted revision)) = Some revision
latest_after before (Built (Denied count fault)) = before
latest_after before (Same number) = before

-- what follows the line of a revision: its bundle, where the replay is full
abbrev pub whole_after : Bool → Revision → List ℕ
whole_after full revision = if full then bundle_of revision else []

-- the line of an answer, where this was the latest revision before; in a full replay the bundle of a revision follows its line
abbrev pub line_after : Bool → Option Revision → Answer → List ℕ
line_after full before (Built (Accepted revision)) = revision_line before revision ++ whole_after full revision
line_after full before (Built (Denied count fault)) = refused_line count fault
line_after full before (Same number) = same_line number

-- the lines of answers one after another
abbrev pub lines_after : Bool → Option Revision → List Answer → List ℕ
lines_after full before [] = []
lines_after full before (answer ∷ answers) = line_after full before answer ++ lines_after full (latest_after before answer) answers

-- the lines of all answers of a replay
abbrev pub lines_of : Bool → List Answer → List ℕ
lines_of full answers = lines_after full None answers

-- ---- commands one after another

-- a replay so far: where it is, and what its builds answered
pub record History : Type 0 where
  pub state : State
  pub answers : List Answer

-- a replay before its first build
abbrev pub unbuilt : Ask → Snapshot → History
unbuilt ask files = record { state = opened ask files; answers = [] }

-- the replay after a step, where these were the answers before
abbrev pub led : List Answer → Result Step Outcome → Result History Outcome
led answers (Ok step) = Ok (record { state = step.state; answers = answers ++ step.answers })
led answers (Err outcome) = Err outcome

-- one more command, unless the run has ended before
abbrev pub then_moved : Files → Result History Outcome → Command → Result History Outcome
then_moved tree (Ok h) command = led h.answers (moved tree h.state command)
then_moved tree (Err outcome) command = Err outcome

-- where commands lead one after another, or how the run ends at one of them
abbrev pub moved_by : Files → History → List Command → Result History Outcome
moved_by tree h commands = fold (then_moved tree) (Ok h) commands

-- ---- the plan

-- the run ends so: the lines of all answers are written
abbrev pub ended : Bool → History → Outcome → Plan
ended full h outcome = record { outcome = outcome; bytes = lines_of full h.answers }

-- the plan of the commands that are left, of which the script ends so
abbrev pub replayed : Bool → Files → Option ScriptFault → History → List Command → Plan
replayed full tree fault h [] = ended full h (option_map_or script_outcome fault (outcome_of h.state))
replayed full tree fault h (command ∷ commands) = elim (then_moved tree (Ok h) command) [
  | Ok now ↦ replayed full tree fault now commands
  | Err outcome ↦ ended full h outcome
]

-- the plan of a script
abbrev pub script_plan : Bool → Files → History → Script → Plan
script_plan full tree h script = replayed full tree script.ending h script.commands

-- the plan of a script over a snapshot: a replay begins with a build
abbrev pub files_plan : Bool → Files → Ask → List ℕ → Result Snapshot CrawlFault → Plan
files_plan full tree ask bytes (Ok files) = script_plan full tree (unbuilt ask files) (with_command Build (script_of bytes))
files_plan full tree ask bytes (Err fault) = without_bytes (crawl_outcome fault)

-- the plan of a script over a folder of these files
abbrev pub replay_plan : Bool → Ask → Files → List ℕ → Plan
replay_plan full ask tree bytes = files_plan full tree ask bytes (crawled tree)
