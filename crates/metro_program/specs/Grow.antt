-- What `grow` writes, and how it ends.
use Rattle.std.specs.Prelude.{ℕ, List, [], ◌∷◌, length, Result, Ok, Err}
use Rattle.std.specs.List.{fold}
use Rattle.std.specs.Option.{option_map_or}
use Rattle.mt_files.specs.Asks.{Ask}
use Rattle.mt_files.specs.Crawl.{crawled, entry_of}
use Rattle.mt_files.specs.Snapshots.{Snapshot}
use Rattle.mt_files.specs.declared.change.Change.TheVariants as change
use Rattle.mt_generator.specs.Growths.{grown}
use Rattle.mt_report.specs.Reports.{grown_line}
use Rattle.mt_report.specs.declared.outcome.Outcome.{Outcome}
use Rattle.mt_request.specs.declared.growth.Growth.{Growth}
use Rattle.mt_script.specs.declared.command.Command.{Command}
use Rattle.mt_script.specs.declared.command.Command.TheVariants.{Put, Del, Rescan, Build, End}
use Rattle.metro_program.specs.Builds.{asked_step}
use Rattle.metro_program.specs.Commands.{changed, outcome_of}
use Rattle.metro_program.specs.Plans.{Plan, taken_plan, without_bytes}
use Rattle.metro_program.specs.States.{State, opened}

-- ---- the edits

-- the state to which a command leads, or how the run ends there: there is no folder to scan again, and nothing comes after `end`
abbrev pub state_moved : State → Command → Result State Outcome
state_moved s (Put path bytes) = changed s (change.Put path (entry_of path bytes))
state_moved s (Del path) = changed s (change.Del path)
state_moved s Rescan = Ok s
state_moved s Build = Ok (asked_step s).state
state_moved s End = Ok s

-- the state after one more command, unless the run has ended before
abbrev pub then_state : Result State Outcome → Command → Result State Outcome
then_state (Ok s) command = state_moved s command
then_state (Err outcome) command = Err outcome

-- the state to which commands lead one after another
abbrev pub state_after : State → List Command → Result State Outcome
state_after s commands = fold then_state (Ok s) commands

-- ---- the plan

-- the line of a run that ended in this state: none where no build was accepted
abbrev pub grown_text : Growth → State → List ℕ
grown_text growth s = option_map_or (λ revision. grown_line growth.modules growth.edits (length s.numbering) revision) s.latest []

-- the plan by where the commands lead: the run ends as its last build did
abbrev pub end_plan : Growth → Result State Outcome → Plan
end_plan growth (Ok s) = record { outcome = outcome_of s; bytes = grown_text growth s }
end_plan growth (Err outcome) = without_bytes outcome

-- the plan of a snapshot of the folder that is grown: it is built, and then edited
abbrev pub edited_plan : Ask → Growth → Snapshot → Plan
edited_plan ask growth files = end_plan growth (state_after (opened ask files) (Build ∷ (grown growth.seed growth.modules growth.edits).commands))

-- the plan of a growth
abbrev pub grow_plan : Ask → Growth → Plan
grow_plan ask growth = taken_plan (edited_plan ask growth) (crawled (grown growth.seed growth.modules growth.edits).files)
