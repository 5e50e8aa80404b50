-- What the plan of a replay says: which commands were done, and why it ended.
use Rattle.std.specs.Prelude.{◌≡◌, ◌<◌, ◌⊎◌, ◌↔◌, ℕ, Bool, List, [], ◌∷◌, ◌++◌, length, Option, Some, None, Ok, Err}
use Rattle.std.specs.List.{All}
use Rattle.std.specs.Option.{option_map_or}
use Rattle.std.specs.Result.{result_err}
use Rattle.mt_io.specs.Files.{Files}
use Rattle.mt_files.specs.Asks.{Ask}
use Rattle.mt_files.specs.Crawl.{crawled}
use Rattle.mt_files.specs.Fresh.{fresh}
use Rattle.mt_files.specs.Snapshots.{Snapshot}
use Rattle.mt_files.specs.declared.fault.CrawlFault.{CrawlFault}
use Rattle.mt_revision.specs.declared.revision.Revision.{Revision}
use Rattle.mt_script.specs.Scripts.{Script}
use Rattle.mt_script.specs.declared.command.Command.{Command}
use Rattle.mt_script.specs.declared.command.Command.TheVariants.{Build}
use Rattle.mt_script.specs.declared.fault.ScriptFault.{ScriptFault}
use Rattle.mt_report.specs.Outcomes.{crawl_outcome, script_outcome, status_of}
use Rattle.mt_report.specs.declared.outcome.Outcome.{Outcome}
use Rattle.mt_report.specs.declared.outcome.Outcome.TheVariants.{Done, Refused}
use Rattle.metro_program.specs.States.{State}
use Rattle.metro_program.specs.Builds.{Same, asked_step}
use Rattle.metro_program.specs.Commands.{moved, outcome_of}
use Rattle.metro_program.specs.Plans.{Plan, without_bytes}
use Rattle.metro_program.specs.Replay.{History, lines_of, moved_by, unbuilt}
use Rattle.metro_program.specs.Histories.{AreTraversals, IsFresh, KeepsNumbers, changes_by}

-- ---- which commands were done

-- the run ends so after the commands that were done: at the next command, or where none is left as the script ends, or else as the last build did
abbrev pub EndsAt : Files → Option ScriptFault → History → List Command → Outcome → Type 0
EndsAt tree fault now [] outcome = outcome ≡ option_map_or script_outcome fault (outcome_of now.state)
EndsAt tree fault now (command ∷ rest) outcome = moved tree now.state command ≡ Err outcome

-- the lines of a replay are those of what its builds answered, up to the command at which the run ended
pub record IsReport (full : Bool) (tree : Files) (ask : Ask) (files : Snapshot) (script : Script) (plan : Plan) : Type 0 where
  pub done : List Command
  pub rest : List Command
  pub parts : Build ∷ script.commands ≡ done ++ rest
  pub now : History
  pub led : moved_by tree (unbuilt ask files) done ≡ Ok now
  pub lines : plan.bytes ≡ lines_of full now.answers
  pub ends : EndsAt tree script.ending now rest plan.outcome

-- ---- the last build

-- a command that asks for no build
abbrev pub IsQuiet : Command → Type 0
IsQuiet Build = ⊥
IsQuiet command = Unit {0}

-- the last build of these commands was of the files as they were then, and ended so: by their first fault, if they have one
pub record IsLastBuild (tree : Files) (start : History) (commands : List Command) (outcome : Outcome) : Type 0 where
  pub front : List Command
  pub quiet : List Command
  pub parts : commands ≡ front ++ Build ∷ quiet
  pub silent : All IsQuiet quiet
  pub before : History
  pub led : moved_by tree start front ≡ Ok before
  pub built : outcome ≡ option_map_or Refused (result_err (fresh before.state.ask before.state.files)) Done

-- ---- what commands lead to

-- facts of a replay that has done these commands
pub record IsReplay (tree : Files) (ask : Ask) (files : Snapshot) (commands : List Command) (now : History) : Type 0 where
  -- the accepted changes are those that the commands make, in their order
  pub accepted : now.state.journal ≡ changes_by tree files commands
  pub fresh : IsFresh ask files now
  pub traversals : AreTraversals ask files now

-- the latest revision has this number, and counts all accepted changes
pub record IsCounted (s : State) (n : ℕ) : Type 0 where
  pub latest : Revision
  pub is : s.latest ≡ Some latest
  pub number : latest.number ≡ n
  pub counts : latest.changes ≡ length s.journal

-- ---- the whole

-- the run carried out all commands of a script that ends in `end`, and ended as its last build did
pub record IsWhole (tree : Files) (ask : Ask) (script : Script) (plan : Plan) : Type 0 where
  pub files : Snapshot
  pub taken : crawled tree ≡ Ok files
  pub over : script.ending ≡ None
  pub now : History
  pub led : moved_by tree (unbuilt ask files) (Build ∷ script.commands) ≡ Ok now
  pub last : IsLastBuild tree (unbuilt ask files) (Build ∷ script.commands) plan.outcome

-- what the plan of a replay says, full or not
pub record Replays (full : Bool) (ask : Ask) (tree : Files) (script : Script) (plan : Plan) : Type 0 where
  -- a folder without a snapshot ends the run at its first limit, and nothing is written
  pub limited : (fault : CrawlFault) → crawled tree ≡ Err fault → plan ≡ without_bytes (crawl_outcome fault)
  pub limit : (fault : CrawlFault) → crawled tree ≡ Err fault → status_of plan.outcome ≡ 6
  -- else the lines are those of what the builds answered
  pub report : (files : Snapshot) → crawled tree ≡ Ok files → IsReport full tree ask files script plan
  -- status 0 or 1 comes only of a whole run, and is that of its last build
  pub whole : status_of plan.outcome < 2 → IsWhole tree ask script plan
  -- a script that ends in `end` and meets no limit is carried out whole
  pub complete : script.ending ≡ None → (status_of plan.outcome ≡ 6) ⊎ IsWhole tree ask script plan
  -- wherever the commands lead
  pub replay : (files : Snapshot) (commands : List Command) (now : History) → moved_by tree (unbuilt ask files) commands ≡ Ok now → IsReplay tree ask files commands now
  pub numbers : (before now : History) (commands : List Command) → moved_by tree before commands ≡ Ok now → KeepsNumbers before.state now.state
  -- a build answers that nothing changed exactly where the latest revision counts all accepted changes
  pub same : (s : State) (number : ℕ) → ((asked_step s).answers ≡ Same number ∷ []) ↔ IsCounted s number
