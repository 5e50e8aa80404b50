-- Where the commands of a script lead.
use Rattle.std.specs.Prelude.{List, [], ◌∷◌, ◌++◌, Result, Ok, Err}
use Rattle.std.specs.List.{fold}
use Rattle.std.specs.Option.{option_map_or}
use Rattle.mt_io.specs.Files.{Files}
use Rattle.mt_files.specs.Changes.{stepped}
use Rattle.mt_files.specs.Crawl.{entry_of}
use Rattle.mt_files.specs.Journals.{push_answer}
use Rattle.mt_files.specs.Rescans.{rescanned}
use Rattle.mt_files.specs.declared.change.Change.{Change}
use Rattle.mt_files.specs.declared.change.Change.TheVariants as change
use Rattle.mt_files.specs.declared.fault.CrawlFault.{CrawlFault}
use Rattle.mt_files.specs.declared.journal.JournalFault.{JournalFault}
use Rattle.mt_script.specs.declared.command.Command.{Command}
use Rattle.mt_script.specs.declared.command.Command.TheVariants.{Put, Del, Rescan, Build, End}
use Rattle.mt_report.specs.Outcomes.{crawl_outcome, journal_outcome}
use Rattle.mt_report.specs.declared.outcome.Outcome.{Outcome}
use Rattle.mt_report.specs.declared.outcome.Outcome.TheVariants.{Done, Refused}
use Rattle.metro_program.specs.States.{State}
use Rattle.metro_program.specs.Builds.{Step, asked_step}

-- ---- changes

-- a change is accepted
abbrev pub with_change : State → Change → State
with_change s change = record { ask = s.ask; files = stepped s.files change; journal = s.journal ++ change ∷ []; numbering = s.numbering; latest = s.latest; refusal = s.refusal }

-- a change is accepted where the journal has room
abbrev pub answered : State → Change → Result (Unit {0}) JournalFault → Result State Outcome
answered s change (Ok room) = Ok (with_change s change)
answered s change (Err fault) = Err (journal_outcome fault)

-- where a change leads, or how the run ends there
abbrev pub changed : State → Change → Result State Outcome
changed s change = answered s change (push_answer s.journal change)

-- one more change, unless the run has ended before
abbrev pub then_changed : Result State Outcome → Change → Result State Outcome
then_changed (Ok s) change = changed s change
then_changed (Err outcome) change = Err outcome

-- changes one after another
abbrev pub changed_by : State → List Change → Result State Outcome
changed_by s changes = fold then_changed (Ok s) changes

-- the changes that lead to what the folder has
abbrev pub rescanned_by : State → Result (List Change) CrawlFault → Result State Outcome
rescanned_by s (Ok changes) = changed_by s changes
rescanned_by s (Err fault) = Err (crawl_outcome fault)

-- ---- commands

-- how a replay ends with `end`: as its last build did
abbrev pub outcome_of : State → Outcome
outcome_of s = option_map_or Refused s.refusal Done

-- a change answers nothing
abbrev pub in_silence : Result State Outcome → Result Step Outcome
in_silence (Ok s) = Ok (record { state = s; answers = [] })
in_silence (Err outcome) = Err outcome

-- where a command leads over a folder of these files, or how the run ends there
abbrev pub moved : Files → State → Command → Result Step Outcome
moved tree s (Put path bytes) = in_silence (changed s (change.Put path (entry_of path bytes)))
moved tree s (Del path) = in_silence (changed s (change.Del path))
moved tree s Rescan = in_silence (rescanned_by s (rescanned s.files tree))
moved tree s Build = Ok (asked_step s)
moved tree s End = Err (outcome_of s)
