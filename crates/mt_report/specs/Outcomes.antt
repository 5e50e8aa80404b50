-- How a run ends: its status, its line on the log, and the outcome of each fault.
use Rattle.std.specs.Prelude.{◌≡◌, ◌<◌, ◌⊎◌, ℕ, List, [], ◌++◌, codes, nat_lt, if◌then◌else◌}
use Rattle.std.specs.Fmt.{decimal}
use Rattle.mt_io.specs.declared.trouble.Trouble.{Trouble}
use Rattle.mt_io.specs.declared.trouble.Trouble.TheVariants as trouble
use Rattle.mt_files.specs.Journals.{max_changes}
use Rattle.mt_files.specs.FaultText.{text_of}
use Rattle.mt_files.specs.declared.build_fault.BuildFault.{BuildFault}
use Rattle.mt_files.specs.declared.build_fault.BuildFault.TheVariants as build
use Rattle.mt_files.specs.declared.fault.CrawlFault.{CrawlFault}
use Rattle.mt_files.specs.declared.fault.CrawlFault.TheVariants as crawl
use Rattle.mt_files.specs.declared.journal.JournalFault.{JournalFault}
use Rattle.mt_files.specs.declared.journal.JournalFault.TheVariants as journal
use Rattle.mt_script.specs.declared.fault.ScriptFault.{ScriptFault}
use Rattle.mt_script.specs.declared.fault.ScriptFault.TheVariants as script
use Rattle.mt_report.specs.declared.outcome.Outcome.{Outcome}
use Rattle.mt_report.specs.declared.outcome.Outcome.TheVariants as outcome
use Rattle.mt_report.specs.declared.outcome.Limit.{Limit}
use Rattle.mt_report.specs.declared.outcome.Limit.TheVariants.{File, Files, FolderBytes, Changes, JournalBytes, Commands}

-- ---- statuses and lines

-- the status of an outcome
abbrev pub status_of : Outcome → ℕ
status_of outcome.Done = 0
status_of (outcome.Refused fault) = 1
status_of outcome.Faulty = 1
status_of (outcome.BadWord at) = 2
status_of outcome.ReadFailed = 3
status_of outcome.WriteFailed = 4
status_of outcome.NoMemory = 5
status_of (outcome.Limit limit) = 6
status_of (outcome.BadCommand command) = 7
status_of (outcome.CutCommand command) = 7

-- the line of a limit
abbrev pub limit_line : Limit → List ℕ
limit_line File = codes "metro: limit file 16777216\n"
limit_line Files = codes "metro: limit files 262144\n"
limit_line FolderBytes = codes "metro: limit folder-bytes 1073741824\n"
limit_line Changes = codes "metro: limit changes 65536\n"
limit_line JournalBytes = codes "metro: limit journal-bytes 1073741824\n"
limit_line Commands = codes "metro: limit commands 1048576\n"

-- a line of the program that names a number
abbrev pub numbered_line : List ℕ → ℕ → List ℕ
numbered_line what number = codes "metro: " ++ (what ++ (codes " " ++ (decimal number ++ codes "\n")))

-- the line of an outcome on the log
abbrev pub line_of : Outcome → List ℕ
line_of outcome.Done = []
line_of outcome.Faulty = []
line_of (outcome.Refused fault) = codes "metro: " ++ (text_of fault ++ codes "\n")
line_of (outcome.BadWord at) = numbered_line (codes "word") at
line_of outcome.ReadFailed = codes "metro: read failed\n"
line_of outcome.WriteFailed = codes "metro: write failed\n"
line_of outcome.NoMemory = codes "metro: out of memory\n"
line_of (outcome.Limit limit) = limit_line limit
line_of (outcome.BadCommand command) = numbered_line (codes "script command") command
line_of (outcome.CutCommand command) = numbered_line (codes "script cut in command") command

-- ---- what kind of outcome it is

-- a status that is no fault of the outside, and not that memory ran out
abbrev pub IsPlannedStatus : ℕ → Type 0
IsPlannedStatus status = (status < 3) ⊎ (5 < status)

-- an outcome that is no fault of the outside, and not that memory ran out
abbrev pub IsPlanned : Outcome → Type 0
IsPlanned outcome = IsPlannedStatus (status_of outcome)

-- an outcome at a bad word
abbrev pub IsBadWord : Outcome → Type 0
IsBadWord outcome = status_of outcome ≡ 2

-- ---- the outcome of each fault

-- where the output fails, or memory runs out
abbrev pub trouble_outcome : Trouble → Outcome
trouble_outcome trouble.Failed = outcome.WriteFailed
trouble_outcome trouble.NoMemory = outcome.NoMemory

-- where the folder has no snapshot
abbrev pub crawl_outcome : CrawlFault → Outcome
crawl_outcome crawl.Failed = outcome.ReadFailed
crawl_outcome (crawl.FileTooLarge path size) = outcome.Limit File
crawl_outcome crawl.TooManyFiles = outcome.Limit Files
crawl_outcome crawl.TooManyBytes = outcome.Limit FolderBytes
crawl_outcome crawl.NoMemory = outcome.NoMemory

-- where a build is refused
abbrev pub build_outcome : BuildFault → Outcome
build_outcome build.NoMemory = outcome.NoMemory
build_outcome fault = outcome.Refused fault

-- where the journal has no room: too many changes come before too many bytes
abbrev pub journal_outcome : JournalFault → Outcome
journal_outcome (journal.JournalFull changes bytes) = if nat_lt changes max_changes then outcome.Limit JournalBytes else outcome.Limit Changes
journal_outcome journal.NoMemory = outcome.NoMemory

-- where the script gives no further command
abbrev pub script_outcome : ScriptFault → Outcome
script_outcome (script.Bad command) = outcome.BadCommand command
script_outcome (script.Cut command) = outcome.CutCommand command
script_outcome (script.FileTooLarge path size) = outcome.Limit File
script_outcome script.TooManyCommands = outcome.Limit Commands
script_outcome script.Failed = outcome.ReadFailed
script_outcome script.NoMemory = outcome.NoMemory
