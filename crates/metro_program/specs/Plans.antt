-- How a run ends, and the bytes that it writes.
use Rattle.std.specs.Prelude.{ℕ, List, [], Result, Ok, Err}
use Rattle.mt_io.specs.declared.trouble.Trouble.{Trouble}
use Rattle.mt_files.specs.Snapshots.{Snapshot}
use Rattle.mt_files.specs.declared.fault.CrawlFault.{CrawlFault}
use Rattle.mt_report.specs.Outcomes.{crawl_outcome, trouble_outcome}
use Rattle.mt_report.specs.declared.outcome.Outcome.{Outcome}

-- how a run ends, and the bytes that it writes to the output
pub record Plan : Type 0 where
  pub outcome : Outcome
  pub bytes : List ℕ

-- nothing is written
abbrev pub without_bytes : Outcome → Plan
without_bytes outcome = record { outcome = outcome; bytes = [] }

-- the plan of a folder by the plan of its snapshot: without one the run ends at the first limit
abbrev pub taken_plan : (Snapshot → Plan) → Result Snapshot CrawlFault → Plan
taken_plan plan (Ok files) = plan files
taken_plan plan (Err fault) = without_bytes (crawl_outcome fault)

-- how a run ends that was to end so once all bytes were written
abbrev pub sent_outcome : Outcome → Result (Unit {0}) Trouble → Outcome
sent_outcome outcome (Ok all) = outcome
sent_outcome outcome (Err trouble) = trouble_outcome trouble
