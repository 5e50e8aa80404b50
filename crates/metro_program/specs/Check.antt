-- What `check` writes, and how it ends.
use Rattle.std.specs.Prelude.{◌≡◌, ◌≤◌, ℕ, List, [], ◌∷◌, length, Ok, Err}
use Rattle.mt_io.specs.Files.{Files}
use Rattle.mt_files.specs.Asks.{Ask}
use Rattle.mt_files.specs.Crawl.{crawled}
use Rattle.mt_files.specs.Fresh.{all_faults, max_modules}
use Rattle.mt_files.specs.Reach.{reach}
use Rattle.mt_files.specs.Snapshots.{Snapshot}
use Rattle.mt_files.specs.declared.build_fault.BuildFault.{BuildFault}
use Rattle.mt_files.specs.declared.fault.CrawlFault.{CrawlFault}
use Rattle.mt_fresh.specs.Calls.{dynamic_calls}
use Rattle.mt_fresh.specs.declared.fresh.AllFaults.{AllFaults}
use Rattle.mt_report.specs.Listings.{fault_lines, ok_line}
use Rattle.mt_report.specs.Outcomes.{crawl_outcome, status_of}
use Rattle.mt_report.specs.declared.outcome.Outcome.TheVariants.{Done, Faulty}
use Rattle.metro_program.specs.Plans.{Plan, taken_plan, without_bytes}

-- the plan of these faults: the line of each of them; where there are none, this line
abbrev pub listed_plan : List ℕ → List BuildFault → Plan
listed_plan ok [] = record { outcome = Done; bytes = ok }
listed_plan ok (fault ∷ faults) = record { outcome = Faulty; bytes = fault_lines (fault ∷ faults) }

-- the line of files without a fault: how many modules the entries reach, and how many of the calls in these name what only a run can tell
abbrev pub clean_line : Ask → Snapshot → List ℕ
clean_line ask files = ok_line (length (reach ask files)) (dynamic_calls ask files)

-- the plan of a snapshot: that of all its faults
abbrev pub checked_plan : Ask → Snapshot → Plan
checked_plan ask files = listed_plan (clean_line ask files) (all_faults ask files)

-- the plan of a folder of these files
abbrev pub check_plan : Ask → Files → Plan
check_plan ask tree = taken_plan (checked_plan ask) (crawled tree)

-- ---- what it says

-- the files of the folder have no fault, and the bytes are their line
pub record IsClean (ask : Ask) (tree : Files) (bytes : List ℕ) : Type 0 where
  pub files : Snapshot
  pub taken : crawled tree ≡ Ok files
  pub faultless : all_faults ask files ≡ []
  pub line : bytes ≡ clean_line ask files

-- the files of the folder have faults, and the bytes are the lines of all of them, by path and place
pub record IsFaulty (ask : Ask) (tree : Files) (bytes : List ℕ) : Type 0 where
  pub files : Snapshot
  pub taken : crawled tree ≡ Ok files
  pub first : BuildFault
  pub others : List BuildFault
  pub faults : all_faults ask files ≡ first ∷ others
  pub lines : bytes ≡ fault_lines (all_faults ask files)

-- what the plan of a check says
pub record Checks (ask : Ask) (tree : Files) (plan : Plan) : Type 0 where
  -- files without a fault pass
  pub passed : (files : Snapshot) → crawled tree ≡ Ok files → all_faults ask files ≡ [] → plan.outcome ≡ Done
  -- else each of their faults has its line, and the log has none
  pub listed : (files : Snapshot) (first : BuildFault) (others : List BuildFault) → crawled tree ≡ Ok files → all_faults ask files ≡ first ∷ others
      → plan ≡ record { outcome = Faulty; bytes = fault_lines (all_faults ask files) }
  -- a folder without a snapshot ends the run at its first limit, and nothing is written
  pub limited : (fault : CrawlFault) → crawled tree ≡ Err fault → plan ≡ without_bytes (crawl_outcome fault)
  pub limit : (fault : CrawlFault) → crawled tree ≡ Err fault → status_of plan.outcome ≡ 6
  -- and no status comes without its reason
  pub clean : status_of plan.outcome ≡ 0 → IsClean ask tree plan.bytes
  pub faulty : status_of plan.outcome ≡ 1 → IsFaulty ask tree plan.bytes
  pub full : status_of plan.outcome ≡ 6 → (fault : CrawlFault) × (crawled tree ≡ Err fault)

-- ---- on the way

-- these are all faults of the files, with the number of their modules and of the calls in these
pub record AreFaults (ask : Ask) (files : Snapshot) (found : AllFaults) : Type 0 where
  pub list : found.list ≡ all_faults ask files
  pub modules : found.modules ≡ length (reach ask files)
  pub calls : found.modules ≤ max_modules → found.calls ≡ dynamic_calls ask files

-- the plan of what was found
abbrev pub found_plan : AllFaults → Plan
found_plan found = listed_plan (ok_line found.modules found.calls) found.list
