-- What a command writes that makes one build, and how it ends.
use Rattle.std.specs.Prelude.{◌≡◌, ℕ, List, [], ◌∷◌, Result, Ok, Err}
use Rattle.mt_io.specs.Files.{Files}
use Rattle.mt_files.specs.Asks.{Ask}
use Rattle.mt_files.specs.Crawl.{crawled}
use Rattle.mt_files.specs.Fresh.{all_faults}
use Rattle.mt_files.specs.Reach.{reach}
use Rattle.mt_files.specs.Snapshots.{Snapshot}
use Rattle.mt_files.specs.declared.build_fault.BuildFault.{BuildFault}
use Rattle.mt_files.specs.declared.fault.CrawlFault.{CrawlFault}
use Rattle.mt_revision.specs.Contents.{HasContent}
use Rattle.mt_revision.specs.Numberings.{extended}
use Rattle.mt_revision.specs.declared.revision.Revision.{Revision}
use Rattle.mt_report.specs.Outcomes.{crawl_outcome, status_of}
use Rattle.mt_report.specs.declared.outcome.Outcome.TheVariants.{Done, Refused}
use Rattle.metro_program.specs.declared.state.NextBuild.{NextBuild}
use Rattle.metro_program.specs.States.{opened}
use Rattle.metro_program.specs.Builds.{fresh_build}
use Rattle.metro_program.specs.Histories.{IsTraversal}
use Rattle.metro_program.specs.Plans.{Plan, taken_plan, without_bytes}

-- the plan of a build: this text of its revision
abbrev pub built_plan : (Revision → List ℕ) → Result NextBuild BuildFault → Plan
built_plan text (Ok build) = record { outcome = Done; bytes = text build.revision }
built_plan text (Err fault) = without_bytes (Refused fault)

-- the plan of a snapshot: that of its first build
abbrev pub snapshot_plan : (Revision → List ℕ) → Ask → Snapshot → Plan
snapshot_plan text ask files = built_plan text (fresh_build (opened ask files))

-- the plan of a folder of these files
abbrev pub first_plan : (Revision → List ℕ) → Ask → Files → Plan
first_plan text ask tree = taken_plan (snapshot_plan text ask) (crawled tree)

-- ---- what it says

-- the first numbers: those of the entries, and then of the other modules by path
abbrev pub first_numbering : Ask → Snapshot → List (List ℕ)
first_numbering ask files = extended [] ask.entries (reach ask files)

-- the bytes are this text of a revision that is a traversal of the folder's files, which have no fault
pub record IsTextOf (text : Revision → List ℕ) (ask : Ask) (tree : Files) (bytes : List ℕ) : Type 0 where
  pub files : Snapshot
  pub taken : crawled tree ≡ Ok files
  pub faultless : all_faults ask files ≡ []
  pub build : NextBuild
  pub numbering : build.numbering ≡ first_numbering ask files
  pub content : HasContent ask build.revision build.numbering files
  pub traversal : IsTraversal ask build.numbering files build.revision
  pub text_is : bytes ≡ text build.revision

-- the files of the folder have this first fault
pub record HasFirstFault (ask : Ask) (tree : Files) (fault : BuildFault) : Type 0 where
  pub files : Snapshot
  pub taken : crawled tree ≡ Ok files
  pub others : List BuildFault
  pub faults : all_faults ask files ≡ fault ∷ others

-- what the plan of such a command says
pub record WritesFirst (text : Revision → List ℕ) (ask : Ask) (tree : Files) (plan : Plan) : Type 0 where
  -- the text of files without a fault is written
  pub made : (files : Snapshot) → crawled tree ≡ Ok files → all_faults ask files ≡ [] → plan.outcome ≡ Done
  -- else the first fault is the reason, and nothing is written
  pub refused : (fault : BuildFault) → HasFirstFault ask tree fault → plan ≡ without_bytes (Refused fault)
  -- a folder without a snapshot ends the run at its first limit, and nothing is written
  pub limited : (fault : CrawlFault) → crawled tree ≡ Err fault → plan ≡ without_bytes (crawl_outcome fault)
  pub limit : (fault : CrawlFault) → crawled tree ≡ Err fault → status_of plan.outcome ≡ 6
  -- and no status comes without its reason
  pub written : status_of plan.outcome ≡ 0 → IsTextOf text ask tree plan.bytes
  pub fault : status_of plan.outcome ≡ 1 → (fault : BuildFault) × HasFirstFault ask tree fault
  pub full : status_of plan.outcome ≡ 6 → (fault : CrawlFault) × (crawled tree ≡ Err fault)
