-- The log of builds, and when it is legal.
use Rattle.std.specs.Prelude.{◌≡◌, ◌≤◌, ℕ, List, [], ◌∷◌, length, take, Option, Some, None, Err}
use Rattle.std.specs.List.{filter_map, fold}
use Rattle.mt_files.specs.Asks.{Ask}
use Rattle.mt_files.specs.Snapshots.{Snapshot}
use Rattle.mt_files.specs.Changes.{stepped_by}
use Rattle.mt_files.specs.Reach.{reach}
use Rattle.mt_files.specs.Fresh.{fresh}
use Rattle.mt_files.specs.declared.change.Change.{Change}
use Rattle.mt_files.specs.declared.build_fault.BuildFault.{BuildFault}
use Rattle.mt_revision.specs.Numberings.{extended}
use Rattle.mt_revision.specs.Revisions.{WasMadeAfter}
use Rattle.mt_revision.specs.Contents.{HasContent}
use Rattle.mt_revision.specs.declared.revision.Revision.{Revision}

-- a build as the log has it: its revision, or how many changes were taken before it and its first fault
pub data Logged : Type 0 where
  Accepted : Revision → Logged
  Denied : ℕ → BuildFault → Logged

-- how many changes were taken before a build
abbrev pub count_of : Logged → ℕ
count_of (Accepted revision) = revision.changes
count_of (Denied count fault) = count

-- the revision of a build, if it gave one
abbrev pub revision_of : Logged → Option Revision
revision_of (Accepted revision) = Some revision
revision_of (Denied count fault) = None

-- the revisions of a log
abbrev pub revisions_of : List Logged → List Revision
revisions_of log = filter_map revision_of log

-- what a log has reached: its latest revision, the count of its last build, and the paths that have numbers
pub record Reached : Type 0 where
  pub latest : Option Revision
  pub count : ℕ
  pub numbering : List (List ℕ)

-- before the first build
abbrev pub unlogged : Reached
unlogged = record { latest = None; count = 0; numbering = [] }

-- the files once the first so many changes of a journal were made
abbrev pub files_at : Snapshot → List Change → ℕ → Snapshot
files_at files journal count = stepped_by files (take count journal)

-- the numbering under which files are built: that of the builds before, and the entries and modules that had no number
abbrev pub numbering_at : Ask → Reached → Snapshot → List (List ℕ)
numbering_at ask before files = extended before.numbering ask.entries (reach ask files)

-- what is reached with one more build: a refusal gives no number and no revision
abbrev pub reached_after : Ask → Snapshot → List Change → Reached → Logged → Reached
reached_after ask files journal before (Accepted revision) = record { latest = Some revision; count = revision.changes; numbering = numbering_at ask before (files_at files journal revision.changes) }
reached_after ask files journal before (Denied count fault) = record { latest = before.latest; count = count; numbering = before.numbering }

-- what is reached with builds one after another
abbrev pub reached_by : Ask → Snapshot → List Change → Reached → List Logged → Reached
reached_by ask files journal before log = fold (reached_after ask files journal) before log

-- a revision that may come next: it counts no fewer changes than the build before, was made after the latest revision, and has what is asked for of the files that it counts
pub record IsAccepted (ask : Ask) (files : Snapshot) (journal : List Change) (before : Reached) (revision : Revision) : Type 0 where
  pub later : before.count ≤ revision.changes
  pub counted : revision.changes ≤ length journal
  pub made : WasMadeAfter before.latest revision
  pub content : HasContent ask revision (numbering_at ask before (files_at files journal revision.changes)) (files_at files journal revision.changes)

-- a refusal that may come next: it counts no fewer changes than the build before, and names the first fault of the files that it counts
pub record IsDenied (ask : Ask) (files : Snapshot) (journal : List Change) (before : Reached) (count : ℕ) (fault : BuildFault) : Type 0 where
  pub later : before.count ≤ count
  pub counted : count ≤ length journal
  pub first : fresh ask (files_at files journal count) ≡ Err fault

-- a build that may come next
abbrev pub IsNext : Ask → Snapshot → List Change → Reached → Logged → Type 0
IsNext ask files journal before (Accepted revision) = IsAccepted ask files journal before revision
IsNext ask files journal before (Denied count fault) = IsDenied ask files journal before count fault

-- a log of which each build may come next after those before it
abbrev pub IsLegalAfter : Ask → Snapshot → List Change → Reached → List Logged → Type 0
IsLegalAfter ask files journal before [] = Unit
IsLegalAfter ask files journal before (build ∷ log) = IsNext ask files journal before build × IsLegalAfter ask files journal (reached_after ask files journal before build) log

-- a legal log
abbrev pub IsLegal : Ask → Snapshot → List Change → List Logged → Type 0
IsLegal ask files journal log = IsLegalAfter ask files journal unlogged log
