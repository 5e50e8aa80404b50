-- Where a replay is.
use Rattle.std.specs.Prelude.{◌≡◌, ◌≤◌, ◌+◌, ◌++◌, ℕ, true, List, [], length, map, Option, None}
use Rattle.std.specs.Option.{IfSome}
use Rattle.std.specs.FinMap.{contains_key}
use Rattle.std.specs.List.{IsDistinct}
use Rattle.std.specs.Str.{bytes_eq}
use Rattle.mt_files.specs.Asks.{Ask}
use Rattle.mt_files.specs.Changes.{path_of}
use Rattle.mt_files.specs.Crawl.{max_files}
use Rattle.mt_files.specs.Snapshots.{Snapshot}
use Rattle.mt_files.specs.declared.build_fault.BuildFault.{BuildFault}
use Rattle.mt_files.specs.declared.change.Change.{Change}
use Rattle.mt_revision.specs.Numberings.{has_path}
use Rattle.mt_revision.specs.declared.revision.Revision.{Revision}

-- where a replay is: what its builds are asked for, its files, the accepted changes, the numbered paths, the latest revision, and why the last build was refused, if it was
pub record State : Type 0 where
  pub ask : Ask
  pub files : Snapshot
  pub journal : List Change
  pub numbering : List (List ℕ)
  pub latest : Option Revision
  pub refusal : Option BuildFault

-- a replay before its first build
abbrev pub opened : Ask → Snapshot → State
opened ask files = record { ask = ask; files = files; journal = []; numbering = []; latest = None; refusal = None }

-- ---- what holds in each state

-- the latest revision is for development where the options are, counts no more changes than were accepted, and each revision before it counted fewer
pub record IsLatest (state : State) (revision : Revision) : Type 0 where
  pub dev : revision.dev ≡ state.ask.options.dev
  pub number : revision.number ≤ revision.changes + 1
  pub changes : revision.changes ≤ length state.journal

-- each file and each path that has a number is one of the first files, or was changed; no path has two numbers
pub record IsBounded (state : State) : Type 0 where
  pub first : List (List ℕ)
  pub few : length first ≤ max_files
  pub files : (path : List ℕ) → contains_key state.files path ≡ true → has_path (first ++ map path_of state.journal) path ≡ true
  pub numbered : (path : List ℕ) → has_path state.numbering path ≡ true → has_path (first ++ map path_of state.journal) path ≡ true
  pub distinct : IsDistinct bytes_eq state.numbering
  pub latest : IfSome state.latest (IsLatest state)
