-- Which modules the entries reach.
use Rattle.std.specs.Prelude.{ℕ, List, filter}
use Rattle.std.specs.Str.{bytes_eq}
use Rattle.std.specs.FinMap.{keys}
use Rattle.mt_containers.specs.Walks.{reach_among}
use Rattle.mt_containers.specs.Walks as walks
use Rattle.mt_files.specs.Asks.{Ask}
use Rattle.mt_files.specs.Snapshots.{Snapshot, has_source}
use Rattle.mt_files.specs.Edges.{edges}

-- the entries that are sources
abbrev pub source_entries : Ask → Snapshot → List (List ℕ)
source_entries ask files = filter (has_source files) ask.entries

-- a walk leads to a path: it begins at an entry that is a source, and each next path is one that the module before requires
abbrev pub IsReached : Ask → Snapshot → List ℕ → Type 0
IsReached ask files path = walks.IsReached (edges ask.options files) (source_entries ask files) path

-- the modules that the entries reach, ascending (`law_of_reach`)
abbrev pub reach : Ask → Snapshot → List (List ℕ)
reach ask files = reach_among bytes_eq (edges ask.options files) (source_entries ask files) (keys files)
