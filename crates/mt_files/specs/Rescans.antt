-- A rescan: the changes that lead from a snapshot to what a folder has now.
use Rattle.std.specs.Prelude.{ℕ, Bool, true, false, ◌≢◌, List, ◌++◌, Option, Some, None, Result, Ok, Err, if◌then◌else◌}
use Rattle.std.specs.List.{filter_map}
use Rattle.std.specs.Option.{option_eq}
use Rattle.std.specs.Str.{bytes_eq}
use Rattle.std.specs.FinMap.{get, keys}
use Rattle.mt_io.specs.Files.{Files}
use Rattle.mt_files.specs.declared.file_map.Entry.{Entry}
use Rattle.mt_files.specs.declared.file_map.Entry.TheVariants.{Source, Other}
use Rattle.mt_files.specs.declared.change.Change.{Change}
use Rattle.mt_files.specs.declared.change.Change.TheVariants.{Put, Del}
use Rattle.mt_files.specs.declared.fault.CrawlFault.{CrawlFault}
use Rattle.mt_files.specs.Snapshots.{Snapshot}
use Rattle.mt_files.specs.Changes.{entry_after, path_of}
use Rattle.mt_files.specs.Crawl.{crawled}
use Rattle.mt_files.specs.Fresh.{ascending}

-- whether two entries are the same: sources of the same bytes, or no sources
abbrev pub same_entry : Entry → Entry → Bool
same_entry (Source a) (Source b) = bytes_eq a b
same_entry Other Other = true
same_entry (Source a) Other = false
same_entry Other (Source b) = false

-- the change after which this is kept of the file at a path
abbrev pub change_to : List ℕ → Option Entry → Change
change_to path (Some entry) = Put path entry
change_to path None = Del path

-- the change at a path from one snapshot to another: none where both keep the same
abbrev pub change_at : Snapshot → Snapshot → List ℕ → Option Change
change_at old new path = if option_eq same_entry (get old path) (get new path) then None else Some (change_to path (get new path))

-- the changes from one snapshot to another, by ascending path
unfoldable pub changes_between : Snapshot → Snapshot → List Change
changes_between old new = filter_map (change_at old new) (ascending (keys old ++ keys new))

-- the changes from a snapshot to what was found, if nothing was refused
abbrev pub changes_to : Snapshot → Result Snapshot CrawlFault → Result (List Change) CrawlFault
changes_to files (Ok found) = Ok (changes_between files found)
changes_to files (Err fault) = Err fault

-- what a rescan of a tree answers: the changes to what its crawl answers
abbrev pub rescanned : Snapshot → Files → Result (List Change) CrawlFault
rescanned files tree = changes_to files (crawled tree)

-- a change that does not leave a snapshot as it is
abbrev pub HasEffect : Snapshot → Change → Type 0
HasEffect files change = entry_after change ≢ get files (path_of change)
