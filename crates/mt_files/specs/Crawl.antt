-- The snapshot that a crawl makes of a folder's files, or the first limit that it meets.
use Rattle.std.specs.Prelude.{ℕ, List, Option, None, [], ◌≡◌, ◌+◌, length, nat_lt, if◌then◌else◌, Result, Ok, Err}
use Rattle.std.specs.List.{fold}
use Rattle.std.specs.Option.{option_map, unwrap_or}
use Rattle.std.specs.FinMap.{empty, get, insert, len}
use Rattle.mt_path.specs.Names.{is_source}
use Rattle.mt_tokens.specs.Sources.{max_source_bytes}
use Rattle.mt_io.specs.Files.{Files}
use Rattle.mt_files.specs.declared.file_map.Entry.{Entry}
use Rattle.mt_files.specs.declared.file_map.Entry.TheVariants.{Source, Other}
use Rattle.mt_files.specs.declared.fault.CrawlFault.{CrawlFault}
use Rattle.mt_files.specs.declared.fault.CrawlFault.TheVariants.{FileTooLarge, TooManyFiles, TooManyBytes}
use Rattle.mt_files.specs.declared.crawler.PartialSnapshot.{PartialSnapshot}
use Rattle.mt_files.specs.Snapshots.{Snapshot}
use Rattle.mt_files.specs.Search.{files_met, is_met}

-- the most files of a snapshot
abbrev pub max_files : ℕ
max_files = 262144

-- the most bytes of all sources of a snapshot
abbrev pub max_folder_bytes : ℕ
max_folder_bytes = 1073741824

-- the bytes of a file of a tree
abbrev pub bytes_at : Files → List ℕ → List ℕ
bytes_at tree path = unwrap_or (get tree path) []

-- no files, and no bytes of sources
abbrev pub no_files : PartialSnapshot
no_files = record { files = empty; bytes = 0 }

-- a source of these bytes is taken, unless it or all sources are too large
abbrev pub with_source : List ℕ → List ℕ → PartialSnapshot → Result PartialSnapshot CrawlFault
with_source path bytes part =
    if nat_lt max_source_bytes (length bytes) then Err (FileTooLarge path (length bytes)) else (if nat_lt max_folder_bytes (part.bytes + length bytes) then Err TooManyBytes else Ok (record { files = insert part.files path (Source bytes); bytes = part.bytes + length bytes }))

-- a file that is no source is taken
abbrev pub with_other : List ℕ → PartialSnapshot → PartialSnapshot
with_other path part = record { files = insert part.files path Other; bytes = part.bytes }

-- a file of the tree is taken, unless there are too many: of a file that is no source its path alone
abbrev pub with_file : Files → PartialSnapshot → List ℕ → Result PartialSnapshot CrawlFault
with_file tree part path =
    if nat_lt (len part.files) max_files then (if is_source path then with_source path (bytes_at tree path) part else Ok (with_other path part)) else Err TooManyFiles

-- one more file is taken, unless a limit was met before
abbrev pub then_file : Files → Result PartialSnapshot CrawlFault → List ℕ → Result PartialSnapshot CrawlFault
then_file tree (Ok part) path = with_file tree part path
then_file tree (Err fault) path = Err fault

-- files of the tree are taken one after another, up to the first limit (`law_of_limits`)
abbrev pub with_files : Files → Result PartialSnapshot CrawlFault → List (List ℕ) → Result PartialSnapshot CrawlFault
with_files tree part paths = fold (then_file tree) part paths

-- the snapshot alone
abbrev pub files_of : Result PartialSnapshot CrawlFault → Result Snapshot CrawlFault
files_of (Ok part) = Ok part.files
files_of (Err fault) = Err fault

-- the snapshot of a tree, or the first limit that its files meet
abbrev pub crawled : Files → Result Snapshot CrawlFault
crawled tree = files_of (with_files tree (Ok no_files) (files_met tree))

-- what a call made of the files taken, and its answer, are what was to be taken
abbrev pub IsStep : Result PartialSnapshot CrawlFault → PartialSnapshot → Result (Unit {0}) CrawlFault → Type 0
IsStep (Ok part) now result = (result ≡ Ok tt) × (now ≡ part)
IsStep (Err fault) now result = result ≡ Err fault

-- ---- what a snapshot keeps

-- the entry of a file of these bytes
abbrev pub entry_of : List ℕ → List ℕ → Entry
entry_of path bytes = if is_source path then Source bytes else Other

-- what the snapshot of a tree keeps at a path: the entry of its file, if a crawl meets it
abbrev pub entry_in : Files → List ℕ → Option Entry
entry_in tree path = if is_met path then option_map (entry_of path) (get tree path) else None
