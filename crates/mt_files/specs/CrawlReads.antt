-- What a crawl takes by the bytes that it reads.
use Rattle.std.specs.Prelude.{◌⊎◌, ◌≡◌, ℕ, true, List, Option, Some, Result, Ok, IfOk, IfSome, OnOk}
use Rattle.std.specs.FinMap.{contains_key, get, keys}
use Rattle.mt_io.specs.Files.{Files}
use Rattle.mt_io.specs.Seen.{Seen, Tells}
use Rattle.mt_files.specs.declared.crawler.PartialSnapshot.{PartialSnapshot}
use Rattle.mt_files.specs.declared.fault.CrawlFault.{CrawlFault}
use Rattle.mt_files.specs.PathSets.{Paths}
use Rattle.mt_files.specs.Snapshots.{Snapshot, source_at}
use Rattle.mt_files.specs.Crawl.{IsStep, files_of, no_files, with_file, with_files}

-- a tree has the bytes that were read
abbrev pub HasRead : Files → Files → Type 0
HasRead tree read = (path bytes : List ℕ) → get read path ≡ Some bytes → get tree path ≡ Some bytes

-- one file was taken, by the bytes that were read of it, if any were
pub record IsTaken (reads : List ℕ → List ℕ → Type 0) (seen : Seen Files) (path : List ℕ) (before after : PartialSnapshot) (result : Result (Unit {0}) CrawlFault) : Type 0 where
  pub read : Option (List ℕ)
  pub given : IfSome read (reads path)
  pub told : (tree : Files) → Tells seen tree → IfSome read (λ bytes. get tree path ≡ Some bytes)
  pub step : (tree : Files) → IfSome read (λ bytes. get tree path ≡ Some bytes) → IsStep (with_file tree before path) after result
  pub kept : OnOk result ((other bytes : List ℕ) → source_at after.files other ≡ Some bytes → (source_at before.files other ≡ Some bytes) ⊎ ((other ≡ path) × (read ≡ Some bytes)))

-- files were taken up to the first limit, by the bytes that were read of them
pub record IsReadOf (reads : List ℕ → List ℕ → Type 0) (seen : Seen Files) (paths : Paths) (result : Result Snapshot CrawlFault) : Type 0 where
  pub read : Files
  pub given : (path bytes : List ℕ) → get read path ≡ Some bytes → reads path bytes
  pub told : (tree : Files) → Tells seen tree → HasRead tree read
  pub inside : (path : List ℕ) → contains_key read path ≡ true → contains_key paths path ≡ true
  pub made : (tree : Files) → HasRead tree read → result ≡ files_of (with_files tree (Ok no_files) (keys paths))
  pub kept : IfOk result (λ files. (path bytes : List ℕ) → source_at files path ≡ Some bytes → get read path ≡ Some bytes)
