-- Where a crawl meets its limits.
use Rattle.std.specs.Prelude.{ℕ, List, ◌∷◌, ◌++◌, ◌≡◌, ◌≤◌, ◌<◌, ◌+◌, length, if◌then◌else◌}
use Rattle.std.specs.List.{All, sum_by}
use Rattle.mt_path.specs.Names.{is_source}
use Rattle.mt_tokens.specs.Sources.{max_source_bytes}
use Rattle.mt_io.specs.Files.{Files}
use Rattle.mt_files.specs.declared.fault.CrawlFault.{CrawlFault}
use Rattle.mt_files.specs.declared.fault.CrawlFault.TheVariants.{Failed, FileTooLarge, NoMemory, TooManyBytes, TooManyFiles}
use Rattle.mt_files.specs.Crawl.{bytes_at, max_files, max_folder_bytes}

-- how many bytes a crawl reads of a file: none where it is no source
abbrev pub read_len : Files → List ℕ → ℕ
read_len tree path = if is_source path then length (bytes_at tree path) else 0

-- how many bytes it reads of files
abbrev pub total_len : Files → List (List ℕ) → ℕ
total_len tree paths = sum_by (read_len tree) paths

-- files that meet no limit
pub record IsWithinLimits (tree : Files) (paths : List (List ℕ)) : Type 0 where
  pub few : length paths ≤ max_files
  pub small : All (λ path. read_len tree path ≤ max_source_bytes) paths
  pub bounded : total_len tree paths ≤ max_folder_bytes

-- the limit that one more file meets: there are as many as there may be, or else it is too large, or else all are
abbrev pub MeetsLimit : Files → List (List ℕ) → List ℕ → CrawlFault → Type 0
MeetsLimit tree before path TooManyFiles = length before ≡ max_files
MeetsLimit tree before path (FileTooLarge large size) = (length before < max_files) × (large ≡ path) × (size ≡ read_len tree path) × (max_source_bytes < read_len tree path)
MeetsLimit tree before path TooManyBytes = (length before < max_files) × (read_len tree path ≤ max_source_bytes) × (max_folder_bytes < total_len tree before + read_len tree path)
MeetsLimit tree before path Failed = ⊥
MeetsLimit tree before path NoMemory = ⊥

-- the first limit that files meet in their order: those before meet none, and one more meets this one
pub record MeetsFirst (tree : Files) (paths : List (List ℕ)) (fault : CrawlFault) : Type 0 where
  pub before : List (List ℕ)
  pub path : List ℕ
  pub after : List (List ℕ)
  pub order : before ++ path ∷ after ≡ paths
  pub within : IsWithinLimits tree before
  pub met : MeetsLimit tree before path fault
