-- Files are taken one after another, up to the first limit.
use Rattle.std.proofs.Common.{◌≡◌, ◌<◌, ◌≤◌, ◌+◌, ◌∙◌, arith, ℕ, Bool, true, false, cond, List, [], ◌∷◌, ◌++◌, length, Some, refl, sym, ap, nat_lt}
use Rattle.std.specs.Prelude.{Result, Ok, Err}
use Rattle.std.specs.Ordering.{nat_cmp}
use Rattle.std.specs.Cmp.Lexicographic.{slice_cmp, nat_list_cmp_total}
use Rattle.std.specs.FinMap.{contains_key, get, insert, len, len-empty, len-insert}
use Rattle.mt_path.specs.Names.{is_source}
use Rattle.mt_tokens.specs.Sources.{max_source_bytes}
use Rattle.mt_io.specs.Files.{Files}
use Rattle.mt_files.specs.declared.file_map.Entry.{Entry}
use Rattle.mt_files.specs.declared.file_map.Entry.TheVariants.{Source}
use Rattle.mt_files.specs.declared.fault.CrawlFault.{CrawlFault}
use Rattle.mt_files.specs.declared.fault.CrawlFault.TheVariants.{FileTooLarge, TooManyFiles, TooManyBytes}
use Rattle.mt_files.specs.declared.crawler.PartialSnapshot.{PartialSnapshot}
use Rattle.mt_files.specs.Snapshots.{Snapshot}
use Rattle.mt_files.specs.Crawl.{IsStep, bytes_at, max_files, max_folder_bytes, no_files, with_file, with_files, with_other, with_source}

pub fault_stays : (tree : Files) (fault : CrawlFault) (paths : List (List ℕ)) → with_files tree (Err fault) paths ≡ Err fault
fault_stays tree fault [] = refl
fault_stays tree fault (path ∷ paths) = fault_stays tree fault paths

-- ---- one file

pub source_large : (path bytes : List ℕ) (part : PartialSnapshot) → max_source_bytes < length bytes → with_source path bytes part ≡ Err (FileTooLarge path (length bytes))
source_large path bytes part h = let e : nat_lt max_source_bytes (length bytes) ≡ true = grind arith in rw e refl

pub sources_large : (path bytes : List ℕ) (part : PartialSnapshot) → length bytes ≤ max_source_bytes → max_folder_bytes < part.bytes + length bytes → with_source path bytes part ≡ Err TooManyBytes
sources_large path bytes part h k =
    let e : nat_lt max_source_bytes (length bytes) ≡ false = grind arith in
    let f : nat_lt max_folder_bytes (part.bytes + length bytes) ≡ true = grind arith in
    rw (e, f) refl

pub source_taken :
    (path bytes : List ℕ) (part : PartialSnapshot) → length bytes ≤ max_source_bytes → part.bytes + length bytes ≤ max_folder_bytes
    → with_source path bytes part ≡ Ok (record { files = insert part.files path (Source bytes); bytes = part.bytes + length bytes })
source_taken path bytes part h k =
    let e : nat_lt max_source_bytes (length bytes) ≡ false = grind arith in
    let f : nat_lt max_folder_bytes (part.bytes + length bytes) ≡ false = grind arith in
    rw (e, f) refl

source_by :
    (path bytes : List ℕ) (part now : PartialSnapshot) (result : Result (Unit {0}) CrawlFault) (large much : Bool)
    → IsStep (cond large (Err (FileTooLarge path (length bytes))) (cond much (Err TooManyBytes) (Ok (record { files = insert part.files path (Source bytes); bytes = part.bytes + length bytes })))) now (Ok tt)
    → now.files ≡ insert part.files path (Source bytes)
source_by path bytes part now result true much h = cc
source_by path bytes part now result false true h = cc
source_by path bytes part now result false false h = ap (λ (p : PartialSnapshot). p.files) h.1

-- what a source that was taken leaves
pub source_added : (path bytes : List ℕ) (part now : PartialSnapshot) → IsStep (with_source path bytes part) now (Ok tt) → now.files ≡ insert part.files path (Source bytes)
source_added path bytes part now h = source_by path bytes part now (Ok tt) (nat_lt max_source_bytes (length bytes)) (nat_lt max_folder_bytes (part.bytes + length bytes)) h

pub too_many : (tree : Files) (part : PartialSnapshot) (path : List ℕ) → max_files ≤ len part.files → with_file tree part path ≡ Err TooManyFiles
too_many tree part path h = let e : nat_lt (len part.files) max_files ≡ false = grind arith in rw e refl

pub file_source_at : (tree : Files) (part : PartialSnapshot) (path : List ℕ) → len part.files < max_files → is_source path ≡ true → with_file tree part path ≡ with_source path (bytes_at tree path) part
file_source_at tree part path h source = let e : nat_lt (len part.files) max_files ≡ true = grind arith in rw (e, source) refl

pub file_source : (tree : Files) (part : PartialSnapshot) (path bytes : List ℕ) → len part.files < max_files → is_source path ≡ true → get tree path ≡ Some bytes → with_file tree part path ≡ with_source path bytes part
file_source tree part path bytes h source told =
    let e : nat_lt (len part.files) max_files ≡ true = grind arith in rw (e, source, told) refl

pub file_other : (tree : Files) (part : PartialSnapshot) (path : List ℕ) → len part.files < max_files → is_source path ≡ false → with_file tree part path ≡ Ok (with_other path part)
file_other tree part path h source = let e : nat_lt (len part.files) max_files ≡ true = grind arith in rw (e, source) refl

-- ---- how many there are

more_by : (n : ℕ) (b : Bool) → n < max_files → cond b n (n + 1) ≤ max_files
more_by n true h = omega arith
more_by n false h = omega arith

-- one more file is not too many
pub few_more : (files now : Snapshot) (path : List ℕ) (entry : Entry) → now ≡ insert files path entry → len files < max_files → len now ≤ max_files
few_more files now path entry is few = rw (is, len-insert nat_list_cmp_total files path entry) (more_by (len files) (contains_key files path) few)

pub few_none : (now : Snapshot) → now ≡ no_files.files → len now ≤ max_files
few_none now is = let e = len-empty (slice_cmp nat_cmp) Entry in rw is (omega arith)

-- ---- all files

-- a file that is taken leaves the others
pub next_by : (tree : Files) (part now : PartialSnapshot) (path : List ℕ) (paths : List (List ℕ)) (r : Result PartialSnapshot CrawlFault) → r ≡ with_file tree part path → IsStep r now (Ok tt) → with_files tree (Ok part) (path ∷ paths) ≡ with_files tree (Ok now) paths
next_by tree part now path paths (Ok t) e h = ap (λ x. with_files tree x paths) (sym e ∙ ap Ok (sym h.1))
next_by tree part now path paths (Err fault) e h = cc

-- a file that meets a limit ends the walk
pub fault_by : (tree : Files) (part now : PartialSnapshot) (path : List ℕ) (paths : List (List ℕ)) (fault : CrawlFault) (r : Result PartialSnapshot CrawlFault) → r ≡ with_file tree part path → IsStep r now (Err fault) → with_files tree (Ok part) (path ∷ paths) ≡ Err fault
fault_by tree part now path paths fault (Ok t) e h = let k = h.0 in cc
fault_by tree part now path paths fault (Err found) e h = ap (λ x. with_files tree x paths) (sym e) ∙ fault_stays tree found paths ∙ (let k : found ≡ fault = cc in ap Err k)

-- files are taken, and then more of them
pub with_files-append : (tree : Files) (part : Result PartialSnapshot CrawlFault) (xs ys : List (List ℕ)) → with_files tree part (xs ++ ys) ≡ with_files tree (with_files tree part xs) ys
with_files-append tree part [] ys = refl
with_files-append tree (Ok part) (x ∷ xs) ys = with_files-append tree (with_file tree part x) xs ys
with_files-append tree (Err fault) (x ∷ xs) ys = with_files-append tree (Err fault) xs ys
