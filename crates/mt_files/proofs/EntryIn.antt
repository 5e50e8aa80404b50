-- What the snapshot of a tree keeps at each path.
use Rattle.std.proofs.Common.{◌≡◌, ◌+◌, ◌∙◌, ◌&&◌, ◌||◌, ℕ, Bool, true, false, cond, List, [], ◌∷◌, length, filter, Option, Some, None, refl, sym, ap, nat_lt, is_some}
use Rattle.std.specs.Prelude.{Result, Ok, Err}
use Rattle.std.specs.List.{list_any}
use Rattle.std.specs.Option.{option_map, unwrap_or}
use Rattle.std.specs.Ordering.{nat_cmp, eq_by_cmp}
use Rattle.std.specs.Cmp.Lexicographic.{slice_cmp, nat_list_cmp_total}
use Rattle.std.specs.FinMap.{contains_key-keys, empty, get, get-empty, get-insert, insert, keys, len}
use Rattle.mt_tokens.specs.Sources.{max_source_bytes}
use Rattle.mt_path.specs.Names.{is_source}
use Rattle.mt_io.specs.Files.{Files}
use Rattle.mt_io.proofs.Children.{tied_is}
use Rattle.mt_files.specs.declared.file_map.Entry.{Entry}
use Rattle.mt_files.specs.declared.file_map.Entry.TheVariants.{Source, Other}
use Rattle.mt_files.specs.declared.fault.CrawlFault.{CrawlFault}
use Rattle.mt_files.specs.declared.fault.CrawlFault.TheVariants.{FileTooLarge, TooManyFiles, TooManyBytes}
use Rattle.mt_files.specs.declared.crawler.PartialSnapshot.{PartialSnapshot}
use Rattle.mt_files.specs.Snapshots.{Snapshot}
use Rattle.mt_files.specs.Search.{is_met, files_met}
use Rattle.mt_files.specs.Crawl.{crawled, entry_in, entry_of, files_of, max_files, max_folder_bytes, no_files, with_file, with_files, with_source}
use Rattle.mt_files.proofs.WithFiles.{fault_stays}

abbrev ties : List ℕ → List ℕ → Bool
ties a b = eq_by_cmp (slice_cmp nat_cmp) a b

-- the entry of the tree's file, or of no bytes
abbrev entry_at : Files → List ℕ → Entry
entry_at tree path = entry_of path (unwrap_or (get tree path) [])

-- ---- one file

Adds : Files → List ℕ → PartialSnapshot → PartialSnapshot → Type 0
Adds tree path t now = (q : List ℕ) → get now.files q ≡ cond (ties q path) (Some (entry_at tree path)) (get t.files q)

source_adds :
    (path bytes : List ℕ) (t now : PartialSnapshot) (large much : Bool)
    → cond large (Err (FileTooLarge path (length bytes))) (cond much (Err TooManyBytes) (Ok (record { files = insert t.files path (Source bytes); bytes = t.bytes + length bytes }))) ≡ Ok now
    → now.files ≡ insert t.files path (Source bytes)
source_adds path bytes t now true much h = cc
source_adds path bytes t now false true h = cc
source_adds path bytes t now false false h =
    let e : now ≡ record { files = insert t.files path (Source bytes); bytes = t.bytes + length bytes } = cc in ap (λ (x : PartialSnapshot). x.files) e

file_adds :
    (tree : Files) (path : List ℕ) (t now : PartialSnapshot) (few source : Bool)
    → cond few (cond source (with_source path (unwrap_or (get tree path) []) t) (Ok (record { files = insert t.files path Other; bytes = t.bytes }))) (Err TooManyFiles) ≡ Ok now
    → now.files ≡ insert t.files path (cond source (Source (unwrap_or (get tree path) [])) Other)
file_adds tree path t now false source h = cc
file_adds tree path t now true true h = source_adds path (unwrap_or (get tree path) []) t now (nat_lt max_source_bytes (length (unwrap_or (get tree path) []))) (nat_lt max_folder_bytes (t.bytes + length (unwrap_or (get tree path) []))) h
file_adds tree path t now true false h =
    let e : now ≡ record { files = insert t.files path Other; bytes = t.bytes } = cc in ap (λ (x : PartialSnapshot). x.files) e

adds : (tree : Files) (path : List ℕ) (t now : PartialSnapshot) → with_file tree t path ≡ Ok now → Adds tree path t now
unfolding Adds
adds tree path t now h q =
    ap (λ m. get m q) (file_adds tree path t now (nat_lt (len t.files) max_files) (is_source path) h) ∙ get-insert nat_list_cmp_total t.files path (entry_at tree path) q

-- ---- all files

either : (a b : Bool) (x y : Option Entry) → cond a x (cond b x y) ≡ cond (b || a) x y
either true true x y = refl
either true false x y = refl
either false true x y = refl
either false false x y = refl

same_entry : (tree : Files) (q path : List ℕ) (b : Bool) (y : Option Entry) → ties q path ≡ b → cond b (Some (entry_at tree path)) y ≡ cond b (Some (entry_at tree q)) y
same_entry tree q path true y e = ap (λ p. Some (entry_at tree p)) (sym (tied_is q path e))
same_entry tree q path false y e = refl

step_add : (tree : Files) (path : List ℕ) (t now : PartialSnapshot) (q : List ℕ) → with_file tree t path ≡ Ok now → get now.files q ≡ cond (ties q path) (Some (entry_at tree q)) (get t.files q)
unfolding Adds
step_add tree path t now q h = adds tree path t now h q ∙ same_entry tree q path (ties q path) (get t.files q) refl

all_add : (tree : Files) (paths : List (List ℕ)) (t now : PartialSnapshot) → with_files tree (Ok t) paths ≡ Ok now → (q : List ℕ) → get now.files q ≡ cond (list_any (ties q) paths) (Some (entry_at tree q)) (get t.files q)
all_add tree [] t now h q = let e : t ≡ now = cc in ap (λ (x : PartialSnapshot). get x.files q) (sym e)
all_add tree (path ∷ paths) t now h q =
    elim (with_file tree t path) as (λ r. with_file tree t path ≡ r → with_files tree r paths ≡ Ok now → get now.files q ≡ cond (ties q path || list_any (ties q) paths) (Some (entry_at tree q)) (get t.files q)) [
      | Ok next ↦ λ e k.
          all_add tree paths next now k q
          ∙ ap (cond (list_any (ties q) paths) (Some (entry_at tree q))) (step_add tree path t next q e)
          ∙ either (list_any (ties q) paths) (ties q path) (Some (entry_at tree q)) (get t.files q)
      | Err fault ↦ λ e k. let f = fault_stays tree fault paths in cc
    ] refl h

-- ---- the files that are met

any_by : (w : List ℕ → Bool) (q k : List ℕ) (a b : Bool) (rest : Bool) (ks : List (List ℕ)) → ties q k ≡ a → w k ≡ b → list_any (ties q) (filter w ks) ≡ (w q && rest) → list_any (ties q) (cond b (k ∷ filter w ks) (filter w ks)) ≡ (w q && (a || rest))
any_by w q k true true rest ks e f h = let is = tied_is q k e in rw (e, is, f) refl
any_by w q k true false rest ks e f h = let is = tied_is q k e in let g : w q ≡ false = ap w is ∙ f in rw (h, g) refl
any_by w q k false true rest ks e f h = rw e h
any_by w q k false false rest ks e f h = h

and_false : (b : Bool) → false ≡ (b && false)
and_false true = refl
and_false false = refl

any_met : (w : List ℕ → Bool) (q : List ℕ) (ks : List (List ℕ)) → list_any (ties q) (filter w ks) ≡ (w q && list_any (ties q) ks)
any_met w q [] = and_false (w q)
any_met w q (k ∷ ks) = any_by w q k (ties q k) (w k) (list_any (ties q) ks) ks refl refl (any_met w q ks)

kept_by : (w : Bool) (q : List ℕ) (o : Option (List ℕ)) → cond (w && is_some o) (Some (entry_of q (unwrap_or o []))) None ≡ cond w (option_map (entry_of q) o) None
kept_by true q None = refl
kept_by true q (Some bytes) = refl
kept_by false q o = refl

files_are : (r : Result PartialSnapshot CrawlFault) (files : Snapshot) → files_of r ≡ Ok files → (now : PartialSnapshot) × (r ≡ Ok now) × (files ≡ now.files)
files_are (Ok now) files h = (now, refl, cc)
files_are (Err fault) files h = cc

pub kept : (tree : Files) (files : Snapshot) → crawled tree ≡ Ok files → (path : List ℕ) → get files path ≡ entry_in tree path
kept tree files h path =
    let f = files_are (with_files tree (Ok no_files) (files_met tree)) files h in
    let none : get (empty {X = Entry} {R = slice_cmp nat_cmp}) path ≡ None = get-empty {X = Entry} (slice_cmp nat_cmp) path in
    let any : list_any (ties path) (files_met tree) ≡ (is_met path && is_some (get tree path)) = any_met is_met path (keys tree) ∙ ap (λ b. is_met path && b) (sym (contains_key-keys tree path)) in
    ap (λ m. get m path) f.2
    ∙ all_add tree (files_met tree) no_files f.0 f.1 path
    ∙ ap (cond (list_any (ties path) (files_met tree)) (Some (entry_at tree path))) none
    ∙ ap (λ b. cond b (Some (entry_at tree path)) None) any
    ∙ kept_by (is_met path) path (get tree path)
