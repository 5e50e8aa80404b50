-- Files are taken by the bytes that are read of them, and the answer is that of each tree that has these bytes.
use Rattle.std.proofs.Common.{inl, inr, ◌⊎◌, ◌≡◌, ◌≢◌, ◌<◌, ◌≤◌, ◌∙◌, ℕ, Bool, true, false, cond, List, [], ◌∷◌, map, filter, Option, Some, None, is_some, refl, sym, ap, subst}
use Rattle.std.specs.Prelude.{Result, Ok, Err, IfOk, IfSome, OnOk}
use Rattle.std.specs.List.{AllByRecursion, Contains, list_any}
use Rattle.std.specs.List.Sorted.{IsStrictlySortedBy}
use Rattle.std.specs.Option.{unwrap_or}
use Rattle.std.specs.Ordering.{nat_cmp, eq_by_cmp, is_eq}
use Rattle.std.specs.declared.cmp.Ordering.TheVariants.{Less}
use Rattle.std.specs.Cmp.Lexicographic.{slice_cmp, nat_list_cmp_total}
use Rattle.std.specs.FinMap.{contains_key, contains_key-keys, empty, from_entries, get, get-empty, get-from_entries, get-insert, insert, keys, len}
use Rattle.std.specs.Str.{bytes_eq}
use Rattle.std.proofs.lemmas.Bool.{cases_Bool, false≢true}
use Rattle.std.proofs.lemmas.Map.Text.{is_eq-slice_cmp}
use Rattle.mt_containers.proofs.Members.{contains_cases, contains_head, contains_none, contains_tail}
use Rattle.mt_path.specs.Names.{is_source}
use Rattle.mt_io.specs.Files.{Files}
use Rattle.mt_io.specs.Seen.{Seen, Tells}
use Rattle.mt_io.specs.declared.folder.Named.{Named}
use Rattle.mt_containers.proofs.Tables.{entries_table, keys_sorted}
use Rattle.mt_files.specs.declared.file_map.Entry.{Entry}
use Rattle.mt_files.specs.declared.file_map.Entry.TheVariants.{Source, Other}
use Rattle.mt_files.specs.declared.fault.CrawlFault.{CrawlFault}
use Rattle.mt_files.specs.declared.fault.CrawlFault.TheVariants.{Failed, NoMemory, TooManyFiles}
use Rattle.mt_files.specs.declared.crawler.PartialSnapshot.{PartialSnapshot}
use Rattle.mt_files.specs.PathSets.{Paths}
use Rattle.mt_files.specs.Snapshots.{Snapshot, source_at, source_of}
use Rattle.mt_files.specs.Search.{files_met, is_met}
use Rattle.mt_files.specs.Crawl.{IsStep, crawled, files_of, max_files, no_files, with_file, with_files, with_other, with_source}
use Rattle.mt_files.specs.CrawlReads.{HasRead, IsReadOf, IsTaken}
use Rattle.mt_files.specs.Listings.{IsDescribed, IsListed}
use Rattle.mt_files.proofs.PathLists.{contains_has, has_key, has_self, same_path}
use Rattle.mt_files.proofs.Ascending.{find_made}
use Rattle.mt_files.proofs.WithFiles.{fault_by, file_other, file_source, next_by, source_added, too_many}

-- ---- what an insertion leaves

get_by : {X : Type 0} (b : Bool) (x : X) (o : Option X) (y : X) → cond b (Some x) o ≡ Some y → ((b ≡ true) × (x ≡ y)) ⊎ ((b ≡ false) × (o ≡ Some y))
get_by true x o y h = inl (refl, cc)
get_by false x o y h = inr (refl, h)

-- what a map with one more value has at a path
get_cases : (read : Files) (path q bytes found : List ℕ) → get (insert read path bytes) q ≡ Some found → ((q ≡ path) × (bytes ≡ found)) ⊎ ((bytes_eq q path ≡ false) × (get read q ≡ Some found))
get_cases read path q bytes found h =
    elim (get_by (eq_by_cmp (slice_cmp nat_cmp) q path) bytes (get read q) found (sym (get-insert nat_list_cmp_total read path bytes q) ∙ h)) [
      | inl here ↦ inl (same_path q path (sym (is_eq-slice_cmp q path) ∙ here.0), here.1)
      | inr old ↦ inr (sym (is_eq-slice_cmp q path) ∙ old.0, old.1)
    ]

get_new : (read : Files) (path bytes : List ℕ) → get (insert read path bytes) path ≡ Some bytes
get_new read path bytes = get-insert nat_list_cmp_total read path bytes path ∙ ap (λ b. cond b (Some bytes) (get read path)) (is_eq-slice_cmp path path ∙ has_self path)

get_other : (read : Files) (path q bytes : List ℕ) → bytes_eq q path ≡ false → get (insert read path bytes) q ≡ get read q
get_other read path q bytes e = get-insert nat_list_cmp_total read path bytes q ∙ ap (λ b. cond b (Some bytes) (get read q)) (is_eq-slice_cmp q path ∙ e)

source_by : (b : Bool) (entry : Entry) (o : Option Entry) (bytes : List ℕ) → source_of (cond b (Some entry) o) ≡ Some bytes → ((b ≡ true) × (source_of (Some entry) ≡ Some bytes)) ⊎ (source_of o ≡ Some bytes)
source_by true entry o bytes h = inl (refl, h)
source_by false entry o bytes h = inr h

-- a source of a snapshot with one more file
source_cases : (files now : Snapshot) (path q : List ℕ) (entry : Entry) (bytes : List ℕ) → now ≡ insert files path entry → source_at now q ≡ Some bytes → ((q ≡ path) × (source_of (Some entry) ≡ Some bytes)) ⊎ (source_at files q ≡ Some bytes)
source_cases files now path q entry bytes is h =
    elim (source_by (eq_by_cmp (slice_cmp nat_cmp) q path) entry (get files q) bytes (sym (ap (λ m. source_of (get m q)) is ∙ ap source_of (get-insert nat_list_cmp_total files path entry q)) ∙ h)) [
      | inl here ↦ inl (same_path q path (sym (is_eq-slice_cmp q path) ∙ here.0), here.1)
      | inr old ↦ inr old
    ]

-- ---- one file

module _ (reads : List ℕ → List ℕ → Type 0) (seen : Seen Files) (path : List ℕ) (part : PartialSnapshot) where
  pub taken_many : max_files ≤ len part.files → IsTaken reads seen path part part (Err TooManyFiles)
  taken_many many = record { read = None; given = tt; told = λ tree tells. tt; step = λ tree has. rw (too_many tree part path many) refl; kept = tt }

  pub taken_other : (now : PartialSnapshot) → now ≡ with_other path part → len part.files < max_files → is_source path ≡ false → IsTaken reads seen path part now (Ok tt)
  taken_other now is few source = record {
    read = None;
    given = tt;
    told = λ tree tells. tt;
    step = λ tree has. rw (file_other tree part path few source) (refl, is);
    kept = λ q bytes h. elim (source_cases part.files now.files path q Other bytes (ap (λ (p : PartialSnapshot). p.files) is) h) [ inl here ↦ let e = here.1 in cc | inr old ↦ inl old ];
  }

  source_kept : (bytes : List ℕ) (now : PartialSnapshot) (result : Result (Unit {0}) CrawlFault) → IsStep (with_source path bytes part) now result → OnOk result ((q found : List ℕ) → source_at now.files q ≡ Some found → (source_at part.files q ≡ Some found) ⊎ ((q ≡ path) × (Some bytes ≡ Some found)))
  source_kept bytes now (Err fault) step = tt
  source_kept bytes now (Ok u) step = λ q found h. elim (source_cases part.files now.files path q (Source bytes) found (source_added path bytes part now step) h) [ inl here ↦ inr here | inr old ↦ inl old ]

  pub taken_source :
      (now : PartialSnapshot) (bytes : List ℕ) (result : Result (Unit {0}) CrawlFault) → len part.files < max_files → is_source path ≡ true → reads path bytes → ((tree : Files) → Tells seen tree → get tree path ≡ Some bytes)
      → IsStep (with_source path bytes part) now result → IsTaken reads seen path part now result
  taken_source now bytes result few source given told step = record {
    read = Some bytes;
    given = given;
    told = told;
    step = λ tree has. rw (file_source tree part path bytes few source has) step;
    kept = source_kept bytes now result step;
  }

-- an object that tells the same
pub taken_at : (reads : List ℕ → List ℕ → Type 0) (seen other : Seen Files) (path : List ℕ) (part now : PartialSnapshot) (result : Result (Unit {0}) CrawlFault) → other.told ≡ seen.told → IsTaken reads seen path part now result → IsTaken reads other path part now result
taken_at reads seen other path part now result same h = record { read = h.read; given = h.given; told = λ tree tells. h.told tree (sym same ∙ tells); step = h.step; kept = h.kept }

-- ---- all files

-- what was read so far of the files of a set, where these are left
pub record IsReading (reads : List ℕ → List ℕ → Type 0) (seen : Seen Files) (paths : Paths) (rest : List (List ℕ)) (part : PartialSnapshot) : Type 0 where
  pub read : Files
  pub given : (path bytes : List ℕ) → get read path ≡ Some bytes → reads path bytes
  pub told : (tree : Files) → Tells seen tree → HasRead tree read
  pub inside : (path : List ℕ) → contains_key read path ≡ true → contains_key paths path ≡ true
  pub unread : (path : List ℕ) → contains_key read path ≡ true → Contains rest path → ⊥
  pub left : (tree : Files) → HasRead tree read → with_files tree (Ok part) rest ≡ with_files tree (Ok no_files) (keys paths)
  pub kept : (path bytes : List ℕ) → source_at part.files path ≡ Some bytes → get read path ≡ Some bytes
  pub sorted : IsStrictlySortedBy (slice_cmp nat_cmp) rest
  pub known : (path : List ℕ) → Contains rest path → contains_key paths path ≡ true

no_value : {X : Type 0} (o : Option X) (x : X) → o ≡ None → o ≡ Some x → ⊥
no_value o x e f = cc

none_read : (path bytes : List ℕ) → get (empty {X = List ℕ} {R = slice_cmp nat_cmp}) path ≡ Some bytes → ⊥
none_read path bytes h = no_value (get empty path) bytes (get-empty {X = List ℕ} (slice_cmp nat_cmp) path) h

none_kept : (path bytes : List ℕ) → source_at no_files.files path ≡ Some bytes → ⊥
none_kept path bytes h = no_value (source_of (get no_files.files path)) bytes (ap source_of (get-empty {X = Entry} (slice_cmp nat_cmp) path)) h

in_set : (paths : Paths) (path : List ℕ) → Contains (keys paths) path → contains_key paths path ≡ true
in_set paths path h = contains_key-keys paths path ∙ has_key path (keys paths) ∙ contains_has (keys paths) path h

pub reading_start : (reads : List ℕ → List ℕ → Type 0) (seen : Seen Files) (paths : Paths) → IsReading reads seen paths (keys paths) no_files
reading_start reads seen paths = record {
  read = empty;
  given = λ path bytes h. absurd (none_read path bytes h);
  told = λ tree tells path bytes h. absurd (none_read path bytes h);
  inside = λ path h. absurd (false≢true (ap is_some (sym (get-empty {X = List ℕ} (slice_cmp nat_cmp) path)) ∙ h));
  unread = λ path h c. false≢true (ap is_some (sym (get-empty {X = List ℕ} (slice_cmp nat_cmp) path)) ∙ h);
  left = λ tree has. refl;
  kept = λ path bytes h. absurd (none_kept path bytes h);
  sorted = keys_sorted (slice_cmp nat_cmp) paths;
  known = in_set paths;
}

less_apart : (path : List ℕ) (rest : List (List ℕ)) → AllByRecursion (λ y. slice_cmp nat_cmp path y ≡ Less) rest → Contains rest path → ⊥
less_apart path [] h c = contains_none path c
less_apart path (q ∷ rest) h c =
    elim (contains_cases q path rest c) [
      | inl is ↦ false≢true (sym (ap is_eq (ap (slice_cmp nat_cmp path) (sym is) ∙ h.0)) ∙ is_eq-slice_cmp path path ∙ has_self path)
      | inr more ↦ less_apart path rest h.1 more
    ]

some_key : (read : Files) (q bytes : List ℕ) → get read q ≡ Some bytes → contains_key read q ≡ true
some_key read q bytes h = ap is_some h

-- what is read of a file, if anything is
abbrev with_read : Files → List ℕ → Option (List ℕ) → Files
with_read read path None = read
with_read read path (Some bytes) = insert read path bytes

module _ (reads : List ℕ → List ℕ → Type 0) (seen : Seen Files) (paths : Paths) (path : List ℕ) (rest : List (List ℕ)) (part : PartialSnapshot) (h : IsReading reads seen paths (path ∷ rest) part) where
  apart : contains_key h.read path ≡ true → ⊥
  apart has = h.unread path has (contains_head path rest)

  -- a tree that has what is read now had what was read before, and has what was read of the file
  had_read : (o : Option (List ℕ)) (tree : Files) → HasRead tree (with_read h.read path o) → HasRead tree h.read
  had_read None tree has = has
  had_read (Some bytes) tree has = λ q found e. elim (cases_Bool (bytes_eq q path)) [
    | inl same ↦ absurd (apart (subst (λ z. contains_key h.read z ≡ true) (same_path q path same) (some_key h.read q found e)))
    | inr other ↦ has q found (get_other h.read path q bytes other ∙ e)
  ]

  has_new : (o : Option (List ℕ)) (tree : Files) → HasRead tree (with_read h.read path o) → IfSome o (λ bytes. get tree path ≡ Some bytes)
  has_new None tree has = tt
  has_new (Some bytes) tree has = has path bytes (get_new h.read path bytes)

  given_now : (o : Option (List ℕ)) → IfSome o (reads path) → (q found : List ℕ) → get (with_read h.read path o) q ≡ Some found → reads q found
  given_now None g q found e = h.given q found e
  given_now (Some bytes) g q found e = elim (get_cases h.read path q bytes found e) [
    | inl here ↦ subst (λ z. reads z found) (sym here.0) (subst (reads path) here.1 g)
    | inr old ↦ h.given q found old.1
  ]

  told_now : (o : Option (List ℕ)) → ((tree : Files) → Tells seen tree → IfSome o (λ bytes. get tree path ≡ Some bytes)) → (tree : Files) → Tells seen tree → HasRead tree (with_read h.read path o)
  told_now None t tree tells = h.told tree tells
  told_now (Some bytes) t tree tells = λ q found e. elim (get_cases h.read path q bytes found e) [
    | inl here ↦ ap (get tree) here.0 ∙ t tree tells ∙ ap Some here.1
    | inr old ↦ h.told tree tells q found old.1
  ]

  read_cases : (o : Option (List ℕ)) (q : List ℕ) → contains_key (with_read h.read path o) q ≡ true → (q ≡ path) ⊎ (contains_key h.read q ≡ true)
  read_cases None q has = inr has
  read_cases (Some bytes) q has = elim (cases_Bool (bytes_eq q path)) [
    | inl same ↦ inl (same_path q path same)
    | inr other ↦ inr (ap is_some (sym (get_other h.read path q bytes other)) ∙ has)
  ]

  inside_now : (o : Option (List ℕ)) (q : List ℕ) → contains_key (with_read h.read path o) q ≡ true → contains_key paths q ≡ true
  inside_now o q has = elim (read_cases o q has) [ inl is ↦ subst (λ z. contains_key paths z ≡ true) (sym is) (h.known path (contains_head path rest)) | inr old ↦ h.inside q old ]

  ascends : AllByRecursion (λ y. slice_cmp nat_cmp path y ≡ Less) rest × IsStrictlySortedBy (slice_cmp nat_cmp) rest
  unfolding IsStrictlySortedBy
  ascends = h.sorted

  unread_now : (o : Option (List ℕ)) (q : List ℕ) → contains_key (with_read h.read path o) q ≡ true → Contains rest q → ⊥
  unread_now o q has c = elim (read_cases o q has) [
    | inl is ↦ less_apart path rest ascends.0 (subst (Contains rest) is c)
    | inr old ↦ h.unread q old (contains_tail path q rest c)
  ]

  kept_now :
      (o : Option (List ℕ)) (now : PartialSnapshot) → ((q bytes : List ℕ) → source_at now.files q ≡ Some bytes → (source_at part.files q ≡ Some bytes) ⊎ ((q ≡ path) × (o ≡ Some bytes)))
      → (q bytes : List ℕ) → source_at now.files q ≡ Some bytes → get (with_read h.read path o) q ≡ Some bytes
  kept_now None now k q bytes e = elim (k q bytes e) [ inl old ↦ h.kept q bytes old | inr new ↦ let f = new.1 in cc ]
  kept_now (Some found) now k q bytes e = elim (k q bytes e) [
    | inl old ↦ elim (cases_Bool (bytes_eq q path)) [
      | inl same ↦ absurd (apart (subst (λ z. contains_key h.read z ≡ true) (same_path q path same) (some_key h.read q bytes (h.kept q bytes old))))
      | inr other ↦ get_other h.read path q found other ∙ h.kept q bytes old
    ]
    | inr new ↦ ap (get (insert h.read path found)) new.0 ∙ get_new h.read path found ∙ new.1
  ]

  -- the file was taken
  pub reading_more : (now : PartialSnapshot) → IsTaken reads seen path part now (Ok tt) → IsReading reads seen paths rest now
  reading_more now t = record {
    read = with_read h.read path t.read;
    given = given_now t.read t.given;
    told = told_now t.read t.told;
    inside = inside_now t.read;
    unread = unread_now t.read;
    left = λ tree has. sym (next_by tree part now path rest (with_file tree part path) refl (t.step tree (has_new t.read tree has))) ∙ h.left tree (had_read t.read tree has);
    kept = kept_now t.read now t.kept;
    sorted = ascends.1;
    known = λ q c. h.known q (contains_tail path q rest c);
  }

  -- or it meets a limit
  pub reading_fault : (now : PartialSnapshot) (fault : CrawlFault) → IsTaken reads seen path part now (Err fault) → IsReadOf reads seen paths (Err fault)
  reading_fault now fault t = record {
    read = with_read h.read path t.read;
    given = given_now t.read t.given;
    told = told_now t.read t.told;
    inside = inside_now t.read;
    made = λ tree has. ap files_of (sym (fault_by tree part now path rest fault (with_file tree part path) refl (t.step tree (has_new t.read tree has))) ∙ h.left tree (had_read t.read tree has));
    kept = tt;
  }

pub reading_done : (reads : List ℕ → List ℕ → Type 0) (seen : Seen Files) (paths : Paths) (part : PartialSnapshot) → IsReading reads seen paths [] part → IsReadOf reads seen paths (Ok part.files)
reading_done reads seen paths part h = record {
  read = h.read;
  given = h.given;
  told = h.told;
  inside = h.inside;
  made = λ tree has. ap files_of (h.left tree has);
  kept = h.kept;
}

-- ---- the tree that the answers describe

-- the files that were found, with the bytes that were read of them
abbrev pub described_tree : Paths → Files → Files
described_tree paths read = from_entries (map (λ path. (path, unwrap_or (get read path) [])) (keys paths))

pairs_keys : (f : List ℕ → List ℕ) (xs : List (List ℕ)) → map (λ (e : List ℕ × List ℕ). e.0) (map (λ p. (p, f p)) xs) ≡ xs
pairs_keys f [] = refl
pairs_keys f (x ∷ xs) = ap (λ z. x ∷ z) (pairs_keys f xs)

all_kept : (t : List ℕ → Bool) (xs : List (List ℕ)) → ((q : List ℕ) → Contains xs q → t q ≡ true) → filter t xs ≡ xs
all_kept t [] h = refl
all_kept t (x ∷ xs) h = ap (λ b. cond b (x ∷ filter t xs) (filter t xs)) (h x (contains_head x xs)) ∙ ap (λ z. x ∷ z) (all_kept t xs (λ q c. h q (contains_tail x q xs c)))

read_by : (o : Option (List ℕ)) (b : Bool) (bytes : List ℕ) → cond b (Some (unwrap_or o [])) None ≡ Some bytes → bytes ≢ [] → o ≡ Some bytes
read_by o false bytes h some = cc
read_by None true bytes h some = absurd (some (let e : [] ≡ bytes = cc in sym e))
read_by (Some found) true bytes h some = let e : found ≡ bytes = cc in ap Some e

module _ (lists : List ℕ → List Named → Type 0) (reads : List ℕ → List ℕ → Type 0) (seen : Seen Files) (paths : Paths) (result : Result Snapshot CrawlFault) (h : IsReadOf reads seen paths result) where
  abbrev tree : Files
  tree = described_tree paths h.read

  bytes_of : List ℕ → List ℕ
  bytes_of path = unwrap_or (get h.read path) []

  tree_get : (q : List ℕ) → get tree q ≡ cond (list_any (bytes_eq q) (keys paths)) (Some (unwrap_or (get h.read q) [])) None
  tree_get q = get-from_entries nat_list_cmp_total (map (λ path. (path, unwrap_or (get h.read path) [])) (keys paths)) q ∙ find_made (λ path. unwrap_or (get h.read path) []) (keys paths) q

  tree_keys : keys tree ≡ keys paths
  tree_keys =
      ap (map (λ e. e.0)) (entries_table (map (λ path. (path, unwrap_or (get h.read path) [])) (keys paths)) (subst (IsStrictlySortedBy (slice_cmp nat_cmp)) (sym (pairs_keys (λ path. unwrap_or (get h.read path) []) (keys paths))) (keys_sorted (slice_cmp nat_cmp) paths)))
      ∙ pairs_keys (λ path. unwrap_or (get h.read path) []) (keys paths)

  tree_has : (q : List ℕ) → contains_key tree q ≡ contains_key paths q
  tree_has q = contains_key-keys tree q ∙ ap (list_any (eq_by_cmp (slice_cmp nat_cmp) q)) tree_keys ∙ sym (contains_key-keys paths q)

  in_keys : (q : List ℕ) → contains_key paths q ≡ true → list_any (bytes_eq q) (keys paths) ≡ true
  in_keys q has = sym (has_key q (keys paths)) ∙ sym (contains_key-keys paths q) ∙ has

  tree_read : HasRead tree h.read
  tree_read q bytes e =
      tree_get q
      ∙ ap (λ b. cond b (Some (unwrap_or (get h.read q) [])) None) (in_keys q (h.inside q (some_key h.read q bytes e)))
      ∙ ap (λ o. Some (unwrap_or o [])) e

  pub described : IsListed lists (contains_key paths) [] → IsDescribed lists reads tree
  described l = record {
    files = record {
      listings = l.listings;
      answered = l.answered;
      listed = l.listed;
      named = λ path. (λ has. (l.named path).0 (sym (tree_has path) ∙ has), λ c. tree_has path ∙ (l.named path).1 c);
    };
    read = λ path bytes e some. h.given path bytes (read_by (get h.read path) (list_any (bytes_eq path) (keys paths)) bytes (sym (tree_get path) ∙ e) some);
  }

  met_keys : ((path : List ℕ) → contains_key paths path ≡ true → is_met path ≡ true) → files_met tree ≡ keys paths
  met_keys met = ap (filter is_met) tree_keys ∙ all_kept is_met (keys paths) (λ q c. met q (in_set paths q c))

  pub described_made : ((path : List ℕ) → contains_key paths path ≡ true → is_met path ≡ true) → result ≡ crawled tree
  described_made met = h.made tree tree_read ∙ ap (λ ks. files_of (with_files tree (Ok no_files) ks)) (sym (met_keys met))

-- ---- the answers of calls

-- two errors are one, at results of any type
abbrev pub SameErr : Type 0 → CrawlFault → CrawlFault → Type 0
SameErr T one other = ◌≡◌ {A = Result T CrawlFault} (Err one) (Err other)

err_at : (T U : Type 0) (one other : CrawlFault) → SameErr T one other → SameErr U one other
err_at T U one other h = let k : one ≡ other = cc in ap Err k

-- a call that ended with an error ends its caller
pub fault_ends :
    (fault : CrawlFault) (X Y : Type 0) → (X → Y) → SameErr (Unit {0}) fault NoMemory ⊎ (SameErr (Unit {0}) fault Failed ⊎ X)
    → SameErr Snapshot fault NoMemory ⊎ (SameErr Snapshot fault Failed ⊎ Y)
fault_ends fault X Y f (inl e) = inl (err_at (Unit {0}) Snapshot fault NoMemory e)
fault_ends fault X Y f (inr (inl e)) = inr (inl (err_at (Unit {0}) Snapshot fault Failed e))
fault_ends fault X Y f (inr (inr x)) = inr (inr (f x))

-- the sources of a snapshot were read
pub read_sources :
    (reads : List ℕ → List ℕ → Type 0) (seen : Seen Files) (paths : Paths) (result : Result Snapshot CrawlFault)
    → (result ≡ Err NoMemory) ⊎ ((result ≡ Err Failed) ⊎ IsReadOf reads seen paths result)
    → IfOk result (λ files. (path bytes : List ℕ) → source_at files path ≡ Some bytes → reads path bytes)
read_sources reads seen paths (Err fault) h = tt
read_sources reads seen paths (Ok files) (inl e) = cc
read_sources reads seen paths (Ok files) (inr (inl e)) = cc
read_sources reads seen paths (Ok files) (inr (inr r)) = λ path bytes e. r.given path bytes (r.kept path bytes e)
