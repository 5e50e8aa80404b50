-- Files are taken up to the first limit that they meet.
use Rattle.std.proofs.Common.{inl, inr, ◌⊎◌, ◌≡◌, ◌≤◌, ◌<◌, ◌+◌, ◌∙◌, ◌||◌, ℕ, Bool, true, false, cond, suc, Option, Some, List, [], ◌∷◌, ◌++◌, length, refl, sym, ap, subst, nat_lt, arith, append_assoc, append-nil, length-append}
use Rattle.std.specs.Prelude.{Result, Ok, Err}
use Rattle.std.specs.List.{AllByRecursion, list_any}
use Rattle.std.specs.List.Sorted.{IsStrictlySortedBy}
use Rattle.std.specs.Ordering.{nat_cmp, eq_by_cmp, is_eq}
use Rattle.std.specs.declared.cmp.Ordering.TheVariants.{Less}
use Rattle.std.specs.Cmp.Lexicographic.{slice_cmp, nat_list_cmp_total}
use Rattle.std.specs.FinMap.{contains_key, get, get-empty, get-insert, insert, len, len-empty, len-insert}
use Rattle.std.specs.Option.{is_some}
use Rattle.std.specs.Str.{bytes_eq}
use Rattle.std.proofs.lemmas.Bool.{cases_Bool, false≢true}
use Rattle.std.proofs.lemmas.List.Elements.{All-contains, All-nil, All-push, Contains-append_right}
use Rattle.std.proofs.lemmas.List.Folds.{list_any-append}
use Rattle.std.proofs.lemmas.List.Sums.{sum_by-append, sum_by-cons, sum_by_push}
use Rattle.std.proofs.lemmas.Map.Text.{is_eq-slice_cmp}
use Rattle.mt_containers.proofs.Members.{contains_head}
use Rattle.mt_path.specs.Names.{is_source}
use Rattle.mt_tokens.specs.Sources.{max_source_bytes}
use Rattle.mt_io.specs.Files.{Files}
use Rattle.mt_containers.proofs.Tables.{keys_sorted}
use Rattle.mt_files.specs.declared.file_map.Entry.{Entry}
use Rattle.mt_files.specs.declared.file_map.Entry.TheVariants.{Source, Other}
use Rattle.mt_files.specs.declared.fault.CrawlFault.{CrawlFault}
use Rattle.mt_files.specs.declared.fault.CrawlFault.TheVariants.{Failed, FileTooLarge, NoMemory, TooManyBytes, TooManyFiles}
use Rattle.mt_files.specs.declared.crawler.PartialSnapshot.{PartialSnapshot}
use Rattle.mt_files.specs.Snapshots.{Snapshot}
use Rattle.mt_files.specs.Search.{files_met, is_met}
use Rattle.mt_files.specs.Crawl.{bytes_at, crawled, files_of, max_files, max_folder_bytes, no_files, with_file, with_files, with_other}
use Rattle.mt_files.specs.Limits.{IsWithinLimits, MeetsFirst, MeetsLimit, read_len, total_len}
use Rattle.mt_files.proofs.PathLists.{has_self, same_path}
use Rattle.mt_files.proofs.WithFiles.{fault_stays, file_other, file_source_at, source_large, source_taken, sources_large, too_many, with_files-append}
use Rattle.std.specs.FinMap.{keys}
use Rattle.std.proofs.lemmas.List.Kept.{IsStrictlySortedBy-filter}

-- ---- one file

record IsMany (tree : Files) (part : PartialSnapshot) (path : List ℕ) : Type 0 where
  answer : with_file tree part path ≡ Err TooManyFiles
  many : max_files ≤ len part.files

record IsLarge (tree : Files) (part : PartialSnapshot) (path : List ℕ) : Type 0 where
  answer : with_file tree part path ≡ Err (FileTooLarge path (read_len tree path))
  few : len part.files < max_files
  large : max_source_bytes < read_len tree path

record IsMuch (tree : Files) (part : PartialSnapshot) (path : List ℕ) : Type 0 where
  answer : with_file tree part path ≡ Err TooManyBytes
  few : len part.files < max_files
  small : read_len tree path ≤ max_source_bytes
  much : max_folder_bytes < part.bytes + read_len tree path

record IsAdded (tree : Files) (part : PartialSnapshot) (path : List ℕ) : Type 0 where
  now : PartialSnapshot
  entry : Entry
  answer : with_file tree part path ≡ Ok now
  files : now.files ≡ insert part.files path entry
  bytes : now.bytes ≡ part.bytes + read_len tree path
  few : len part.files < max_files
  small : read_len tree path ≤ max_source_bytes
  bounded : part.bytes + read_len tree path ≤ max_folder_bytes

module _ (tree : Files) (part : PartialSnapshot) (path : List ℕ) where
  source_len : is_source path ≡ true → read_len tree path ≡ length (bytes_at tree path)
  source_len source = rw source refl

  other_len : is_source path ≡ false → read_len tree path ≡ 0
  other_len source = rw source refl

  source_cases : len part.files < max_files → is_source path ≡ true → IsLarge tree part path ⊎ (IsMuch tree part path ⊎ IsAdded tree part path)
  source_cases few source =
      let is = source_len source in
      let at = file_source_at tree part path few source in
      elim (cases_Bool (nat_lt max_source_bytes (length (bytes_at tree path)))) [
        | inl large ↦
            let l : max_source_bytes < length (bytes_at tree path) = grind arith in
            inl (record { answer = at ∙ source_large path (bytes_at tree path) part l ∙ ap (λ n. Err (FileTooLarge path n)) (sym is); few = few; large = omega arith })
        | inr small ↦
            let s : length (bytes_at tree path) ≤ max_source_bytes = grind arith in
            elim (cases_Bool (nat_lt max_folder_bytes (part.bytes + length (bytes_at tree path)))) [
              | inl much ↦
                  let m : max_folder_bytes < part.bytes + length (bytes_at tree path) = grind arith in
                  inr (inl (record { answer = at ∙ sources_large path (bytes_at tree path) part s m; few = few; small = omega arith; much = omega arith }))
              | inr within ↦
                  let w : part.bytes + length (bytes_at tree path) ≤ max_folder_bytes = grind arith in
                  inr (inr (record {
                    now = record { files = insert part.files path (Source (bytes_at tree path)); bytes = part.bytes + length (bytes_at tree path) };
                    entry = Source (bytes_at tree path);
                    answer = at ∙ source_taken path (bytes_at tree path) part s w;
                    files = refl;
                    bytes = ap (λ n. part.bytes + n) (sym is);
                    few = few;
                    small = omega arith;
                    bounded = omega arith;
                  }))
            ]
      ]

  file_cases : part.bytes ≤ max_folder_bytes → IsMany tree part path ⊎ (IsLarge tree part path ⊎ (IsMuch tree part path ⊎ IsAdded tree part path))
  file_cases bounded =
      elim (cases_Bool (nat_lt (len part.files) max_files)) [
        | inr no_more ↦ let m : max_files ≤ len part.files = grind arith in inl (record { answer = too_many tree part path m; many = m })
        | inl some ↦
            let few : len part.files < max_files = grind arith in
            elim (cases_Bool (is_source path)) [
              | inl source ↦ inr (source_cases few source)
              | inr other ↦
                  let none = other_len other in
                  inr (inr (inr (record {
                    now = with_other path part;
                    entry = Other;
                    answer = file_other tree part path few other;
                    files = refl;
                    bytes = omega arith;
                    few = few;
                    small = omega arith;
                    bounded = omega arith;
                  })))
            ]
      ]

all_front : (P : List ℕ → Type 0) (xs ys : List (List ℕ)) → AllByRecursion P (xs ++ ys) → AllByRecursion P xs
all_front P [] ys h = tt
all_front P (x ∷ xs) ys h = (h.0, all_front P xs ys h.1)

-- ---- files taken so far

-- a snapshot is of these files alone
record IsOf (tree : Files) (before : List (List ℕ)) (part : PartialSnapshot) : Type 0 where
  count : len part.files ≡ length before
  total : part.bytes ≡ total_len tree before
  has : (q : List ℕ) → contains_key part.files q ≡ list_any (bytes_eq q) before

none_of : (tree : Files) → IsOf tree [] no_files
none_of tree = record { count = len-empty (slice_cmp nat_cmp) Entry; total = refl; has = λ q. ap is_some (get-empty {X = Entry} (slice_cmp nat_cmp) q) }

some_by : {X : Type 0} (b : Bool) (x : X) (o : Option X) → is_some (cond b (Some x) o) ≡ (b || is_some o)
some_by true x o = refl
some_by false x o = refl

turned : (a b : Bool) → (a || b) ≡ (b || (a || false))
turned true true = refl
turned true false = refl
turned false true = refl
turned false false = refl

new_len : (b : Bool) (n : ℕ) → b ≡ false → cond b n (n + 1) ≡ n + 1
new_len true n e = absurd (false≢true (sym e))
new_len false n e = refl

-- one more file is taken
one_more : (tree : Files) (before : List (List ℕ)) (part : PartialSnapshot) (path : List ℕ) (a : IsAdded tree part path) → IsOf tree before part → list_any (bytes_eq path) before ≡ false → IsOf tree (before ++ path ∷ []) a.now
one_more tree before part path a h fresh = record {
  count =
      ap len a.files
      ∙ len-insert nat_list_cmp_total part.files path a.entry
      ∙ new_len (contains_key part.files path) (len part.files) (h.has path ∙ fresh)
      ∙ ap (λ n. n + 1) h.count
      ∙ sym (length-append before (path ∷ []));
  total =
      a.bytes
      ∙ ap (λ n. n + read_len tree path) h.total
      ∙ sym (sum_by_push (read_len tree) before path);
  has = λ q.
      ap (λ m. is_some (get m q)) a.files
      ∙ ap is_some (get-insert nat_list_cmp_total part.files path a.entry q)
      ∙ some_by (eq_by_cmp (slice_cmp nat_cmp) q path) a.entry (get part.files q)
      ∙ ap (λ b. b || is_some (get part.files q)) (is_eq-slice_cmp q path)
      ∙ ap (λ b. bytes_eq q path || b) (h.has q)
      ∙ turned (bytes_eq q path) (list_any (bytes_eq q) before)
      ∙ sym (list_any-append (bytes_eq q) before (path ∷ []));
}

-- ---- ascending paths

all_before : (P : List ℕ → Type 0) (xs rest : List (List ℕ)) (path : List ℕ) → AllByRecursion P (xs ++ path ∷ rest) → P path
all_before P [] rest path h = h.0
all_before P (x ∷ xs) rest path h = all_before P xs rest path h.1

above_apart : (k path : List ℕ) → slice_cmp nat_cmp k path ≡ Less → bytes_eq path k ≡ false
above_apart k path h = elim (cases_Bool (bytes_eq path k)) [
  | inr e ↦ e
  | inl e ↦ absurd (false≢true (sym (ap is_eq (ap (slice_cmp nat_cmp k) (sym (same_path path k e)) ∙ h)) ∙ is_eq-slice_cmp k k ∙ has_self k))
]

-- a path is not among those before it
fresh_by : (before rest : List (List ℕ)) (path : List ℕ) → IsStrictlySortedBy (slice_cmp nat_cmp) (before ++ path ∷ rest) → list_any (bytes_eq path) before ≡ false
unfolding IsStrictlySortedBy
fresh_by [] rest path h = refl
fresh_by (k ∷ before) rest path h =
    ap (λ b. b || list_any (bytes_eq path) before) (above_apart k path (all_before (λ y. slice_cmp nat_cmp k y ≡ Less) before rest path h.0)) ∙ fresh_by before rest path h.1

-- ---- up to the first limit

abbrev Outcome : Files → List (List ℕ) → Result PartialSnapshot CrawlFault → Type 0
Outcome tree paths (Ok part) = IsWithinLimits tree paths
Outcome tree paths (Err fault) = MeetsFirst tree paths fault

within_more : (tree : Files) (before : List (List ℕ)) (part : PartialSnapshot) (path : List ℕ) → IsAdded tree part path → IsOf tree before part → IsWithinLimits tree before → IsWithinLimits tree (before ++ path ∷ [])
within_more tree before part path a h w =
    let few = a.few in
    let count = h.count in
    let total = h.total in
    let bounded = a.bounded in
    record {
      few = omega (arith, length-append before (path ∷ []));
      small = All-push (λ p. read_len tree p ≤ max_source_bytes) before path w.small a.small;
      bounded = omega (arith, sum_by_push (read_len tree) before path);
    }

ends_with : (tree : Files) (part : PartialSnapshot) (path : List ℕ) (rest : List (List ℕ)) (fault : CrawlFault) → with_file tree part path ≡ Err fault → with_files tree (Ok part) (path ∷ rest) ≡ Err fault
ends_with tree part path rest fault e = ap (λ r. with_files tree r rest) e ∙ fault_stays tree fault rest

met_first :
    (tree : Files) (before : List (List ℕ)) (path : List ℕ) (rest : List (List ℕ)) (part : PartialSnapshot) (fault : CrawlFault) → IsWithinLimits tree before → MeetsLimit tree before path fault → with_file tree part path ≡ Err fault
    → Outcome tree (before ++ path ∷ rest) (with_files tree (Ok part) (path ∷ rest))
met_first tree before path rest part fault w met e =
    subst (Outcome tree (before ++ path ∷ rest)) (sym (ends_with tree part path rest fault e)) (record { before = before; path = path; after = rest; order = refl; within = w; met = met })

-- what is taken of files after others
limits_from :
    (tree : Files) (before rest : List (List ℕ)) (part : PartialSnapshot) → IsOf tree before part → IsStrictlySortedBy (slice_cmp nat_cmp) (before ++ rest) → IsWithinLimits tree before
    → Outcome tree (before ++ rest) (with_files tree (Ok part) rest)
limits_from tree before [] part h sorted w = subst (IsWithinLimits tree) (sym (append-nil before)) w
limits_from tree before (path ∷ rest) part h sorted w =
    let count = h.count in
    let total = h.total in
    let few = w.few in
    let bounded = w.bounded in
    let within : part.bytes ≤ max_folder_bytes = omega arith in
    elim (file_cases tree part path within) [
      | inl m ↦ let many = m.many in let all : length before ≡ max_files = omega arith in met_first tree before path rest part TooManyFiles w all m.answer
      | inr (inl l) ↦ let some = l.few in let room : length before < max_files = omega arith in met_first tree before path rest part (FileTooLarge path (read_len tree path)) w (room, refl, refl, l.large) l.answer
      | inr (inr (inl m)) ↦
          let some = m.few in
          let much = m.much in
          let room : length before < max_files = omega arith in
          let over : max_folder_bytes < total_len tree before + read_len tree path = omega arith in
          met_first tree before path rest part TooManyBytes w (room, m.small, over) m.answer
      | inr (inr (inr a)) ↦
          let order : (before ++ path ∷ []) ++ rest ≡ before ++ path ∷ rest = append_assoc before (path ∷ []) rest in
          let more =
          limits_from tree (before ++ path ∷ []) rest a.now (one_more tree before part path a h (fresh_by before rest path sorted)) (subst (IsStrictlySortedBy (slice_cmp nat_cmp)) (sym order) sorted) (within_more tree before part path a h w) in
          subst (λ ps. Outcome tree ps (with_files tree (Ok part) (path ∷ rest))) order (subst (λ r. Outcome tree ((before ++ path ∷ []) ++ rest) (with_files tree r rest)) (sym a.answer) more)
    ]

-- ---- files within the limits are taken

IsAllTaken : Files → List (List ℕ) → Result PartialSnapshot CrawlFault → Type 0
IsAllTaken tree paths r = (now : PartialSnapshot) × (r ≡ Ok now) × IsOf tree paths now

all_taken :
    (tree : Files) (before rest : List (List ℕ)) (part : PartialSnapshot) → IsOf tree before part → IsStrictlySortedBy (slice_cmp nat_cmp) (before ++ rest) → IsWithinLimits tree (before ++ rest)
    → IsAllTaken tree (before ++ rest) (with_files tree (Ok part) rest)
unfolding IsAllTaken
all_taken tree before [] part h sorted w = (part, refl, subst (λ ps. IsOf tree ps part) (sym (append-nil before)) h)
all_taken tree before (path ∷ rest) part h sorted w =
    let count = h.count in
    let total = h.total in
    let few : length before + suc (length rest) ≤ max_files = omega (arith, length-append before (path ∷ rest), w.few) in
    let sums : total_len tree before + (read_len tree path + total_len tree rest) ≤ max_folder_bytes = omega (arith, sum_by-append (read_len tree) before (path ∷ rest), sum_by-cons (read_len tree) path rest, w.bounded) in
    let within : part.bytes ≤ max_folder_bytes = omega arith in
    let small : read_len tree path ≤ max_source_bytes = All-contains (λ p. read_len tree p ≤ max_source_bytes) (before ++ path ∷ rest) path w.small (Contains-append_right before (path ∷ rest) path (contains_head path rest)) in
    elim (file_cases tree part path within) [
      | inl m ↦ let many = m.many in absurd (omega arith)
      | inr (inl l) ↦ let large = l.large in absurd (omega arith)
      | inr (inr (inl m)) ↦ let much = m.much in absurd (omega arith)
      | inr (inr (inr a)) ↦
          let order : (before ++ path ∷ []) ++ rest ≡ before ++ path ∷ rest = append_assoc before (path ∷ []) rest in
          let more =
          all_taken tree (before ++ path ∷ []) rest a.now (one_more tree before part path a h (fresh_by before rest path sorted)) (subst (IsStrictlySortedBy (slice_cmp nat_cmp)) (sym order) sorted) (subst (IsWithinLimits tree) (sym order) w) in
          (more.0, ap (λ r. with_files tree r rest) a.answer ∙ more.1, subst (λ ps. IsOf tree ps more.0) order more.2)
    ]

-- a file meets its limit
met_answer :
    (tree : Files) (before : List (List ℕ)) (path : List ℕ) (part : PartialSnapshot) (fault : CrawlFault) → IsOf tree before part → IsWithinLimits tree before → MeetsLimit tree before path fault
    → with_file tree part path ≡ Err fault
met_answer tree before path part TooManyFiles h w met = let count = h.count in too_many tree part path (omega arith)
met_answer tree before path part (FileTooLarge large size) h w met =
    let count = h.count in
    let total = h.total in
    let room = met.0 in
    let over = met.3 in
    let bounded = w.bounded in
    let within : part.bytes ≤ max_folder_bytes = omega arith in
    elim (file_cases tree part path within) [
      | inl m ↦ let many = m.many in absurd (omega arith)
      | inr (inl l) ↦ l.answer ∙ ap (λ p. Err (FileTooLarge p (read_len tree path))) (sym met.1) ∙ ap (λ n. Err (FileTooLarge large n)) (sym met.2)
      | inr (inr (inl m)) ↦ let small = m.small in absurd (omega arith)
      | inr (inr (inr a)) ↦ let small = a.small in absurd (omega arith)
    ]
met_answer tree before path part TooManyBytes h w met =
    let count = h.count in
    let total = h.total in
    let room = met.0 in
    let small = met.1 in
    let over = met.2 in
    let bounded = w.bounded in
    let within : part.bytes ≤ max_folder_bytes = omega arith in
    elim (file_cases tree part path within) [
      | inl m ↦ let many = m.many in absurd (omega arith)
      | inr (inl l) ↦ let large = l.large in absurd (omega arith)
      | inr (inr (inl m)) ↦ m.answer
      | inr (inr (inr a)) ↦ let fits = a.bounded in absurd (omega arith)
    ]
met_answer tree before path part Failed h w met = absurd met
met_answer tree before path part NoMemory h w met = absurd met

-- ---- the files that a crawl meets

met_sorted : (tree : Files) → IsStrictlySortedBy (slice_cmp nat_cmp) (files_met tree)
met_sorted tree = IsStrictlySortedBy-filter (slice_cmp nat_cmp) is_met (keys tree) (keys_sorted (slice_cmp nat_cmp) tree)

none_within : (tree : Files) → IsWithinLimits tree []
none_within tree = record { few = omega arith; small = All-nil (λ p. read_len tree p ≤ max_source_bytes); bounded = omega arith }

outcome : (tree : Files) → Outcome tree (files_met tree) (with_files tree (Ok no_files) (files_met tree))
outcome tree = limits_from tree [] (files_met tree) no_files (none_of tree) (met_sorted tree) (none_within tree)

abbrev Answered : Files → List (List ℕ) → Result Snapshot CrawlFault → Type 0
Answered tree paths (Ok files) = IsWithinLimits tree paths
Answered tree paths (Err fault) = MeetsFirst tree paths fault

answered_by : (tree : Files) (paths : List (List ℕ)) (r : Result PartialSnapshot CrawlFault) → Outcome tree paths r → Answered tree paths (files_of r)
answered_by tree paths (Ok part) h = h
answered_by tree paths (Err fault) h = h

answered : (tree : Files) → Answered tree (files_met tree) (crawled tree)
answered tree = answered_by tree (files_met tree) (with_files tree (Ok no_files) (files_met tree)) (outcome tree)

pub limits_within : (tree : Files) (files : Snapshot) → crawled tree ≡ Ok files → IsWithinLimits tree (files_met tree)
limits_within tree files e = subst (Answered tree (files_met tree)) e (answered tree)

pub limits_first : (tree : Files) (fault : CrawlFault) → crawled tree ≡ Err fault → MeetsFirst tree (files_met tree) fault
limits_first tree fault e = subst (Answered tree (files_met tree)) e (answered tree)

pub limits_made : (tree : Files) → IsWithinLimits tree (files_met tree) → (files : Snapshot) × (crawled tree ≡ Ok files)
unfolding IsAllTaken
limits_made tree w = let t = all_taken tree [] (files_met tree) no_files (none_of tree) (met_sorted tree) w in (t.0.files, ap files_of t.1)

sorted_front : (xs ys : List (List ℕ)) → IsStrictlySortedBy (slice_cmp nat_cmp) (xs ++ ys) → IsStrictlySortedBy (slice_cmp nat_cmp) xs
unfolding IsStrictlySortedBy
sorted_front [] ys h = tt
sorted_front (x ∷ xs) ys h = (all_front (λ y. slice_cmp nat_cmp x y ≡ Less) xs ys h.0, sorted_front xs ys h.1)

pub limits_refused : (tree : Files) (fault : CrawlFault) → MeetsFirst tree (files_met tree) fault → crawled tree ≡ Err fault
unfolding IsAllTaken
limits_refused tree fault m =
    let front = sorted_front m.before (m.path ∷ m.after) (subst (IsStrictlySortedBy (slice_cmp nat_cmp)) (sym m.order) (met_sorted tree)) in
    let t = all_taken tree [] m.before no_files (none_of tree) front m.within in
    ap files_of (
    ap (with_files tree (Ok no_files)) (sym m.order)
    ∙ with_files-append tree (Ok no_files) m.before (m.path ∷ m.after)
    ∙ ap (λ r. with_files tree r (m.path ∷ m.after)) t.1
    ∙ ends_with tree t.0 m.path m.after fault (met_answer tree m.before m.path t.0 fault t.2 m.within m.met)
    )
