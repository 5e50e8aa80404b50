-- Each state is bounded: its files and its numbered paths are among the first files and those that were changed.
use Rattle.std.proofs.Common.{inl, inr, ◌⊎◌, ◌≡◌, ◌≤◌, ◌<◌, ◌+◌, ◌-◌, ℕ, Bool, true, false, cond, List, [], ◌∷◌, ◌++◌, map, length, Option, Some, None, refl, ap, sym, subst, ◌∙◌, ◌==◌, if◌then◌else◌, append_assoc, arith, length-append}
use Rattle.std.specs.List.{list_all, slice_get, IsDistinct}
use Rattle.std.specs.Option.{IfSome, is_some, option_and_then}
use Rattle.std.specs.Str.{bytes_eq}
use Rattle.std.specs.Ordering.{nat_cmp, eq_by_cmp}
use Rattle.std.specs.Cmp.Lexicographic.{slice_cmp, nat_list_cmp_total}
use Rattle.std.specs.FinMap.{contains_key, contains_key-keys, get, keys, len, len-entries, get-insert, get-remove}
use Rattle.std.proofs.lemmas.Bool.{false≢true, eqb-false}
use Rattle.std.proofs.lemmas.Cmp.{nat_list_eq_equiv}
use Rattle.std.proofs.lemmas.List.{map-append, length-map}
use Rattle.std.proofs.lemmas.Map.Made.{length-le_from_is_member}
use Rattle.mt_files.specs.Asks.{Ask}
use Rattle.mt_files.specs.Changes.{path_of, stepped}
use Rattle.mt_files.specs.Reach.{reach}
use Rattle.mt_files.specs.Snapshots.{Snapshot}
use Rattle.mt_files.specs.declared.change.Change.{Change}
use Rattle.mt_files.specs.declared.change.Change.TheVariants.{Put, Del}
use Rattle.mt_files.specs.declared.file_map.Entry.{Entry}
use Rattle.mt_files.proofs.PathLists.{Has, append_left, append_right, has_head, has_key}
use Rattle.mt_io.proofs.Children.{tied_is}
use Rattle.mt_revision.specs.Numberings.{has_path}
use Rattle.mt_revision.specs.Revisions.{next_number}
use Rattle.mt_revision.specs.declared.revision.Revision.{Revision}
use Rattle.mt_revision.proofs.Extensions.{extended_member}
use Rattle.mt_revision.proofs.Contents.{all_from}
use Rattle.metro_program.specs.declared.state.NextBuild.{NextBuild}
use Rattle.metro_program.specs.States.{IsBounded, IsLatest, State, opened}
use Rattle.metro_program.specs.Builds.{IsNext, number_at, numbering_after, same_number, with_build}
use Rattle.metro_program.specs.Commands.{with_change}

-- ---- known paths

-- one of the first files, or of those that were changed
abbrev pub Known : List (List ℕ) → List Change → List ℕ → Type 0
Known first journal path = Has (first ++ map path_of journal) path

one_more : (first : List (List ℕ)) (journal : List Change) (change : Change) → first ++ map path_of (journal ++ change ∷ []) ≡ (first ++ map path_of journal) ++ path_of change ∷ []
one_more first journal change = ap (λ z. first ++ z) (map-append path_of journal (change ∷ [])) ∙ sym (append_assoc first (map path_of journal) (path_of change ∷ []))

known_more : (first : List (List ℕ)) (journal : List Change) (change : Change) (path : List ℕ) → Known first journal path → Known first (journal ++ change ∷ []) path
known_more first journal change path h = subst (λ z. Has z path) (sym (one_more first journal change)) (append_left (first ++ map path_of journal) (path_of change ∷ []) path h)

known_last : (first : List (List ℕ)) (journal : List Change) (change : Change) → Known first (journal ++ change ∷ []) (path_of change)
known_last first journal change = subst (λ z. Has z (path_of change)) (sym (one_more first journal change)) (append_right (first ++ map path_of journal) (path_of change ∷ []) (path_of change) (has_head (path_of change) []))

-- ---- files

put_by : (files : Snapshot) (key path : List ℕ) (entry : Entry) (b : Bool) → eq_by_cmp (slice_cmp nat_cmp) path key ≡ b → is_some (cond b (Some entry) (get files path)) ≡ true → (is_some (get files path) ≡ true) ⊎ (path ≡ key)
put_by files key path entry true e h = inr (tied_is path key e)
put_by files key path entry false e h = inl h

del_by : (files : Snapshot) (path : List ℕ) (b : Bool) → is_some (cond b None (get files path)) ≡ true → is_some (get files path) ≡ true
del_by files path true h = absurd (cc)
del_by files path false h = h

-- a file of a changed snapshot was there, or is the one that was changed
stepped_has : (files : Snapshot) (change : Change) (path : List ℕ) → contains_key (stepped files change) path ≡ true → (contains_key files path ≡ true) ⊎ (path ≡ path_of change)
stepped_has files (Put key entry) path h =
    put_by files key path entry (eq_by_cmp (slice_cmp nat_cmp) path key) refl (ap is_some (sym (get-insert nat_list_cmp_total files key entry path)) ∙ h)
stepped_has files (Del key) path h =
    inl (del_by files path (eq_by_cmp (slice_cmp nat_cmp) path key) (ap is_some (sym (get-remove nat_list_cmp_total files key path)) ∙ h))

-- ---- states

none_distinct : IsDistinct bytes_eq []
unfolding IsDistinct
none_distinct = tt

-- the state before the first build is bounded
pub bounded_opened : (ask : Ask) (files : Snapshot) → len files ≤ 262144 → IsBounded (opened ask files)
bounded_opened ask files few = record {
  first = keys files;
  few = let n : length (keys files) ≡ len files = length-map _ _ ∙ sym (len-entries files) in omega (arith, n, few);
  files = λ path h. append_left (keys files) [] path (sym (has_key path (keys files)) ∙ sym (contains_key-keys files path) ∙ h);
  numbered = λ path h. absurd (false≢true h);
  distinct = none_distinct;
  latest = tt;
}

abbrev logged_more : State → Change → State
logged_more s change = record { ask = s.ask; files = s.files; journal = s.journal ++ change ∷ []; numbering = s.numbering; latest = s.latest; refusal = s.refusal }

latest_more : (s : State) (change : Change) (latest : Option Revision) → IfSome latest (IsLatest s) → IfSome latest (IsLatest (logged_more s change))
latest_more s change None h = tt
latest_more s change (Some r) h =
    let n = length-append s.journal (change ∷ []) in
    let few = h.changes in
    record { dev = h.dev; number = h.number; changes = omega (arith, n, few) }

-- so it is once a change is in the journal
pub bounded_logged : (s : State) (change : Change) → IsBounded s → IsBounded (logged_more s change)
bounded_logged s change b = record {
  first = b.first;
  few = b.few;
  files = λ path h. known_more b.first s.journal change path (b.files path h);
  numbered = λ path h. known_more b.first s.journal change path (b.numbered path h);
  distinct = b.distinct;
  latest = latest_more s change s.latest b.latest;
}

latest_changed : (s : State) (change : Change) (latest : Option Revision) → IfSome latest (IsLatest s) → IfSome latest (IsLatest (with_change s change))
latest_changed s change None h = tt
latest_changed s change (Some r) h =
    let n = length-append s.journal (change ∷ []) in
    let few = h.changes in
    record { dev = h.dev; number = h.number; changes = omega (arith, n, few) }

-- and once the files have it
pub bounded_changed : (s : State) (change : Change) → IsBounded s → IsBounded (with_change s change)
bounded_changed s change b = record {
  first = b.first;
  few = b.few;
  files = λ path h. elim (stepped_has s.files change path h) [
    | inl old ↦ known_more b.first s.journal change path (b.files path old)
    | inr same ↦ subst (Known b.first (s.journal ++ change ∷ [])) (sym same) (known_last b.first s.journal change)
  ];
  numbered = λ path h. known_more b.first s.journal change path (b.numbered path h);
  distinct = b.distinct;
  latest = latest_changed s change s.latest b.latest;
}

-- ---- how much there is

-- distinct paths that are known are so many
pub few_known : (first : List (List ℕ)) (journal : List Change) (paths : List (List ℕ)) → length first ≤ 262144 → length journal ≤ 65536 → IsDistinct bytes_eq paths → ((path : List ℕ) → has_path paths path ≡ true → Known first journal path) → length paths ≤ 327680
few_known first journal paths few changes distinct known =
    let all = length-le_from_is_member nat_list_eq_equiv paths (first ++ map path_of journal) distinct known in
    let both = length-append first (map path_of journal) in
    let each : length (map path_of journal) ≡ length journal = length-map _ _ in
    omega (arith, few, changes, all, both, each)

-- the numbered paths of a state are so many
pub few_numbered : (s : State) → IsBounded s → length s.journal ≤ 65536 → length s.numbering ≤ 327680
few_numbered s b few = few_known b.first s.journal s.numbering b.few few b.distinct b.numbered

by_test : (n : ℕ) (t : Bool) → (if t then Some n else None) ≡ None → t ≡ false
by_test n true e = absurd (cc)
by_test n false e = refl

uncounted : (r : Revision) (count : ℕ) → number_at count r ≡ None → r.changes ≡ count → ⊥
uncounted r count e = eqb-false r.changes count (by_test r.number (r.changes == count) e)

next_number_few : (s : State) (latest : Option Revision) → IfSome latest (IsLatest s) → option_and_then (number_at (length s.journal)) latest ≡ None → next_number latest ≤ length s.journal + 1
next_number_few s None h new = omega arith
next_number_few s (Some r) h new = let n = h.number in let c = h.changes in let k = uncounted r (length s.journal) new in omega (arith, n, c, k)

-- ---- the latest revision

-- the latest revision has a number that leaves room for more
pub latest_number : (s : State) (latest : Option Revision) → IfSome latest (IsLatest s) → length s.journal ≤ 65536 → IfSome latest (λ r. r.number < 4294967295)
latest_number s None h few = tt
latest_number s (Some r) h few = let n = h.number in let c = h.changes in omega (arith, n, c, few)

pub latest_dev : (s : State) (latest : Option Revision) → IfSome latest (IsLatest s) → IfSome latest (λ r. r.dev ≡ s.ask.options.dev)
latest_dev s None h = tt
latest_dev s (Some r) h = h.dev

-- ---- builds

-- each module that is reached has a number after a build
pub all_numbered : (s : State) → list_all (has_path (numbering_after s)) (reach s.ask s.files) ≡ true
all_numbered s = all_from (has_path (numbering_after s)) (reach s.ask s.files) (λ q h. extended_member s.numbering s.ask.entries (reach s.ask s.files) q h)

-- ---- a state after each call

-- a new one
pub bounded_new : (ask : Ask) (files : Snapshot) (journal : List Change) (numbering : List (List ℕ)) → len files ≤ 262144 → journal ≡ [] → numbering ≡ [] → IsBounded (record { ask = ask; files = files; journal = journal; numbering = numbering; latest = None; refusal = None })
bounded_new ask files journal numbering few j n =
    subst (λ x. IsBounded (record { ask = ask; files = files; journal = x; numbering = numbering; latest = None; refusal = None })) (sym j)
    (subst (λ x. IsBounded (record { ask = ask; files = files; journal = []; numbering = x; latest = None; refusal = None })) (sym n) (bounded_opened ask files few))

-- with a change in its journal, and with it in its files
pub bounded_push : (s : State) (change : Change) (files : Snapshot) (journal : List Change) → IsBounded s → journal ≡ s.journal ++ change ∷ [] → (files ≡ s.files) ⊎ (files ≡ stepped s.files change)
    → IsBounded (record { ask = s.ask; files = files; journal = journal; numbering = s.numbering; latest = s.latest; refusal = s.refusal })
bounded_push s change files journal b j (inl f) =
    subst (λ x. IsBounded (record { ask = s.ask; files = x; journal = journal; numbering = s.numbering; latest = s.latest; refusal = s.refusal })) (sym f)
    (subst (λ x. IsBounded (record { ask = s.ask; files = s.files; journal = x; numbering = s.numbering; latest = s.latest; refusal = s.refusal })) (sym j) (bounded_logged s change b))
bounded_push s change files journal b j (inr f) =
    subst (λ x. IsBounded (record { ask = s.ask; files = x; journal = journal; numbering = s.numbering; latest = s.latest; refusal = s.refusal })) (sym f)
    (subst (λ x. IsBounded (record { ask = s.ask; files = stepped s.files change; journal = x; numbering = s.numbering; latest = s.latest; refusal = s.refusal })) (sym j) (bounded_changed s change b))

at_end : (xs : List Change) (x : Change) → slice_get (xs ++ x ∷ []) (length xs) ≡ Some x
at_end [] x = refl
at_end (y ∷ xs) x = at_end xs x

-- the change that was pushed is the last one
pub last_pushed : (xs journal : List Change) (x y : Change) → journal ≡ xs ++ x ∷ [] → Some y ≡ slice_get journal (length journal - 1) → y ≡ x
last_pushed xs journal x y is last =
    let n : length journal - 1 ≡ length xs = let both = length-append xs (x ∷ []) in let all : length journal ≡ length (xs ++ x ∷ []) = ap length is in omega (arith, both, all) in
    let k : Some y ≡ Some x = last ∙ ap (slice_get journal) n ∙ ap (λ z. slice_get z (length xs)) is ∙ at_end xs x in
    cc

-- with a build
pub bounded_accept : (s : State) (build : NextBuild) → IsBounded s → IsNext s build → same_number s ≡ None → IsBounded (with_build s build)
bounded_accept s build b next new =
    let few = next_number_few s s.latest b.latest new in
    let number = next.made.number in
    let changes = next.changes in
    record {
      first = b.first;
      few = b.few;
      files = b.files;
      numbered = λ path h. elim (next.numbered path h) [
        | inl old ↦ b.numbered path old
        | inr file ↦ b.files path file
      ];
      distinct = next.distinct;
      latest = record { dev = next.dev; number = omega (arith, few, number, changes); changes = omega (arith, changes) };
    }
