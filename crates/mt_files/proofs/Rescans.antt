-- The changes between two snapshots lead from the one to the other, none is too many, and no others do so.
use Rattle.std.proofs.Common.{inl, inr, ◌⊎◌, ◌≡◌, ◌||◌, ◌∙◌, ℕ, Bool, true, false, cond, List, [], ◌∷◌, ◌++◌, map, Option, Some, None, refl, sym, ap, subst, is_some, not}
use Rattle.std.specs.List.{All, AllByRecursion, cons_option, filter_map, list_any}
use Rattle.std.specs.List.Sorted.{IsStrictlySortedBy}
use Rattle.std.specs.Option.{option_eq}
use Rattle.std.specs.Ordering.{nat_cmp, eq_by_cmp, is_eq}
use Rattle.std.specs.declared.cmp.Ordering.TheVariants.{Less}
use Rattle.std.specs.Cmp.Lexicographic.{slice_cmp, nat_list_cmp_total}
use Rattle.std.specs.FinMap.{contains_key-keys, get, get-insert, get-remove, keys, same_map, slice_cmp-IsAntisymmetric, nat_cmp-IsAntisymmetric, from_entries}
use Rattle.std.specs.Str.{bytes_eq}
use Rattle.std.proofs.lemmas.List.Elements.{All-cons, All-nil, recursion_from_All}
use Rattle.std.proofs.lemmas.List.Folds.{list_any-append}
use Rattle.std.proofs.lemmas.Map.Text.{is_eq-slice_cmp}
use Rattle.mt_containers.proofs.Tables.{keys_sorted}
use Rattle.mt_files.specs.declared.file_map.Entry.{Entry}
use Rattle.mt_files.specs.declared.file_map.Entry.TheVariants.{Source, Other}
use Rattle.mt_files.specs.declared.change.Change.{Change}
use Rattle.mt_files.specs.Snapshots.{Snapshot}
use Rattle.mt_files.specs.Changes.{entry_after, path_of, stepped, stepped_by}
use Rattle.mt_files.specs.Fresh.{ascending}
use Rattle.std.specs.Prelude.{Result, Ok, Err}
use Rattle.mt_io.specs.Files.{Files}
use Rattle.mt_io.specs.declared.folder.Named.{Named}
use Rattle.mt_files.specs.declared.fault.CrawlFault.{CrawlFault}
use Rattle.mt_files.specs.declared.fault.CrawlFault.TheVariants.{Failed, NoMemory}
use Rattle.mt_files.specs.Crawl.{crawled}
use Rattle.mt_files.specs.Listings.{IsDescribed}
use Rattle.mt_files.specs.Rescans.{HasEffect, change_at, change_to, changes_between, changes_to, rescanned, same_entry}
use Rattle.mt_files.proofs.PathLists.{has_key, has_self, same_path}
use Rattle.mt_files.proofs.Ascending.{has_ascending, same_paths}
use Rattle.std.proofs.lemmas.Bool.{or_cases, false≢true}
use Rattle.mt_files.specs.declared.change.Change.TheVariants.{Put, Del}

-- ---- entries

same_entries : (a b : Entry) → same_entry a b ≡ true → a ≡ b
same_entries (Source a) (Source b) h = ap Source (same_path a b h)
same_entries Other Other h = refl
same_entries (Source a) Other h = cc
same_entries Other (Source b) h = cc

entry_itself : (a : Entry) → same_entry a a ≡ true
entry_itself (Source a) = has_self a
entry_itself Other = refl

pub kept_same : (a b : Option Entry) → option_eq same_entry a b ≡ true → a ≡ b
kept_same None None h = refl
kept_same (Some a) (Some b) h = ap Some (same_entries a b h)
kept_same None (Some b) h = cc
kept_same (Some a) None h = cc

pub kept_itself : (a : Option Entry) → option_eq same_entry a a ≡ true
kept_itself None = refl
kept_itself (Some a) = entry_itself a

-- ---- one change

after_change_to : (path : List ℕ) (kept : Option Entry) → entry_after (change_to path kept) ≡ kept
after_change_to path None = refl
after_change_to path (Some entry) = refl

path_change_to : (path : List ℕ) (kept : Option Entry) → path_of (change_to path kept) ≡ path
path_change_to path None = refl
path_change_to path (Some entry) = refl

get-change_to : (files : Snapshot) (path : List ℕ) (kept : Option Entry) (q : List ℕ) → get (stepped files (change_to path kept)) q ≡ cond (eq_by_cmp (slice_cmp nat_cmp) q path) kept (get files q)
get-change_to files path None q = get-remove nat_list_cmp_total files path q
get-change_to files path (Some entry) q = get-insert nat_list_cmp_total files path entry q

-- a snapshot once there is a change, or none
abbrev stepped_option : Snapshot → Option Change → Snapshot
stepped_option files None = files
stepped_option files (Some change) = stepped files change

stepped-cons_option : (files : Snapshot) (o : Option Change) (changes : List Change) → stepped_by files (cons_option o changes) ≡ stepped_by (stepped_option files o) changes
stepped-cons_option files None changes = refl
stepped-cons_option files (Some change) changes = refl

-- a snapshot keeps at a path what one of two snapshots keeps
Between : Snapshot → Snapshot → Snapshot → List ℕ → Type 0
Between old new files q = (get files q ≡ get old q) ⊎ (get files q ≡ get new q)

step_by :
    (old new files : Snapshot) (k q : List ℕ) (here same : Bool) → Between old new files q → bytes_eq q k ≡ here → option_eq same_entry (get old k) (get new k) ≡ same
    → get (stepped_option files (cond same None (Some (change_to k (get new k))))) q ≡ cond here (get new q) (get files q)
unfolding Between
step_by old new files k q true true (inl h) e f = let is = same_path q k e in h ∙ ap (get old) is ∙ kept_same (get old k) (get new k) f ∙ ap (get new) (sym is)
step_by old new files k q true true (inr h) e f = h
step_by old new files k q true false h e f = get-change_to files k (get new k) q ∙ ap (λ b. cond b (get new k) (get files q)) (is_eq-slice_cmp q k ∙ e) ∙ ap (get new) (sym (same_path q k e))
step_by old new files k q false true h e f = refl
step_by old new files k q false false h e f = get-change_to files k (get new k) q ∙ ap (λ b. cond b (get new k) (get files q)) (is_eq-slice_cmp q k ∙ e)

between_by : (old new files next : Snapshot) (q : List ℕ) (here : Bool) → Between old new files q → get next q ≡ cond here (get new q) (get files q) → Between old new next q
unfolding Between
between_by old new files next q true h e = inr e
between_by old new files next q false (inl h) e = inl (e ∙ h)
between_by old new files next q false (inr h) e = inr (e ∙ h)

-- ---- all changes

twice : (a b : Bool) (x y : Option Entry) → cond a x (cond b x y) ≡ cond (b || a) x y
twice true true x y = refl
twice true false x y = refl
twice false true x y = refl
twice false false x y = refl

all_steps :
    (old new files : Snapshot) (ks : List (List ℕ)) (q : List ℕ) → Between old new files q
    → get (stepped_by files (filter_map (change_at old new) ks)) q ≡ cond (list_any (bytes_eq q) ks) (get new q) (get files q)
all_steps old new files [] q h = refl
all_steps old new files (k ∷ ks) q h =
    let next = stepped_option files (change_at old new k) in
    let step : get next q ≡ cond (bytes_eq q k) (get new q) (get files q) = step_by old new files k q (bytes_eq q k) (option_eq same_entry (get old k) (get new k)) h refl refl in
    ap (λ m. get m q) (stepped-cons_option files (change_at old new k) (filter_map (change_at old new) ks))
    ∙ all_steps old new next ks q (between_by old new files next q (bytes_eq q k) h step)
    ∙ ap (cond (list_any (bytes_eq q) ks) (get new q)) step
    ∙ twice (list_any (bytes_eq q) ks) (bytes_eq q k) (get new q) (get files q)

here_by : (a b : Option Entry) → cond (is_some a || is_some b) b a ≡ b
here_by None None = refl
here_by None (Some y) = refl
here_by (Some x) b = refl

has_both : (old new : Snapshot) (q : List ℕ) → list_any (bytes_eq q) (ascending (keys old ++ keys new)) ≡ (is_some (get old q) || is_some (get new q))
has_both old new q =
    has_ascending (keys old ++ keys new) q
    ∙ list_any-append (bytes_eq q) (keys old) (keys new)
    ∙ ap (λ b. b || list_any (bytes_eq q) (keys new)) (sym (has_key q (keys old)) ∙ sym (contains_key-keys old q))
    ∙ ap (λ b. is_some (get old q) || b) (sym (has_key q (keys new)) ∙ sym (contains_key-keys new q))

from_old : (old new : Snapshot) (q : List ℕ) → Between old new old q
unfolding Between
from_old old new q = inl refl

pub changes_lead : (old new : Snapshot) → stepped_by old (changes_between old new) ≡ new
unfolding changes_between
changes_lead old new =
    same_map nat_list_cmp_total (slice_cmp-IsAntisymmetric nat_cmp-IsAntisymmetric) (stepped_by old (filter_map (change_at old new) (ascending (keys old ++ keys new)))) new
    (λ q.
    all_steps old new old (ascending (keys old ++ keys new)) q (from_old old new q)
    ∙ ap (λ b. cond b (get new q) (get old q)) (has_both old new q)
    ∙ here_by (get old q) (get new q))

-- ---- none from a snapshot to itself

none_by : (old : Snapshot) (k : List ℕ) → change_at old old k ≡ None
none_by old k = ap (λ b. cond b None (Some (change_to k (get old k)))) (kept_itself (get old k))

none_of : (old : Snapshot) (ks : List (List ℕ)) → filter_map (change_at old old) ks ≡ []
none_of old [] = refl
none_of old (k ∷ ks) = ap (λ o. cons_option o (filter_map (change_at old old) ks)) (none_by old k) ∙ none_of old ks

pub no_changes : (files : Snapshot) → changes_between files files ≡ []
unfolding changes_between
no_changes files = none_of files (ascending (keys files ++ keys files))

-- ---- each path once, ascending

below_all : (old new : Snapshot) (P : List ℕ → Type 0) (ks : List (List ℕ)) → AllByRecursion P ks → AllByRecursion P (map path_of (filter_map (change_at old new) ks))
below_all old new P [] h = tt
below_all old new P (k ∷ ks) h =
    elim (option_eq same_entry (get old k) (get new k)) as (λ b. AllByRecursion P (map path_of (cons_option (cond b None (Some (change_to k (get new k)))) (filter_map (change_at old new) ks)))) [
      | true ↦ below_all old new P ks h.1
      | false ↦ (subst P (sym (path_change_to k (get new k))) h.0, below_all old new P ks h.1)
    ]

ascend : (old new : Snapshot) (ks : List (List ℕ)) → IsStrictlySortedBy (slice_cmp nat_cmp) ks → IsStrictlySortedBy (slice_cmp nat_cmp) (map path_of (filter_map (change_at old new) ks))
unfolding IsStrictlySortedBy
ascend old new [] h = tt
ascend old new (k ∷ ks) h =
    elim (option_eq same_entry (get old k) (get new k)) as (λ b. IsStrictlySortedBy (slice_cmp nat_cmp) (map path_of (cons_option (cond b None (Some (change_to k (get new k)))) (filter_map (change_at old new) ks)))) [
      | true ↦ ascend old new ks h.1
      | false ↦ (
        subst (λ x. AllByRecursion (λ y. slice_cmp nat_cmp x y ≡ Less) (map path_of (filter_map (change_at old new) ks))) (sym (path_change_to k (get new k))) (below_all old new (λ y. slice_cmp nat_cmp k y ≡ Less) ks h.0),
        ascend old new ks h.1,
      )
    ]

pub changes_ascend : (old new : Snapshot) → IsStrictlySortedBy (slice_cmp nat_cmp) (map path_of (changes_between old new))
unfolding changes_between
changes_ascend old new = ascend old new (ascending (keys old ++ keys new)) (keys_sorted (slice_cmp nat_cmp) (from_entries {R = slice_cmp nat_cmp} (map (λ p. (p, p)) (keys old ++ keys new))))

-- ---- none without effect

differ : (old new : Snapshot) (k : List ℕ) → option_eq same_entry (get old k) (get new k) ≡ false → HasEffect old (change_to k (get new k))
differ old new k e same =
    let is : get new k ≡ get old k = sym (after_change_to k (get new k)) ∙ same ∙ ap (get old) (path_change_to k (get new k)) in
    let both : option_eq same_entry (get old k) (get new k) ≡ true = ap (option_eq same_entry (get old k)) is ∙ kept_itself (get old k) in
    cc

effects : (old new : Snapshot) (ks : List (List ℕ)) → All (HasEffect old) (filter_map (change_at old new) ks)
effects old new [] = All-nil (HasEffect old)
effects old new (k ∷ ks) =
    elim (option_eq same_entry (get old k) (get new k)) as (λ b. option_eq same_entry (get old k) (get new k) ≡ b → All (HasEffect old) (cons_option (cond b None (Some (change_to k (get new k)))) (filter_map (change_at old new) ks))) [
      | true ↦ λ e. effects old new ks
      | false ↦ λ e. All-cons (HasEffect old) (change_to k (get new k)) (filter_map (change_at old new) ks) (differ old new k e) (effects old new ks)
    ] refl

pub changes_matter : (old new : Snapshot) → All (HasEffect old) (changes_between old new)
unfolding changes_between
changes_matter old new = effects old new (ascending (keys old ++ keys new))

-- ---- how the changes are gathered

-- the changes at all paths of both snapshots, from none
pub gathered_start : (old new : Snapshot) (changes : List Change) (paths : List (List ℕ)) → changes ≡ [] → paths ≡ ascending (keys old ++ keys new) → changes ++ filter_map (change_at old new) paths ≡ changes_between old new
unfolding changes_between
gathered_start old new changes paths none all = ap (λ cs. cs ++ filter_map (change_at old new) paths) none ∙ ap (filter_map (change_at old new)) all

-- ---- no other changes

abbrev paths_of : List Change → List (List ℕ)
paths_of changes = map path_of changes

-- whether two snapshots keep the same at a path
abbrev agree : Snapshot → Snapshot → List ℕ → Bool
agree old new q = option_eq same_entry (get old q) (get new q)

made_again : (change : Change) → change_to (path_of change) (entry_after change) ≡ change
made_again (Put path entry) = refl
made_again (Del path) = refl

get-stepped : (files : Snapshot) (change : Change) (q : List ℕ) → get (stepped files change) q ≡ cond (bytes_eq q (path_of change)) (entry_after change) (get files q)
get-stepped files (Put path entry) q = get-insert nat_list_cmp_total files path entry q ∙ ap (λ b. cond b (Some entry) (get files q)) (is_eq-slice_cmp q path)
get-stepped files (Del path) q = get-remove nat_list_cmp_total files path q ∙ ap (λ b. cond b None (get files q)) (is_eq-slice_cmp q path)

-- ---- what changes leave

neither : (a b : Bool) → (a || b) ≡ false → (a ≡ false) × (b ≡ false)
neither true b h = cc
neither false b h = (refl, h)

untouched : (files : Snapshot) (changes : List Change) (q : List ℕ) → list_any (bytes_eq q) (paths_of changes) ≡ false → get (stepped_by files changes) q ≡ get files q
untouched files [] q h = refl
untouched files (c ∷ cs) q h =
    let p = neither (bytes_eq q (path_of c)) (list_any (bytes_eq q) (paths_of cs)) h in
    untouched (stepped files c) cs q p.1 ∙ get-stepped files c q ∙ ap (λ b. cond b (entry_after c) (get files q)) p.0

less_apart : (p q : List ℕ) → slice_cmp nat_cmp p q ≡ Less → bytes_eq p q ≡ false
less_apart p q h = sym (is_eq-slice_cmp p q) ∙ ap is_eq h

none_above : (p : List ℕ) (qs : List (List ℕ)) → AllByRecursion (λ q. slice_cmp nat_cmp p q ≡ Less) qs → list_any (bytes_eq p) qs ≡ false
none_above p [] h = refl
none_above p (q ∷ qs) h = ap (λ b. b || list_any (bytes_eq p) qs) (less_apart p q h.0) ∙ none_above p qs h.1

-- each of ascending changes stays as it was made
kept_after : (files : Snapshot) (changes : List Change) → IsStrictlySortedBy (slice_cmp nat_cmp) (paths_of changes) → AllByRecursion (λ c. get (stepped_by files changes) (path_of c) ≡ entry_after c) changes
unfolding IsStrictlySortedBy
kept_after files [] h = tt
kept_after files (c ∷ cs) h = (
  untouched (stepped files c) cs (path_of c) (none_above (path_of c) (paths_of cs) h.0)
      ∙ get-stepped files c (path_of c)
      ∙ ap (λ b. cond b (entry_after c) (get files (path_of c))) (has_self (path_of c)),
  kept_after (stepped files c) cs h.1,
)

-- ---- the changes by their paths

-- a change is known by its path and by what is kept there in the end
remade : (new : Snapshot) (changes : List Change) → AllByRecursion (λ c. get new (path_of c) ≡ entry_after c) changes → map (λ p. change_to p (get new p)) (paths_of changes) ≡ changes
remade new [] h = refl
remade new (c ∷ cs) h =
    ap (λ o. change_to (path_of c) o ∷ map (λ p. change_to p (get new p)) (paths_of cs)) h.0 ∙ ap (λ x. x ∷ map (λ p. change_to p (get new p)) (paths_of cs)) (made_again c) ∙ ap (λ xs. c ∷ xs) (remade new cs h.1)

differ_by : (old new : Snapshot) (q : List ℕ) (c : Change) (same : Bool) → agree old new q ≡ same → q ≡ path_of c → get new (path_of c) ≡ entry_after c → HasEffect old c → agree old new q ≡ false
differ_by old new q c true e is kept matters = absurd (matters (sym kept ∙ ap (get new) (sym is) ∙ sym (kept_same (get old q) (get new q) e) ∙ ap (get old) is))
differ_by old new q c false e is kept matters = e

touched :
    (old new : Snapshot) (changes : List Change) (q : List ℕ) → AllByRecursion (λ c. get new (path_of c) ≡ entry_after c) changes → AllByRecursion (HasEffect old) changes
    → list_any (bytes_eq q) (paths_of changes) ≡ true → agree old new q ≡ false
touched old new [] q h k t = absurd (false≢true t)
touched old new (c ∷ cs) q h k t =
    elim (or_cases (bytes_eq q (path_of c)) (list_any (bytes_eq q) (paths_of cs)) t) [
      | inl e ↦ differ_by old new q c (agree old new q) refl (same_path q (path_of c) e) h.0 k.0
      | inr r ↦ touched old new cs q h.1 k.1 r
    ]

changed_by :
    (old new : Snapshot) (changes : List Change) (q : List ℕ) (b : Bool) → list_any (bytes_eq q) (paths_of changes) ≡ b → stepped_by old changes ≡ new
    → AllByRecursion (λ c. get new (path_of c) ≡ entry_after c) changes → AllByRecursion (HasEffect old) changes → list_any (bytes_eq q) (paths_of changes) ≡ not (agree old new q)
changed_by old new changes q true e leads h k = e ∙ ap not (sym (touched old new changes q h k e))
changed_by old new changes q false e leads h k =
    let same : get new q ≡ get old q = ap (λ m. get m q) (sym leads) ∙ untouched old changes q e in
    e ∙ ap not (sym (ap (option_eq same_entry (get old q)) same ∙ kept_itself (get old q)))

-- changes from one snapshot to another: they lead there, by ascending path, each with an effect
record Leads (old new : Snapshot) (changes : List Change) : Type 0 where
  leads : stepped_by old changes ≡ new
  ascends : IsStrictlySortedBy (slice_cmp nat_cmp) (paths_of changes)
  kept : AllByRecursion (λ c. get new (path_of c) ≡ entry_after c) changes
  matters : AllByRecursion (HasEffect old) changes

known : (old new : Snapshot) (changes : List Change) → stepped_by old changes ≡ new → IsStrictlySortedBy (slice_cmp nat_cmp) (paths_of changes) → All (HasEffect old) changes → Leads old new changes
known old new changes leads ascends matters = record {
  leads = leads;
  ascends = ascends;
  kept = rw (sym leads) (kept_after old changes ascends);
  matters = recursion_from_All (HasEffect old) changes matters;
}

one_list : (old new : Snapshot) (xs ys : List Change) → Leads old new xs → Leads old new ys → xs ≡ ys
one_list old new xs ys h k =
    sym (remade new xs h.kept)
    ∙ ap (map (λ p. change_to p (get new p))) (same_paths (paths_of xs) (paths_of ys) h.ascends k.ascends (λ q. changed_by old new xs q (list_any (bytes_eq q) (paths_of xs)) refl h.leads h.kept h.matters ∙ sym (changed_by old new ys q (list_any (bytes_eq q) (paths_of ys)) refl k.leads k.kept k.matters)))
    ∙ remade new ys k.kept

pub only_changes : (old new : Snapshot) (changes : List Change) → stepped_by old changes ≡ new → IsStrictlySortedBy (slice_cmp nat_cmp) (paths_of changes) → All (HasEffect old) changes → changes ≡ changes_between old new
only_changes old new changes leads ascends matters =
    one_list old new changes (changes_between old new) (known old new changes leads ascends matters) (known old new (changes_between old new) (changes_lead old new) (changes_ascend old new) (changes_matter old new))

-- ---- what a rescan answers

abbrev IsCrawlOf : (List ℕ → List Named → Type 0) → (List ℕ → List ℕ → Type 0) → Result Snapshot CrawlFault → Type 0
IsCrawlOf lists reads result = (tree : Files) × IsDescribed lists reads tree × (result ≡ crawled tree)

abbrev IsRescanOf : (List ℕ → List Named → Type 0) → (List ℕ → List ℕ → Type 0) → Snapshot → Result (List Change) CrawlFault → Type 0
IsRescanOf lists reads files result = (tree : Files) × IsDescribed lists reads tree × (result ≡ rescanned files tree)

abbrev SameErr : Type 0 → CrawlFault → CrawlFault → Type 0
SameErr T one other = ◌≡◌ {A = Result T CrawlFault} (Err one) (Err other)

err_at : (one other : CrawlFault) → SameErr Snapshot one other → SameErr (List Change) one other
err_at one other h = let k : one ≡ other = cc in ap Err k

-- what the crawl refuses
pub rescanned_fault :
    (lists : List ℕ → List Named → Type 0) (reads : List ℕ → List ℕ → Type 0) (files : Snapshot) (fault : CrawlFault)
    → SameErr Snapshot fault NoMemory ⊎ (SameErr Snapshot fault Failed ⊎ IsCrawlOf lists reads (Err fault))
    → SameErr (List Change) fault NoMemory ⊎ (SameErr (List Change) fault Failed ⊎ IsRescanOf lists reads files (Err fault))
rescanned_fault lists reads files fault (inl e) = inl (err_at fault NoMemory e)
rescanned_fault lists reads files fault (inr (inl e)) = inr (inl (err_at fault Failed e))
rescanned_fault lists reads files fault (inr (inr (tree, d, e))) = inr (inr (tree, d, ap (changes_to files) e))

-- the changes to what it finds
pub rescanned_found :
    (lists : List ℕ → List Named → Type 0) (reads : List ℕ → List ℕ → Type 0) (files found : Snapshot) (changes : List Change) → changes ≡ changes_between files found
    → (◌≡◌ {A = Result Snapshot CrawlFault} (Ok found) (Err NoMemory)) ⊎ ((◌≡◌ {A = Result Snapshot CrawlFault} (Ok found) (Err Failed)) ⊎ IsCrawlOf lists reads (Ok found))
    → (◌≡◌ {A = Result (List Change) CrawlFault} (Ok changes) (Err NoMemory)) ⊎ ((◌≡◌ {A = Result (List Change) CrawlFault} (Ok changes) (Err Failed)) ⊎ IsRescanOf lists reads files (Ok changes))
rescanned_found lists reads files found changes is (inl e) = cc
rescanned_found lists reads files found changes is (inr (inl e)) = cc
rescanned_found lists reads files found changes is (inr (inr (tree, d, e))) = inr (inr (tree, d, ap Ok is ∙ ap (changes_to files) e))
