-- The members, and what they come to.
use Rattle.std.proofs.Common.{inl, inr, ◌⊎◌, ◌≡◌, ◌∙◌, ◌||◌, ℕ, Bool, true, false, cond, List, [], ◌∷◌, ◌++◌, append_assoc, append-nil, map, Option, Some, None, Result, Ok, Err, is_some, refl, ap, sym, subst}
use Rattle.std.specs.List.{AllByRecursion, cons_option, filter_map, fold, flat_map, list_any}
use Rattle.std.specs.List.Sorted.{IsStrictlySortedBy}
use Rattle.std.specs.Option.{option_and_then, option_map, option_map_or, option_or}
use Rattle.std.specs.declared.cmp.Ordering.TheVariants.{Less}
use Rattle.std.specs.Str.{bytes_eq}
use Rattle.std.specs.Ordering.{nat_cmp}
use Rattle.std.specs.Cmp.Lexicographic.{slice_cmp, nat_list_cmp_total}
use Rattle.std.specs.FinMap.{empty, entries, find, from_entries, from_entries_push, get, get-empty, get-from_entries, get-insert, insert, keys, same_map}
use Rattle.std.proofs.lemmas.Bool.{cases_Bool, or_cases, or_right, false≢true}
use Rattle.std.proofs.lemmas.List.{map-append}
use Rattle.std.proofs.lemmas.List.Folds.{list_any-append}
use Rattle.std.proofs.lemmas.Map.Text.{is_eq-slice_cmp}
use Rattle.mt_containers.proofs.Seens.{texts_antisymmetric}
use Rattle.mt_containers.proofs.Tables.{entries_by, keys_sorted}
use Rattle.mt_tokens.specs.declared.source.SourceFault.{SourceFault}
use Rattle.mt_files.specs.Fresh.{ascending, decided}
use Rattle.mt_files.specs.declared.build_fault.BuildFault.{BuildFault}
use Rattle.mt_files.specs.declared.build_fault.BuildFault.TheVariants.{EntryMissing, Source}
use Rattle.mt_files.specs.declared.target.Link.{Link}
use Rattle.mt_transform.specs.declared.output.Output.{Output}
use Rattle.mt_files.proofs.PathLists.{has_self, same_path}
use Rattle.mt_files.proofs.Ascending.{find_made, has_ascending, same_paths}
use Rattle.mt_graph.specs.Founds.{found_with, paths_of}
use Rattle.mt_graph.specs.Graphs.{GraphMap, node_of, under}
use Rattle.mt_graph.specs.Judged.{faults_with, found_faults, judged_graph, link_faults, module_faults}
use Rattle.mt_graph.specs.Members.{MemberMap, faults_of_all, made_or_fault, member_faults, member_in, member_of, members_of, node_or_fault, settled, with_entry, with_found, with_node}
use Rattle.mt_graph.specs.declared.found.Found.{Found}
use Rattle.mt_graph.specs.declared.graph.Node.{Node}
use Rattle.mt_graph.specs.declared.judgement.Member.{Member}
use Rattle.mt_graph.proofs.FoundWith.{above_apart, first_alone, found_path, has_found, later_apart, rest_above, rest_ascending}

-- ---- the map of the members

get-with_entry : (m : MemberMap) (es : List (List ℕ)) (q : List ℕ) → get (fold with_entry m es) q ≡ cond (list_any (bytes_eq q) es) (Some None) (get m q)
get-with_entry m [] q = refl
get-with_entry m (e ∷ es) q =
    get-with_entry (with_entry m e) es q
    ∙ ap (cond (list_any (bytes_eq q) es) (Some None)) (get-insert nat_list_cmp_total m e None q ∙ ap (λ b. cond b (Some None) (get m q)) (is_eq-slice_cmp q e))
    ∙ either (list_any (bytes_eq q) es) (bytes_eq q e) (get m q)
  where
    either : (a b : Bool) (o : Option (Option Member)) → cond a (Some None) (cond b (Some None) o) ≡ cond (b || a) (Some None) o
    either true true o = refl
    either true false o = refl
    either false true o = refl
    either false false o = refl

-- what stands at a path once something was found
abbrev placed_over : Option Found → Option (Option Member) → Option (Option Member)
placed_over found before = option_or (option_map (λ f. Some (member_of f)) found) before

get-with_found : (m : MemberMap) (fs : List Found) (q : List ℕ) → IsStrictlySortedBy (slice_cmp nat_cmp) (paths_of fs) → get (fold with_found m fs) q ≡ placed_over (found_with fs q) (get m q)
get-with_found m [] q h = refl
get-with_found m (f ∷ fs) q h =
    get-with_found (with_found m f) fs q (rest_ascending f fs h)
    ∙ ap (placed_over (found_with fs q)) (get-insert nat_list_cmp_total m f.path (Some (member_of f)) q ∙ ap (λ b. cond b (Some (Some (member_of f))) (get m q)) (is_eq-slice_cmp q f.path))
    ∙ elim (cases_Bool (bytes_eq q f.path)) [
      | inl e ↦
          let alone : found_with fs q ≡ None = subst (λ z. found_with fs z ≡ None) (sym (found_path (f ∷ []) q f (ap (λ b. cond b (Some f) None) e))) (first_alone f fs h) in
          rw (e, alone) refl
      | inr e ↦ rw e refl
    ]

at_empty : (found : Option Found) (b : Bool) → placed_over found (cond b (Some None) None) ≡ cond (b || is_some found) (Some (option_map member_of found)) None
at_empty None true = refl
at_empty None false = refl
at_empty (Some f) true = refl
at_empty (Some f) false = refl

-- the entries, and then what was found, by their paths
pub members_are : (es : List (List ℕ)) (fs : List Found) → IsStrictlySortedBy (slice_cmp nat_cmp) (paths_of fs) → fold with_found (fold with_entry empty es) fs ≡ members_of es fs
members_are es fs h = same_map nat_list_cmp_total texts_antisymmetric (fold with_found (fold with_entry empty es) fs) (members_of es fs) (λ q.
    get-with_found (fold with_entry empty es) fs q h
    ∙ ap (placed_over (found_with fs q)) (get-with_entry empty es q ∙ ap (cond (list_any (bytes_eq q) es) (Some None)) (get-empty {X = Option Member} (slice_cmp nat_cmp) q))
    ∙ at_empty (found_with fs q) (list_any (bytes_eq q) es)
    ∙ ap (λ b. cond b (Some (member_in fs q)) None) (ap (λ b. list_any (bytes_eq q) es || b) (sym (has_found fs q)) ∙ sym (list_any-append (bytes_eq q) es (paths_of fs)) ∙ sym (has_ascending (es ++ paths_of fs) q))
    ∙ sym (get-from_entries nat_list_cmp_total (map (λ p. (p, member_in fs p)) (ascending (es ++ paths_of fs))) q ∙ find_made (member_in fs) (ascending (es ++ paths_of fs)) q))

-- ---- its entries

firsts : (fs : List Found) (ps : List (List ℕ)) → map (λ (e : List ℕ × Option Member). e.0) (map (λ p. (p, member_in fs p)) ps) ≡ ps
firsts fs [] = refl
firsts fs (p ∷ ps) = ap (λ z. p ∷ z) (firsts fs ps)

pub ascending_sorted : (ps : List (List ℕ)) → IsStrictlySortedBy (slice_cmp nat_cmp) (ascending ps)
ascending_sorted ps = keys_sorted (slice_cmp nat_cmp) (from_entries (map (λ p. (p, p)) ps))

pub member_entries : (es : List (List ℕ)) (fs : List Found) → entries (members_of es fs) ≡ map (λ p. (p, member_in fs p)) (ascending (es ++ paths_of fs))
member_entries es fs =
    let ps = ascending (es ++ paths_of fs) in
    entries_by nat_list_cmp_total (map (λ p. (p, member_in fs p)) ps) (subst (IsStrictlySortedBy (slice_cmp nat_cmp)) (sym (firsts fs ps)) (ascending_sorted (es ++ paths_of fs)))

-- ---- the faults of the members

-- the faults of a member are those of what was found at its path
pub member_faults_with : (fs : List Found) (p : List ℕ) → member_faults p (member_in fs p) ≡ faults_with fs p
member_faults_with fs p = by (found_with fs p) refl
  where
    by : (o : Option Found) → found_with fs p ≡ o → member_faults p (option_map member_of (found_with fs p)) ≡ faults_with fs p
    by None e = rw e refl
    by (Some f) e = rw e (ap (λ z. module_faults z f.links f.made) (found_path fs p f e))

faults_along : (fs : List Found) (ps : List (List ℕ)) → faults_of_all (map (λ p. (p, member_in fs p)) ps) ≡ flat_map (faults_with fs) ps
faults_along fs [] = refl
faults_along fs (p ∷ ps) = λ i. member_faults_with fs p i ++ faults_along fs ps i

pub faults_of_members : (es : List (List ℕ)) (fs : List Found) → faults_of_all (entries (members_of es fs)) ≡ flat_map (faults_with fs) (ascending (es ++ paths_of fs))
faults_of_members es fs = ap faults_of_all (member_entries es fs) ∙ faults_along fs (ascending (es ++ paths_of fs))

-- ---- the modules of the members

-- the module at a path under it, where a source was found there that is not refused
abbrev node_with : List Found → List ℕ → Option (List ℕ × Node)
node_with fs p = option_map (under p) (option_and_then node_of (found_with fs p))

-- a path has no fault and a module, or some faults
abbrev IsDecided : List Found → List ℕ → Type 0
IsDecided fs p =
    ((node : Node) × ((faults_with fs p ≡ []) × (node_or_fault p (member_in fs p) ≡ Ok node) × (node_with fs p ≡ Some (p, node))))
    ⊎ ((f : BuildFault) × ((more : List BuildFault) × ((faults_with fs p ≡ f ∷ more) × (node_or_fault p (member_in fs p) ≡ Err f))))

decided_links : (fs : List Found) (p : List ℕ) (f : Found) (output : Output) → found_with fs p ≡ Some f → f.made ≡ Ok output → (faults : List BuildFault) → link_faults p output f.links ≡ faults → IsDecided fs p
decided_links fs p f output e m [] h =
    let node : Node = record { output = output; links = f.links } in
    inl (
      node,
      (
        sym (member_faults_with fs p) ∙ rw (e, m) h,
        rw (e, m) (ap (decided node) h),
        rw (e, m) refl,
      ),
    )
decided_links fs p f output e m (fault ∷ more) h =
    let node : Node = record { output = output; links = f.links } in
    inr (
      fault,
      (
        more,
        (
          sym (member_faults_with fs p) ∙ rw (e, m) h,
          rw (e, m) (ap (decided node) h),
        ),
      ),
    )

decided_made : (fs : List Found) (p : List ℕ) (f : Found) → found_with fs p ≡ Some f → (made : Result Output SourceFault) → f.made ≡ made → IsDecided fs p
decided_made fs p f e (Ok output) m = decided_links fs p f output e m (link_faults p output f.links) refl
decided_made fs p f e (Err fault) m = inr (Source p fault, ([], (sym (member_faults_with fs p) ∙ rw (e, m) refl, rw (e, m) refl)))

is_decided_by : (fs : List Found) (p : List ℕ) (o : Option Found) → found_with fs p ≡ o → IsDecided fs p
is_decided_by fs p (Some f) e = decided_made fs p f e f.made refl
is_decided_by fs p None e = inr (EntryMissing p, ([], (rw e refl, rw e refl)))

is_decided : (fs : List Found) (p : List ℕ) → IsDecided fs p
is_decided fs p = is_decided_by fs p (found_with fs p) refl

all_before : (P : List ℕ → Type 0) (ks ps : List (List ℕ)) (p : List ℕ) → AllByRecursion P (ks ++ p ∷ ps) → P p
all_before P [] ps p h = h.0
all_before P (k ∷ ks) ps p h = all_before P ks ps p h.1

not_before : (xs : List (List ℕ × Node)) (p : List ℕ) (ps : List (List ℕ)) → IsStrictlySortedBy (slice_cmp nat_cmp) (map (λ e. e.0) xs ++ p ∷ ps) → find (slice_cmp nat_cmp) p xs ≡ None
unfolding IsStrictlySortedBy
not_before [] p ps h = refl
not_before (x ∷ xs) p ps h =
    ap (λ b. cond b (Some x.1) (find (slice_cmp nat_cmp) p xs)) (is_eq-slice_cmp p x.0 ∙ later_apart x.0 p (all_before (λ y. slice_cmp nat_cmp x.0 y ≡ Less) (map (λ e. e.0) xs) ps p h.0))
    ∙ not_before xs p ps h.1

-- what comes of the rest once a path has its module
abbrev settled_after : List (List ℕ × Node) → List ℕ → List (List ℕ × Option Member) → Node → Result GraphMap BuildFault
settled_after xs p rest node = settled (insert (from_entries xs) p node) rest

-- how the members of some paths settle after these modules
abbrev Settles : List Found → List (List ℕ) → List (List ℕ × Node) → Type 0
Settles fs ps xs = settled (from_entries xs) (map (λ p. (p, member_in fs p)) ps) ≡ decided (from_entries (xs ++ filter_map (node_with fs) ps)) (flat_map (faults_with fs) ps)

settles_fault :
    (fs : List Found) (p : List ℕ) (ps : List (List ℕ)) (xs : List (List ℕ × Node)) (fault : BuildFault) (more : List BuildFault) → faults_with fs p ≡ fault ∷ more → node_or_fault p (member_in fs p) ≡ Err fault
    → Settles fs (p ∷ ps) xs
settles_fault fs p ps xs fault more h k =
    ap (with_node (settled_after xs p (map (λ p. (p, member_in fs p)) ps))) k
    ∙ sym (ap (λ faults. decided (from_entries (xs ++ filter_map (node_with fs) (p ∷ ps))) (faults ++ flat_map (faults_with fs) ps)) h)

settles_node :
    (fs : List Found) (p : List ℕ) (ps : List (List ℕ)) (xs : List (List ℕ × Node)) (node : Node) → find (slice_cmp nat_cmp) p xs ≡ None → faults_with fs p ≡ [] → node_or_fault p (member_in fs p) ≡ Ok node → node_with fs p ≡ Some (p, node)
    → Settles fs ps (xs ++ (p, node) ∷ []) → Settles fs (p ∷ ps) xs
settles_node fs p ps xs node none h k m rest =
    ap (with_node (settled_after xs p (map (λ p. (p, member_in fs p)) ps))) k
    ∙ ap (λ g. settled g (map (λ p. (p, member_in fs p)) ps)) (sym (from_entries_push {R = slice_cmp nat_cmp} nat_list_cmp_total texts_antisymmetric xs p node none))
    ∙ rest
    ∙ ap (λ z. decided (from_entries z) (flat_map (faults_with fs) ps)) (append_assoc xs ((p, node) ∷ []) (filter_map (node_with fs) ps) ∙ ap (λ m. xs ++ cons_option m (filter_map (node_with fs) ps)) (sym m))
    ∙ sym (ap (λ faults. decided (from_entries (xs ++ filter_map (node_with fs) (p ∷ ps))) (faults ++ flat_map (faults_with fs) ps)) h)

-- the members settle, one after another
settled_from : (fs : List Found) (ps : List (List ℕ)) (xs : List (List ℕ × Node)) → IsStrictlySortedBy (slice_cmp nat_cmp) (map (λ e. e.0) xs ++ ps) → Settles fs ps xs
settled_from fs [] xs h = ap (λ z. Ok (from_entries z)) (sym (append-nil xs))
settled_from fs (p ∷ ps) xs h =
    elim (is_decided fs p) [
      | inr bad ↦ settles_fault fs p ps xs bad.0 bad.1.0 bad.1.1.0 bad.1.1.1
      | inl good ↦
          let keys_are : map (λ (e : List ℕ × Node). e.0) (xs ++ (p, good.0) ∷ []) ++ ps ≡ map (λ e. e.0) xs ++ p ∷ ps =
          ap (λ z. z ++ ps) (map-append (λ (e : List ℕ × Node). e.0) xs ((p, good.0) ∷ [])) ∙ append_assoc (map (λ e. e.0) xs) (p ∷ []) ps in
          settles_node fs p ps xs good.0 (not_before xs p ps h) good.1.0 good.1.1 good.1.2 (settled_from fs ps (xs ++ (p, good.0) ∷ []) (subst (IsStrictlySortedBy (slice_cmp nat_cmp)) (sym keys_are) h))
    ]

-- ---- the modules of what was found

-- the module of what was found under its path
abbrev node_under : Found → Option (List ℕ × Node)
node_under f = option_map (under f.path) (node_of f)

nodes_later : (f : Found) (fs : List Found) (qs : List (List ℕ)) → AllByRecursion (λ q. slice_cmp nat_cmp f.path q ≡ Less) qs → filter_map (node_with (f ∷ fs)) qs ≡ filter_map (node_with fs) qs
nodes_later f fs [] h = refl
nodes_later f fs (q ∷ qs) h =
    ap (λ b. cons_option (option_map (under q) (option_and_then node_of (cond b (Some f) (found_with fs q)))) (filter_map (node_with (f ∷ fs)) qs)) (later_apart f.path q h.0)
    ∙ ap (cons_option (node_with fs q)) (nodes_later f fs qs h.1)

nodes_along : (fs : List Found) → IsStrictlySortedBy (slice_cmp nat_cmp) (paths_of fs) → filter_map (node_with fs) (paths_of fs) ≡ filter_map node_under fs
nodes_along [] h = refl
nodes_along (f ∷ fs) h =
    ap (λ b. cons_option (option_map (under f.path) (option_and_then node_of (cond b (Some f) (found_with fs f.path)))) (filter_map (node_with (f ∷ fs)) (paths_of fs))) (has_self f.path)
    ∙ ap (cons_option (node_under f)) (nodes_later f fs (paths_of fs) (rest_above f fs h) ∙ nodes_along fs (rest_ascending f fs h))

-- ---- where there is no fault

first_none : {Y : Type 0} (xs ys : List Y) → xs ++ ys ≡ [] → xs ≡ []
first_none [] ys e = refl
first_none (x ∷ xs) ys e = cc

rest_none : {Y : Type 0} (xs ys : List Y) → xs ++ ys ≡ [] → ys ≡ []
rest_none [] ys e = e
rest_none (x ∷ xs) ys e = cc

each_none : (fs : List Found) (ps : List (List ℕ)) (q : List ℕ) → flat_map (faults_with fs) ps ≡ [] → list_any (bytes_eq q) ps ≡ true → faults_with fs q ≡ []
each_none fs [] q h k = absurd (false≢true k)
each_none fs (p ∷ ps) q h k = elim (or_cases (bytes_eq q p) (list_any (bytes_eq q) ps) k) [
  | inl e ↦ subst (λ z. faults_with fs z ≡ []) (sym (same_path q p e)) (first_none (faults_with fs p) (flat_map (faults_with fs) ps) h)
  | inr e ↦ each_none fs ps q (rest_none (faults_with fs p) (flat_map (faults_with fs) ps) h) e
]

none_missing : (fs : List Found) (q : List ℕ) → faults_with fs q ≡ [] → list_any (bytes_eq q) (paths_of fs) ≡ true
none_missing fs q h = has_found fs q ∙ by (found_with fs q) refl
  where
    by : (o : Option Found) → found_with fs q ≡ o → is_some (found_with fs q) ≡ true
    by None e = let k : EntryMissing q ∷ [] ≡ [] = subst (λ o. option_map_or found_faults o (EntryMissing q ∷ []) ≡ []) e h in cc
    by (Some f) e = ap is_some e

all_found : (es : List (List ℕ)) (fs : List Found) → IsStrictlySortedBy (slice_cmp nat_cmp) (paths_of fs) → flat_map (faults_with fs) (ascending (es ++ paths_of fs)) ≡ [] → ascending (es ++ paths_of fs) ≡ paths_of fs
all_found es fs h none = same_paths (ascending (es ++ paths_of fs)) (paths_of fs) (ascending_sorted (es ++ paths_of fs)) h (λ q.
    both_same (list_any (bytes_eq q) (ascending (es ++ paths_of fs))) (list_any (bytes_eq q) (paths_of fs))
    (λ a. none_missing fs q (each_none fs (ascending (es ++ paths_of fs)) q none a))
    (λ a. has_ascending (es ++ paths_of fs) q ∙ list_any-append (bytes_eq q) es (paths_of fs) ∙ or_right (list_any (bytes_eq q) es) (list_any (bytes_eq q) (paths_of fs)) a))
  where
    both_same : (b c : Bool) → (b ≡ true → c ≡ true) → (c ≡ true → b ≡ true) → b ≡ c
    both_same true c h k = sym (h refl)
    both_same false true h k = k refl
    both_same false false h k = refl

same_graph : (es : List (List ℕ)) (fs : List Found) → IsStrictlySortedBy (slice_cmp nat_cmp) (paths_of fs) → (faults : List BuildFault) → flat_map (faults_with fs) (ascending (es ++ paths_of fs)) ≡ faults
    → decided (from_entries (filter_map (node_with fs) (ascending (es ++ paths_of fs)))) faults ≡ decided (judged_graph fs) faults
same_graph es fs h [] none = ap (λ ps. Ok (from_entries (filter_map (node_with fs) ps))) (all_found es fs h none) ∙ ap (λ ns. Ok (from_entries ns)) (nodes_along fs h)
same_graph es fs h (fault ∷ faults) none = refl

-- the members settle to the modules of what was found, or to the first fault
pub settled_members :
    (es : List (List ℕ)) (fs : List Found) → IsStrictlySortedBy (slice_cmp nat_cmp) (paths_of fs)
    → settled empty (entries (members_of es fs)) ≡ decided (judged_graph fs) (flat_map (faults_with fs) (ascending (es ++ paths_of fs)))
settled_members es fs h =
    ap (settled empty) (member_entries es fs)
    ∙ settled_from fs (ascending (es ++ paths_of fs)) [] (ascending_sorted (es ++ paths_of fs))
    ∙ same_graph es fs h (flat_map (faults_with fs) (ascending (es ++ paths_of fs))) refl

-- ---- the paths of a graph without a fault

kept_paths : (fs : List Found) (ps : List (List ℕ)) → flat_map (faults_with fs) ps ≡ [] → map (λ (e : List ℕ × Node). e.0) (filter_map (node_with fs) ps) ≡ ps
kept_paths fs [] none = refl
kept_paths fs (p ∷ ps) none =
    elim (is_decided fs p) [
      | inr bad ↦ let k : bad.0 ∷ bad.1.0 ≡ [] = sym bad.1.1.0 ∙ first_none (faults_with fs p) (flat_map (faults_with fs) ps) none in cc
      | inl good ↦
          ap (λ o. map (λ (e : List ℕ × Node). e.0) (cons_option o (filter_map (node_with fs) ps))) good.1.2
          ∙ ap (λ z. p ∷ z) (kept_paths fs ps (rest_none (faults_with fs p) (flat_map (faults_with fs) ps) none))
    ]

-- the modules are at the paths of what was found
pub judged_keys :
    (es : List (List ℕ)) (fs : List Found) → IsStrictlySortedBy (slice_cmp nat_cmp) (paths_of fs) → flat_map (faults_with fs) (ascending (es ++ paths_of fs)) ≡ []
    → keys (judged_graph fs) ≡ paths_of fs
judged_keys es fs h none =
    let here : flat_map (faults_with fs) (paths_of fs) ≡ [] = subst (λ ps. flat_map (faults_with fs) ps ≡ []) (all_found es fs h none) none in
    let same : map (λ (e : List ℕ × Node). e.0) (filter_map node_under fs) ≡ paths_of fs = ap (map (λ (e : List ℕ × Node). e.0)) (sym (nodes_along fs h)) ∙ kept_paths fs (paths_of fs) here in
    ap (map (λ (e : List ℕ × Node). e.0)) (entries_by nat_list_cmp_total (filter_map node_under fs) (subst (IsStrictlySortedBy (slice_cmp nat_cmp)) (sym same) h)) ∙ same

-- something was found at each entry
pub entry_found :
    (es : List (List ℕ)) (fs : List Found) (q : List ℕ) → flat_map (faults_with fs) (ascending (es ++ paths_of fs)) ≡ [] → list_any (bytes_eq q) es ≡ true
    → list_any (bytes_eq q) (paths_of fs) ≡ true
entry_found es fs q none k =
    none_missing fs q (each_none fs (ascending (es ++ paths_of fs)) q none (has_ascending (es ++ paths_of fs) q ∙ list_any-append (bytes_eq q) es (paths_of fs) ∙ ap (λ b. b || list_any (bytes_eq q) (paths_of fs)) k))
