-- The modules that are reached are the ends of walks, and no others.
use Rattle.std.proofs.Common.{inl, inr, ◌⊎◌, ◌≡◌, ◌∙◌, ℕ, true, List, [], ◌∷◌, map, length, Option, Some, None, refl, ap, sym, subst, if◌then◌else◌, is_some}
use Rattle.std.specs.List.{Contains, filter_map, cons_option, list_any}
use Rattle.std.specs.List.Sorted.{IsStrictlySortedBy}
use Rattle.std.specs.Str.{bytes_eq}
use Rattle.std.specs.FinMap.{keys, contains_key-keys, get}
use Rattle.std.specs.Ordering.{nat_cmp}
use Rattle.std.specs.Cmp.Lexicographic.{slice_cmp}
use Rattle.std.specs.Option.{option_map, option_map_or, unwrap_or}
use Rattle.std.proofs.lemmas.Bool.{or_cases, cases_Bool, false≢true}
use Rattle.std.proofs.lemmas.List.Kept.{IsStrictlySortedBy-filter}
use Rattle.std.proofs.lemmas.Slice.Eq.{bytes_eq-Decides}
use Rattle.mt_containers.specs.Walks.{IsClosed, is_end_within}
use Rattle.mt_containers.specs.Walks as walks
use Rattle.mt_containers.proofs.Members.{contains_filter, filter_contains}
use Rattle.mt_containers.proofs.Walks.{among_reached, reached_among, reached_least, reached_start, reached_step, reached_wider}
use Rattle.mt_containers.proofs.Tables.{keys_sorted}
use Rattle.mt_tokens.specs.Deps.{Dependency}
use Rattle.mt_tokens.specs.Transform.{dependencies_of, transformed}
use Rattle.mt_files.specs.declared.file_map.Entry.{Entry}
use Rattle.mt_files.specs.Snapshots.{Snapshot, has_source, source_at, source_of}
use Rattle.mt_package.specs.declared.options.Options.{Options}
use Rattle.mt_files.specs.Asks.{Ask}
use Rattle.mt_files.specs.declared.target.Target.TheVariants as target
use Rattle.mt_path.specs.Names.{folder_of}
use Rattle.mt_files.specs.Resolve.{Candidate, candidates, file_of, first_stop, is_bad, or_first, package_at, resolved, stop_at}
use Rattle.mt_files.specs.declared.target.Target.{Target}
use Rattle.mt_files.specs.Edges.{dependencies_at, edges, kind_of, target_of}
use Rattle.mt_files.specs.Reach.{IsReached, reach, source_entries}
use Rattle.mt_files.proofs.PathLists.{Has, contains_has, has_contains, has_key, same_path}

-- ---- sources

some_some : (o : Option Entry) → is_some (source_of o) ≡ true → is_some o ≡ true
some_some None h = h
some_some (Some e) h = refl

-- a source is one of the files
pub source_is_key : (files : Snapshot) (q : List ℕ) → has_source files q ≡ true → Has (keys files) q
source_is_key files q h = sym (has_key q (keys files)) ∙ sym (contains_key-keys files q) ∙ some_some (get files q) h

-- what ends a search at a source is there
stop_source : (files : Snapshot) (c : Candidate) (t : Target) (q : List ℕ) → stop_at files c ≡ Some t → file_of t ≡ Some q → has_source files q ≡ true
stop_source files (Candidate.Source p) t q s h = elim (cases_Bool (has_source files p)) [
  | inl e ↦
      let k : Some (target.File p) ≡ Some t = ap (λ b. if b then Some (target.File p) else None) (sym e) ∙ s in
      let f : target.File p ≡ t = cc in
      let g : Some p ≡ Some q = ap file_of f ∙ h in
      let i : p ≡ q = cc in
      subst (λ z. has_source files z ≡ true) i e
  | inr e ↦ let k : None ≡ Some t = ap (λ b. if b then Some (target.File p) else None) (sym e) ∙ s in absurd (cc)
]
stop_source files (Candidate.Package p) t q s h = elim (cases_Bool (is_bad (package_at files p))) [
  | inl e ↦
      let k : Some (target.BadPackage p) ≡ Some t = ap (λ b. if b then Some (target.BadPackage p) else None) (sym e) ∙ s in
      let f : target.BadPackage p ≡ t = cc in
      let g : None ≡ Some q = ap file_of f ∙ h in
      absurd (cc)
  | inr e ↦ let k : None ≡ Some t = ap (λ b. if b then Some (target.BadPackage p) else None) (sym e) ∙ s in absurd (cc)
]

either_first : (o more : Option Target) (t : Target) → or_first o more ≡ Some t → (o ≡ Some t) ⊎ (more ≡ Some t)
either_first None more t h = inr h
either_first (Some x) more t h = inl h

first_source : (files : Snapshot) (cs : List Candidate) (t : Target) (q : List ℕ) → first_stop files cs ≡ Some t → file_of t ≡ Some q → has_source files q ≡ true
first_source files [] t q s h = absurd (cc)
first_source files (c ∷ cs) t q s h = elim (either_first (stop_at files c) (first_stop files cs) t s) [
  | inl e ↦ stop_source files c t q e h
  | inr e ↦ first_source files cs t q e h
]

target_source : (files : Snapshot) (cs : List Candidate) (o : Option Target) (q : List ℕ) → first_stop files cs ≡ o → file_of (unwrap_or o target.None) ≡ Some q → has_source files q ≡ true
target_source files cs None q e h = absurd (cc)
target_source files cs (Some t) q e h = first_source files cs t q e h

pub has_cons : (o : Option (List ℕ)) (ps : List (List ℕ)) (q : List ℕ) → Has (cons_option o ps) q → (o ≡ Some q) ⊎ Has ps q
has_cons None ps q h = inr h
has_cons (Some p) ps q h =
    elim (or_cases (bytes_eq q p) (list_any (bytes_eq q) ps) h) [
      | inl e ↦ inl (ap Some (sym (same_path q p e)))
      | inr r ↦ inr r
    ]

edge_in : (options : Options) (files : Snapshot) (p : List ℕ) (ds : List Dependency) (q : List ℕ) → Has (filter_map file_of (map (target_of options files p) ds)) q → has_source files q ≡ true
unfolding resolved
edge_in options files p [] q h = absurd (false≢true h)
edge_in options files p (d ∷ ds) q h =
    elim (has_cons (file_of (target_of options files p d)) (filter_map file_of (map (target_of options files p) ds)) q h) [
      | inl e ↦ target_source files (candidates options files (folder_of p) d.name) _ q refl e
      | inr r ↦ edge_in options files p ds q r
    ]

-- what a module requires is a source
pub edge_is_source : (options : Options) (files : Snapshot) (p q : List ℕ) → Contains (edges options files p) q → has_source files q ≡ true
edge_is_source options files p q h = edge_in options files p (dependencies_at options files p) q (contains_has (edges options files p) q h)

edges_from :
    (options : Options) (files : Snapshot) (p q : List ℕ) (s : Option (List ℕ))
    → Has (filter_map file_of (map (target_of options files p) (option_map_or dependencies_of (option_map (transformed options.strip (kind_of p)) s) []))) q → is_some s ≡ true
edges_from options files p q None h = absurd (false≢true h)
edges_from options files p q (Some source) h = refl

-- a path that requires something is a source
pub requires_source : (options : Options) (files : Snapshot) (p q : List ℕ) → Contains (edges options files p) q → has_source files p ≡ true
requires_source options files p q h = edges_from options files p q (source_at files p) (contains_has (edges options files p) q h)

-- ---- walks over what modules require

module _ (ask : Ask) (files : Snapshot) where
  source_inside : (q : List ℕ) → has_source files q ≡ true → Contains (keys files) q
  source_inside q h = has_contains (keys files) q (source_is_key files q h)

  -- no walk leaves the files
  files_closed : IsClosed (edges ask.options files) (source_entries ask files) (keys files)
  files_closed = record {
    begun = λ q h. source_inside q (contains_filter (has_source files) ask.entries q h).1;
    followed = λ p q h s. source_inside q (edge_is_source ask.options files p q s);
  }

  -- what is reached is a source
  pub reached_is_source : (q : List ℕ) → IsReached ask files q → has_source files q ≡ true
  reached_is_source q h =
      reached_least (edges ask.options files) (source_entries ask files) (λ p. has_source files p ≡ true) (λ p s. (contains_filter (has_source files) ask.entries p s).1) (λ p next k s. edge_is_source ask.options files p next s) q h

  -- each end of a walk is reached
  pub reach_all : (q : List ℕ) → IsReached ask files q → Contains (reach ask files) q
  reach_all q h = reached_among bytes_eq bytes_eq-Decides (edges ask.options files) (source_entries ask files) (keys files) files_closed q h

  -- and each path that is reached is the end of a walk
  pub reach_alone : (q : List ℕ) → Contains (reach ask files) q → IsReached ask files q
  reach_alone q h = among_reached bytes_eq bytes_eq-Decides (edges ask.options files) (source_entries ask files) (keys files) q h

  -- what a module that is reached requires is reached
  pub reach_step : (p q : List ℕ) → Has (reach ask files) p → Has (edges ask.options files p) q → Has (reach ask files) q
  reach_step p q h s =
      contains_has (reach ask files) q
      (reach_all q (reached_step (edges ask.options files) (source_entries ask files) p q (reach_alone p (has_contains (reach ask files) p h)) (has_contains (edges ask.options files p) q s)))

  pub reach_ascending : IsStrictlySortedBy (slice_cmp nat_cmp) (reach ask files)
  reach_ascending = IsStrictlySortedBy-filter (slice_cmp nat_cmp) (is_end_within bytes_eq (edges ask.options files) (source_entries ask files) (length (keys files))) (keys files) (keys_sorted (slice_cmp nat_cmp) files)

  -- ---- walks from all entries

  -- a path to which a walk leads from an entry, be it a source or not, is an entry, or is reached
  pub reached_or_entry : (q : List ℕ) → walks.IsReached (edges ask.options files) ask.entries q → Contains ask.entries q ⊎ IsReached ask files q
  reached_or_entry q h =
      reached_least (edges ask.options files) ask.entries (λ p. Contains ask.entries p ⊎ IsReached ask files p) (λ p s. inl s)
      (λ p next k s. inr (elim k [
        | inl e ↦ reached_step (edges ask.options files) (source_entries ask files) p next (reached_start (edges ask.options files) (source_entries ask files) p (filter_contains (has_source files) ask.entries p e (requires_source ask.options files p next s))) s
        | inr r ↦ reached_step (edges ask.options files) (source_entries ask files) p next r s
      ])) q h

  pub entry_reached : (q : List ℕ) → Contains ask.entries q → walks.IsReached (edges ask.options files) ask.entries q
  entry_reached q h = reached_start (edges ask.options files) ask.entries q h

  pub reached_from_entries : (q : List ℕ) → IsReached ask files q → walks.IsReached (edges ask.options files) ask.entries q
  reached_from_entries q h = reached_wider (edges ask.options files) (edges ask.options files) (source_entries ask files) ask.entries (λ p s. (contains_filter (has_source files) ask.entries p s).0) (λ p next s. s) q h
