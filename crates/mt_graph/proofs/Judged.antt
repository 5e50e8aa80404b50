-- What is explored from the entries comes to the fresh graph, or to all faults.
use Rattle.std.proofs.Common.{inl, inr, ◌⊎◌, ◌≡◌, ◌∙◌, ◌+◌, ◌||◌, ℕ, zero, suc, Bool, true, false, cond, List, [], ◌∷◌, ◌++◌, map, filter, length, Option, Some, None, Result, Ok, Err, is_some, refl, ap, sym, subst, arith, nat_lt, slice_index}
use Rattle.std.specs.List.{Contains, cons_option, enumerate_from, filter_map, flat_map, list_any, zip}
use Rattle.std.specs.Option.{option_and_then, option_map, option_map_or}
use Rattle.std.specs.Result.{result_ok}
use Rattle.std.specs.FinMap.{empty, from_entries}
use Rattle.std.specs.Str.{bytes_eq}
use Rattle.std.proofs.lemmas.Bool.{cases_Bool, or_cases, false≢true}
use Rattle.std.proofs.lemmas.List.{length-map}
use Rattle.std.proofs.lemmas.List.Folds.{list_any-append}
use Rattle.mt_tokens.specs.Deps.{Dependency}
use Rattle.mt_tokens.specs.Transform.{Transformed, dependencies_of, transformed}
use Rattle.mt_tokens.specs.declared.source.PathKind.{PathKind}
use Rattle.mt_tokens.specs.declared.source.SourceFault.{SourceFault}
use Rattle.mt_package.specs.declared.options.Options.{Options}
use Rattle.mt_files.specs.Asks.{Ask}
use Rattle.mt_files.specs.Snapshots.{Snapshot, has_source, source_at}
use Rattle.mt_files.specs.Edges.{fault_of, faults_at, kind_of, made_faults, target_of, unresolved}
use Rattle.mt_files.specs.Reach.{reach, source_entries}
use Rattle.mt_files.specs.Fresh.{all_faults, ascending, decided, max_modules, members}
use Rattle.mt_files.specs.declared.build_fault.BuildFault.{BuildFault}
use Rattle.mt_files.specs.declared.build_fault.BuildFault.TheVariants.{EntryMissing, Source, TooManyModules}
use Rattle.mt_files.proofs.PathLists.{contains_has, filter_has, has_contains, has_head, has_tail}
use Rattle.mt_files.proofs.Reach.{reach_all}
use Rattle.mt_files.proofs.Ascending.{has_ascending}
use Rattle.mt_containers.proofs.Walks.{reached_start}
use Rattle.mt_files.specs.Edges.{edges}
use Rattle.mt_transform.specs.Outputs.{name_of, output_made, places_of, source_dependencies}
use Rattle.mt_transform.specs.declared.output.Name.{Name}
use Rattle.mt_transform.specs.declared.output.Output.{Output}
use Rattle.mt_graph.specs.Founds.{found_at, found_in, found_with, link_of, links_of, made_of, paths_of}
use Rattle.mt_graph.specs.Explored.{explored, explored_paths}
use Rattle.mt_graph.specs.Graphs.{fresh_graph, graph_of, node_at, node_of, under}
use Rattle.mt_graph.specs.Judged.{faults_with, found_faults, judged, judged_faults, judged_graph, link_fault, link_faults, module_faults, placed}
use Rattle.mt_graph.specs.declared.found.Found.{Found}
use Rattle.mt_graph.specs.declared.graph.Node.{Node}
use Rattle.mt_graph.proofs.Explored.{entries_explored, entry_sources, explored_has_paths}
use Rattle.mt_graph.proofs.Founds.{found_with_in, output_from}

-- ---- the faults of a module

-- places from a number on are those of some dependencies
abbrev ArePlaces : List ℕ → ℕ → List Dependency → Type 0
ArePlaces places n ds = (i : ℕ) → slice_index places (n + i) ≡ slice_index (map (λ (d : Dependency). d.place) ds) i

rest_places : (places : List ℕ) (n : ℕ) (d : Dependency) (ds : List Dependency) → ArePlaces places n (d ∷ ds) → ArePlaces places (n + 1) ds
rest_places places n d ds h i =
    let e : n + 1 + i ≡ n + suc i = omega arith in
    ap (slice_index places) e ∙ h (suc i)

module _ (options : Options) (files : Snapshot) where
  first_fault : (p : List ℕ) (output : Output) (n : ℕ) (d : Dependency) (place : ℕ) → place ≡ d.place → fault_of p (record { name = d.name; kind = d.kind; place = place }) (target_of options files p d) ≡ unresolved options files p d
  first_fault p output n d place h = ap (λ z. fault_of p (record { name = d.name; kind = d.kind; place = z }) (target_of options files p d)) h

  faults_along :
      (p : List ℕ) (output : Output) (n : ℕ) (ds : List Dependency) → ArePlaces (places_of output) n ds
      → flat_map (link_fault p output) (enumerate_from n (zip (map name_of ds) (map (link_of options files p) (map name_of ds)))) ≡ flat_map (unresolved options files p) ds
  faults_along p output n [] h = refl
  faults_along p output n (d ∷ ds) h =
      let e : n ≡ n + 0 = omega arith in
      ap (λ fs. fs ++ flat_map (link_fault p output) (enumerate_from (n + 1) (zip (map name_of ds) (map (link_of options files p) (map name_of ds))))) (first_fault p output n d (slice_index (places_of output) n) (ap (slice_index (places_of output)) e ∙ h 0))
      ∙ ap (λ fs. unresolved options files p d ++ fs) (faults_along p output (n + 1) ds (rest_places (places_of output) n d ds h))

  same_places : (p source : List ℕ) (t : Transformed) → transformed options.strip (kind_of p) source ≡ Ok t → ArePlaces (places_of (output_from options p source t)) 0 t.dependencies
  same_places p source t h i =
      let e : 0 + i ≡ i = omega arith in
      ap (λ u. slice_index (map (λ (d : Dependency). d.place) (dependencies_of u)) (0 + i)) h ∙ ap (slice_index (map (λ (d : Dependency). d.place) t.dependencies)) e

  faults_made :
      (p source : List ℕ) (t : Result Transformed SourceFault) → transformed options.strip (kind_of p) source ≡ t
      → module_faults p (links_of options files p (output_made options.strip (kind_of p) source t)) (output_made options.strip (kind_of p) source t) ≡ made_faults options files p t
  faults_made p source (Ok t) h = faults_along p (output_from options p source t) 0 t.dependencies (same_places p source t h)
  faults_made p source (Err fault) h = refl

  faults_here : (p : List ℕ) (s : Option (List ℕ)) → option_map_or found_faults (option_map (found_at options files p) s) (EntryMissing p ∷ []) ≡ option_map_or (made_faults options files p) (option_map (transformed options.strip (kind_of p)) s) (EntryMissing p ∷ [])
  faults_here p None = refl
  faults_here p (Some source) = faults_made p source (transformed options.strip (kind_of p) source) refl

  -- the faults of what is found at a path are the faults there
  pub faults_in : (p : List ℕ) → option_map_or found_faults (found_in options files p) (EntryMissing p ∷ []) ≡ faults_at options files p
  faults_in p = faults_here p (source_at files p)

  -- where there is no source an entry is missing
  no_source : (p : List ℕ) (s : Option (List ℕ)) → source_at files p ≡ s → is_some s ≡ false → EntryMissing p ∷ [] ≡ faults_at options files p
  no_source p None e h = sym (ap (λ s. option_map_or (made_faults options files p) (option_map (transformed options.strip (kind_of p)) s) (EntryMissing p ∷ [])) e)
  no_source p (Some source) e h = absurd (false≢true (sym h))

  -- ---- the modules

  nodes_here : (ps : List (List ℕ)) → filter_map (λ (f : Found). option_map (under f.path) (node_of f)) (filter_map (found_in options files) ps) ≡ filter_map (λ p. option_map (under p) (node_at options files p)) ps
  nodes_here [] = refl
  nodes_here (p ∷ ps) = one (source_at files p) (nodes_here ps)
    where
      one : (s : Option (List ℕ))
          → filter_map (λ (f : Found). option_map (under f.path) (node_of f)) (filter_map (found_in options files) ps) ≡ filter_map (λ p. option_map (under p) (node_at options files p)) ps
          → filter_map (λ (f : Found). option_map (under f.path) (node_of f)) (cons_option (option_map (found_at options files p) s) (filter_map (found_in options files) ps))
          ≡ cons_option (option_map (under p) (option_and_then node_of (option_map (found_at options files p) s))) (filter_map (λ p. option_map (under p) (node_at options files p)) ps)
      one None h = h
      one (Some source) h = ap (cons_option (option_map (under p) (node_of (found_at options files p source)))) h

-- ---- from the entries

module _ (ask : Ask) (files : Snapshot) where
  abbrev founds : List Found
  founds = explored ask.options files (source_entries ask files) empty

  founds_are : founds ≡ filter_map (found_in ask.options files) (reach ask files)
  founds_are = ap (filter_map (found_in ask.options files)) (entries_explored ask files)

  pub founds_paths : paths_of founds ≡ reach ask files
  founds_paths = explored_has_paths ask.options files empty (source_entries ask files) (entry_sources ask files) ∙ entries_explored ask files

  founds_many : length founds ≡ length (reach ask files)
  founds_many = sym (length-map founds (λ (f : Found). f.path)) ∙ ap length founds_paths

  -- an entry that is not reached is no source
  unreached : (p : List ℕ) → list_any (bytes_eq p) ask.entries ≡ true → list_any (bytes_eq p) (reach ask files) ≡ false → has_source files p ≡ false
  unreached p e h = elim (cases_Bool (has_source files p)) [
    | inr none ↦ none
    | inl there ↦
        let start = has_contains (source_entries ask files) p (filter_has (has_source files) ask.entries p e there) in
        absurd (false≢true (sym h ∙ contains_has (reach ask files) p (reach_all ask files p (reached_start (edges ask.options files) (source_entries ask files) p start))))
  ]

  faults_one : (p : List ℕ) (b : Bool) → list_any (bytes_eq p) (reach ask files) ≡ b → (b ≡ false → has_source files p ≡ false) → option_map_or found_faults (cond b (found_in ask.options files p) None) (EntryMissing p ∷ []) ≡ faults_at ask.options files p
  faults_one p true e h = faults_in ask.options files p
  faults_one p false e h = no_source ask.options files p (source_at files p) refl (h refl)

  member_faults : (p : List ℕ) → list_any (bytes_eq p) (members ask files) ≡ true → faults_with founds p ≡ faults_at ask.options files p
  member_faults p h =
      ap (λ fs. option_map_or found_faults (found_with fs p) (EntryMissing p ∷ [])) founds_are
      ∙ ap (λ o. option_map_or found_faults o (EntryMissing p ∷ [])) (found_with_in ask.options files (reach ask files) p)
      ∙ faults_one p (list_any (bytes_eq p) (reach ask files)) refl
      (λ no. unreached p
      (elim (or_cases (list_any (bytes_eq p) ask.entries) (list_any (bytes_eq p) (reach ask files)) (sym (list_any-append (bytes_eq p) ask.entries (reach ask files)) ∙ sym (has_ascending (ask.entries ++ reach ask files) p) ∙ h)) [
        | inl e ↦ e
        | inr r ↦ absurd (false≢true (sym no ∙ r))
      ]) no)

  same_along : (f g : List ℕ → List BuildFault) (ps : List (List ℕ)) → ((p : List ℕ) → list_any (bytes_eq p) ps ≡ true → f p ≡ g p) → flat_map f ps ≡ flat_map g ps
  same_along f g [] h = refl
  same_along f g (p ∷ ps) h = λ i. h p (has_head p ps) i ++ same_along f g ps (λ q k. h q (has_tail p q ps k)) i

  pub explored_faults : judged_faults ask.entries founds ≡ all_faults ask files
  explored_faults =
      ap (λ n. cond (nat_lt max_modules n) (TooManyModules ∷ []) (flat_map (faults_with founds) (ascending (ask.entries ++ paths_of founds)))) founds_many
      ∙ ap (λ ps. cond (nat_lt max_modules (length (reach ask files))) (TooManyModules ∷ []) (flat_map (faults_with founds) (ascending (ask.entries ++ ps)))) founds_paths
      ∙ ap (cond (nat_lt max_modules (length (reach ask files))) (TooManyModules ∷ [])) (same_along (faults_with founds) (faults_at ask.options files) (members ask files) member_faults)

  pub explored_graph : judged ask.entries founds ≡ fresh_graph ask files
  explored_graph =
      ap (decided (judged_graph founds)) explored_faults
      ∙ ap (λ fs. decided (judged_graph fs) (all_faults ask files)) founds_are
      ∙ ap (λ ns. decided (from_entries ns) (all_faults ask files)) (nodes_here ask.options files (reach ask files))
