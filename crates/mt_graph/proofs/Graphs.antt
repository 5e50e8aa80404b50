-- The modules of the fresh graph.
use Rattle.std.proofs.Common.{inl, inr, ◌⊎◌, ◌≡◌, ◌≤◌, ◌∙◌, ◌||◌, ℕ, Bool, true, false, cond, List, [], ◌∷◌, ◌++◌, map, length, Option, Some, None, Result, Ok, Err, is_some, refl, ap, sym, subst, arith, nat_lt}
use Rattle.std.specs.List.{Contains, cons_option, filter_map, flat_map, list_any}
use Rattle.std.specs.List.Sorted.{IsStrictlySortedBy}
use Rattle.std.specs.Option.{option_and_then, option_map, option_map_or}
use Rattle.std.specs.Result.{result_ok}
use Rattle.std.specs.Ordering.{nat_cmp, eq_by_cmp}
use Rattle.std.specs.Cmp.Lexicographic.{slice_cmp, nat_list_cmp_total}
use Rattle.std.specs.FinMap.{contains_key-keys, entries, find, from_entries, get, get-entries, get-from_entries, keys, len, len-entries, same_map}
use Rattle.std.specs.Str.{bytes_eq}
use Rattle.std.proofs.lemmas.Bool.{cases_Bool, or_cases, or_right, false≢true}
use Rattle.std.proofs.lemmas.Bool.Decides.{nat_tests}
use Rattle.std.proofs.lemmas.List.{length-map}
use Rattle.std.proofs.lemmas.List.Folds.{list_any-append}
use Rattle.std.proofs.lemmas.Map.Text.{is_eq-slice_cmp}
use Rattle.mt_containers.proofs.Seens.{texts_antisymmetric}
use Rattle.mt_containers.proofs.Tables.{keys_sorted}
use Rattle.mt_tokens.specs.Transform.{Transformed, transformed}
use Rattle.mt_tokens.specs.declared.source.SourceFault.{SourceFault}
use Rattle.mt_package.specs.declared.options.Options.{Options}
use Rattle.mt_files.specs.Asks.{Ask}
use Rattle.mt_files.specs.Snapshots.{Snapshot, source_at}
use Rattle.mt_files.specs.Edges.{edges, faults_at, kind_of, made_faults}
use Rattle.mt_files.specs.Reach.{reach}
use Rattle.mt_files.specs.Fresh.{EdgeMap, all_faults, ascending, decided, edges_of, fresh, max_modules, members}
use Rattle.mt_files.specs.declared.build_fault.BuildFault.{BuildFault}
use Rattle.mt_files.specs.declared.build_fault.BuildFault.TheVariants.{EntryMissing, Source, TooManyModules}
use Rattle.mt_files.proofs.PathLists.{has_key, same_path}
use Rattle.mt_files.proofs.Reach.{reach_ascending}
use Rattle.mt_files.proofs.Ascending.{find_made, has_ascending, same_paths}
use Rattle.mt_files.specs.declared.target.Link.{Link}
use Rattle.mt_transform.specs.Outputs.{output_made}
use Rattle.mt_transform.specs.declared.output.Output.{Output}
use Rattle.mt_graph.specs.Founds.{files_of, found_at, found_in, links_of}
use Rattle.mt_graph.specs.Graphs.{GraphMap, edges_found, edges_in, fresh_graph, graph_of, node_at, node_of, under}
use Rattle.mt_graph.specs.declared.graph.Node.{Node}
use Rattle.mt_graph.proofs.Founds.{links_lead, output_from}

first_none : {Y : Type 0} (xs ys : List Y) → xs ++ ys ≡ [] → xs ≡ []
first_none [] ys e = refl
first_none (x ∷ xs) ys e = cc

rest_none : {Y : Type 0} (xs ys : List Y) → xs ++ ys ≡ [] → ys ≡ []
rest_none [] ys e = e
rest_none (x ∷ xs) ys e = cc

-- an output with its links
abbrev with_links : List Link → Output → Node
with_links links output = record { output = output; links = links }

module _ (options : Options) (files : Snapshot) where
  -- ---- a path without faults

  -- a path without faults has a module, whose links lead to the edges
  abbrev pub HasNode : List ℕ → Type 0
  HasNode p = (node : Node) × ((node_at options files p ≡ Some node) × (files_of node.links ≡ edges options files p))

  clean_made : (p source : List ℕ) (t : Result Transformed SourceFault) → source_at files p ≡ Some source → transformed options.strip (kind_of p) source ≡ t → made_faults options files p t ≡ [] → HasNode p
  clean_made p source (Ok t) e h none = (
    record { output = output_from options p source t; links = (found_at options files p source).links },
    (
      ap (λ s. option_and_then node_of (option_map (found_at options files p) s)) e
          ∙ ap (λ u. option_map (with_links (found_at options files p source).links) (result_ok (output_made options.strip (kind_of p) source u))) h,
      links_lead options files p source e,
    ),
  )
  clean_made p source (Err fault) e h none = cc

  clean_source : (p : List ℕ) (s : Option (List ℕ)) → source_at files p ≡ s → option_map_or (made_faults options files p) (option_map (transformed options.strip (kind_of p)) s) (EntryMissing p ∷ []) ≡ [] → HasNode p
  clean_source p None e none = cc
  clean_source p (Some source) e none = clean_made p source (transformed options.strip (kind_of p) source) e refl none

  pub clean_node : (p : List ℕ) → faults_at options files p ≡ [] → HasNode p
  clean_node p none = clean_source p (source_at files p) refl (subst (λ s. option_map_or (made_faults options files p) (option_map (transformed options.strip (kind_of p)) s) (EntryMissing p ∷ []) ≡ []) refl none)

  -- ---- the modules at some paths

  none_either : (b : Bool) (o : Option Node) → o ≡ None → cond b o None ≡ None
  none_either true o h = h
  none_either false o h = refl

  nodes : List (List ℕ) → List (List ℕ × Node)
  nodes ps = filter_map (λ p. option_map (under p) (node_at options files p)) ps

  find_one :
      (p : List ℕ) (ps : List (List ℕ)) (q : List ℕ) (b : Bool) (o : Option Node) → bytes_eq q p ≡ b → node_at options files p ≡ o
      → find (slice_cmp nat_cmp) q (nodes ps) ≡ cond (list_any (bytes_eq q) ps) (node_at options files q) None
      → find (slice_cmp nat_cmp) q (nodes (p ∷ ps)) ≡ cond (bytes_eq q p || list_any (bytes_eq q) ps) (node_at options files q) None
  unfolding nodes
  find_one p ps q true None e h k =
      let here : node_at options files q ≡ None = ap (λ z. node_at options files z) (same_path q p e) ∙ h in
      ap (λ o. find (slice_cmp nat_cmp) q (cons_option (option_map (under p) o) (nodes ps))) h
      ∙ k ∙ none_either (list_any (bytes_eq q) ps) (node_at options files q) here
      ∙ sym (ap (λ b. cond (b || list_any (bytes_eq q) ps) (node_at options files q) None) e ∙ here)
  find_one p ps q true (Some node) e h k =
      ap (λ o. find (slice_cmp nat_cmp) q (cons_option (option_map (under p) o) (nodes ps))) h
      ∙ ap (λ b. cond b (Some node) (find (slice_cmp nat_cmp) q (nodes ps))) (is_eq-slice_cmp q p ∙ e)
      ∙ sym (ap (λ b. cond (b || list_any (bytes_eq q) ps) (node_at options files q) None) e ∙ ap (λ z. node_at options files z) (same_path q p e) ∙ h)
  find_one p ps q false None e h k =
      ap (λ o. find (slice_cmp nat_cmp) q (cons_option (option_map (under p) o) (nodes ps))) h
      ∙ k ∙ sym (ap (λ b. cond (b || list_any (bytes_eq q) ps) (node_at options files q) None) e)
  find_one p ps q false (Some node) e h k =
      ap (λ o. find (slice_cmp nat_cmp) q (cons_option (option_map (under p) o) (nodes ps))) h
      ∙ ap (λ b. cond b (Some node) (find (slice_cmp nat_cmp) q (nodes ps))) (is_eq-slice_cmp q p ∙ e)
      ∙ k ∙ sym (ap (λ b. cond (b || list_any (bytes_eq q) ps) (node_at options files q) None) e)

  find_nodes : (ps : List (List ℕ)) (q : List ℕ) → find (slice_cmp nat_cmp) q (nodes ps) ≡ cond (list_any (bytes_eq q) ps) (node_at options files q) None
  unfolding nodes
  find_nodes [] q = refl
  find_nodes (p ∷ ps) q = find_one p ps q (bytes_eq q p) (node_at options files p) refl refl (find_nodes ps q)

  -- the graph of some paths has the module at each of them
  pub get_graph : (ps : List (List ℕ)) (q : List ℕ) → get (graph_of options files ps) q ≡ cond (list_any (bytes_eq q) ps) (node_at options files q) None
  unfolding nodes
  get_graph ps q = get-from_entries nat_list_cmp_total (nodes ps) q ∙ find_nodes ps q

  -- ---- what each module requires

  -- what a module requires
  abbrev required : Node → List (List ℕ)
  required node = files_of node.links

  find_required : (q : List ℕ) (es : List (List ℕ × Node)) → find (slice_cmp nat_cmp) q (map (λ e. (e.0, required e.1)) es) ≡ option_map required (find (slice_cmp nat_cmp) q es)
  find_required q [] = refl
  find_required q (e ∷ es) = elim (cases_Bool (eq_by_cmp (slice_cmp nat_cmp) q e.0)) [
    | inl here ↦ rw here refl
    | inr apart ↦ rw apart (find_required q es)
  ]

  get_required : (graph : GraphMap) (q : List ℕ) → get (edges_in graph) q ≡ option_map required (get graph q)
  get_required graph q = get-from_entries nat_list_cmp_total (map (λ e. (e.0, required e.1)) (entries graph)) q ∙ find_required q (entries graph) ∙ ap (option_map required) (sym (get-entries graph q))

  required_by : (q : List ℕ) (b : Bool) → (b ≡ true → HasNode q) → cond b (Some (edges options files q)) None ≡ option_map required (cond b (node_at options files q) None)
  required_by q true h = let n = h refl in ap Some (sym n.1.1) ∙ ap (option_map required) (sym n.1.0)
  required_by q false h = refl

  -- where each of some paths has a module, that requires its edges
  edges_are : (ps : List (List ℕ)) → ((q : List ℕ) → list_any (bytes_eq q) ps ≡ true → HasNode q) → edges_of options files ps ≡ edges_in (graph_of options files ps)
  edges_are ps h = same_map nat_list_cmp_total texts_antisymmetric (edges_of options files ps) (edges_in (graph_of options files ps)) (λ q.
      get-from_entries nat_list_cmp_total (map (λ p. (p, edges options files p)) ps) q ∙ find_made (edges options files) ps q
      ∙ required_by q (list_any (bytes_eq q) ps) (h q)
      ∙ ap (option_map required) (sym (get_graph ps q))
      ∙ sym (get_required (graph_of options files ps) q))

-- ---- the fresh graph

module _ (ask : Ask) (files : Snapshot) where
  each_none : (ps : List (List ℕ)) (q : List ℕ) → flat_map (faults_at ask.options files) ps ≡ [] → list_any (bytes_eq q) ps ≡ true → faults_at ask.options files q ≡ []
  each_none [] q h k = absurd (false≢true k)
  each_none (p ∷ ps) q h k = elim (or_cases (bytes_eq q p) (list_any (bytes_eq q) ps) k) [
    | inl e ↦ subst (λ z. faults_at ask.options files z ≡ []) (sym (same_path q p e)) (first_none (faults_at ask.options files p) (flat_map (faults_at ask.options files) ps) h)
    | inr e ↦ each_none ps q (rest_none (faults_at ask.options files p) (flat_map (faults_at ask.options files) ps) h) e
  ]

  members_clean : (many : Bool) (faults : List BuildFault) → cond many (TooManyModules ∷ []) faults ≡ [] → (many ≡ false) × (faults ≡ [])
  members_clean true faults h = cc
  members_clean false faults h = (refl, h)

  -- where there is no fault, each path that is reached has its module
  reached_node : all_faults ask files ≡ [] → (q : List ℕ) → list_any (bytes_eq q) (reach ask files) ≡ true → HasNode ask.options files q
  reached_node none q h =
      let clean = members_clean (nat_lt max_modules (length (reach ask files))) (flat_map (faults_at ask.options files) (members ask files)) none in
      clean_node ask.options files q (each_none (members ask files) q clean.1
      (has_ascending (ask.entries ++ reach ask files) q ∙ list_any-append (bytes_eq q) ask.entries (reach ask files) ∙ or_right (list_any (bytes_eq q) ask.entries) (list_any (bytes_eq q) (reach ask files)) h))

  decided_edges : (faults : List BuildFault) → all_faults ask files ≡ faults → decided (edges_of ask.options files (reach ask files)) faults ≡ edges_found (decided (graph_of ask.options files (reach ask files)) faults)
  decided_edges [] h = ap Ok (edges_are ask.options files (reach ask files) (reached_node h))
  decided_edges (fault ∷ faults) h = refl

  -- the fresh graph with its outputs has the edges of the fresh graph
  pub fresh_edges : fresh ask files ≡ edges_found (fresh_graph ask files)
  fresh_edges = decided_edges (all_faults ask files) refl

  module _ (graph : GraphMap) (built : fresh_graph ask files ≡ Ok graph) where
    decided_is : (faults : List BuildFault) → decided (graph_of ask.options files (reach ask files)) faults ≡ Ok graph → (faults ≡ []) × (graph_of ask.options files (reach ask files) ≡ graph)
    decided_is [] h = (refl, cc)
    decided_is (fault ∷ faults) h = cc

    no_faults : all_faults ask files ≡ []
    no_faults = (decided_is (all_faults ask files) built).0

    -- it has the module at each path that is reached
    pub fresh_node : (q : List ℕ) → get graph q ≡ cond (list_any (bytes_eq q) (reach ask files)) (node_at ask.options files q) None
    fresh_node q = ap (λ g. get g q) (sym (decided_is (all_faults ask files) built).1) ∙ get_graph ask.options files (reach ask files) q

    has_node : (q : List ℕ) (b : Bool) → (b ≡ true → HasNode ask.options files q) → is_some (cond b (node_at ask.options files q) None) ≡ b
    has_node q true h = ap is_some (h refl).1.0
    has_node q false h = refl

    -- and no other
    pub fresh_keys : keys graph ≡ reach ask files
    fresh_keys = same_paths (keys graph) (reach ask files) (keys_sorted (slice_cmp nat_cmp) graph) (reach_ascending ask files) (λ q.
        sym (has_key q (keys graph)) ∙ sym (contains_key-keys graph q) ∙ ap is_some (fresh_node q) ∙ has_node q (list_any (bytes_eq q) (reach ask files)) (reached_node no_faults q))

    some_is : (b : Bool) (o : Option Node) (node : Node) → cond b o None ≡ Some node → (b ≡ true) × (o ≡ Some node)
    some_is true o node h = (refl, h)
    some_is false o node h = cc

    -- a module is reached, and its links lead to its edges
    pub fresh_links : (p : List ℕ) (node : Node) → get graph p ≡ Some node → (list_any (bytes_eq p) (reach ask files) ≡ true) × (files_of node.links ≡ edges ask.options files p)
    fresh_links p node h =
        let s = some_is (list_any (bytes_eq p) (reach ask files)) (node_at ask.options files p) node (sym (fresh_node p) ∙ h) in
        let n = reached_node no_faults p s.0 in
        let e : n.0 ≡ node = let k = sym n.1.0 ∙ s.1 in cc in
        (s.0, ap (λ (m : Node). files_of m.links) (sym e) ∙ n.1.1)

    -- there are 65,536 modules at most
    pub fresh_size : len graph ≤ 65536
    fresh_size =
        let few = (members_clean (nat_lt max_modules (length (reach ask files))) (flat_map (faults_at ask.options files) (members ask files)) no_faults).0 in
        let small : length (reach ask files) ≤ 65536 = grind (arith, nat_tests) in
        let same : length (keys graph) ≡ length (reach ask files) = ap length fresh_keys in
        let many : length (keys graph) ≡ len graph = length-map (entries graph) (λ (e : List ℕ × Node). e.0) ∙ sym (len-entries graph) in
        omega (arith, small, same, many)
