-- The modules that a revision has of a graph.
use Rattle.std.proofs.Common.{◌≡◌, ◌∙◌, ℕ, Bool, true, false, cond, List, [], ◌∷◌, map, length, nat_lt, Option, Some, None, Result, Ok, Err, IfOk, refl, ap, sym, subst}
use Rattle.std.specs.List.{AllByRecursion, cons_option, filter_map, list_all}
use Rattle.std.specs.List.Sorted.{IsStrictlySortedBy}
use Rattle.std.specs.Option.{option_and_then, option_map, option_map_or, option_or}
use Rattle.std.specs.Result.{result_ok}
use Rattle.std.specs.Ordering.{nat_cmp, eq_by_cmp}
use Rattle.std.specs.Cmp.{nat_cmp_total, tied_itself, unsigned_tied}
use Rattle.std.specs.Cmp.Lexicographic.{slice_cmp, nat_list_cmp_total}
use Rattle.std.specs.FinMap.{empty, entries, find, from_entries, get, get-empty, get-from_entries, get-insert, insert, nat_cmp-IsAntisymmetric, same_map}
use Rattle.std.specs.declared.cmp.Ordering.TheVariants.{Less, Equal}
use Rattle.std.proofs.lemmas.Bool.{and_parts}
use Rattle.std.proofs.lemmas.Map.Keys.{sorted_head, sorted_tail}
use Rattle.mt_containers.proofs.Tables.{entries_by, keys_sorted}
use Rattle.mt_tokens.specs.Deps.{Dependency}
use Rattle.mt_tokens.specs.Transform.{Transformed, dependencies_of, transformed}
use Rattle.mt_tokens.specs.declared.source.SourceFault.{SourceFault}
use Rattle.mt_package.specs.declared.options.Options.{Options}
use Rattle.mt_files.specs.Asks.{Ask}
use Rattle.mt_files.specs.Snapshots.{Snapshot, source_at}
use Rattle.mt_files.specs.Edges.{kind_of, target_of}
use Rattle.mt_files.specs.Fresh.{all_faults, decided}
use Rattle.mt_files.specs.Reach.{reach}
use Rattle.mt_files.specs.declared.build_fault.BuildFault.{BuildFault}
use Rattle.mt_files.proofs.Reach.{reach_ascending}
use Rattle.mt_transform.specs.Outputs.{name_of, output_made, output_of}
use Rattle.mt_graph.specs.Founds.{found_at, link_of, links_of}
use Rattle.mt_graph.specs.Graphs.{GraphMap, fresh_graph, graph_of, node_at, node_of, under}
use Rattle.mt_graph.specs.declared.graph.Node.{Node}
use Rattle.mt_revision.specs.Numberings.{has_path, number_in, place_in}
use Rattle.mt_revision.specs.Texts.{Modules}
use Rattle.mt_revision.specs.Contents.{HasContent, module_at, modules_at, numbered_module, numbers_of, revision_after, slot_of}
use Rattle.mt_revision.specs.Revisions.{made_after}
use Rattle.mt_revision.specs.declared.modules.Module.{Module}
use Rattle.mt_revision.specs.declared.revision.Revision.{Revision}
use Rattle.mt_revision.proofs.Extensions.{place_has}
use Rattle.mt_revision.proofs.Numbers.{path_of_number}
use Rattle.mt_revision.proofs.Revisions.{after_content}
use Rattle.mt_revision.proofs.Sets.{same_number}
use Rattle.mt_fresh.specs.GraphRevisions.{module_of_node, modules_of_graph, numbered_node, slot_of_link}

-- ---- the number of a path

place_by : (k n : ℕ) (b : Bool) → cond b (Some k) None ≡ Some n → (b ≡ true) × (k ≡ n)
place_by k n true h = (refl, let e : k ≡ n = cc in e)
place_by k n false h = cc

-- a path that has a number is there
placed : (ps : List (List ℕ)) (q : List ℕ) (n : ℕ) → place_in ps q ≡ Some n → (has_path ps q ≡ true) × (number_in ps q ≡ n)
placed ps q n h = let p = place_by (number_in ps q) n (nat_lt (number_in ps q) (length ps)) h in (sym (place_has ps q) ∙ p.0, p.1)

-- a path that is there has a number
place_there : (ps : List (List ℕ)) (q : List ℕ) → has_path ps q ≡ true → place_in ps q ≡ Some (number_in ps q)
place_there ps q h = ap (λ b. cond b (Some (number_in ps q)) None) (place_has ps q ∙ h)

-- paths with one number are one path
same_place : (ps : List (List ℕ)) (p q : List ℕ) (n : ℕ) → place_in ps p ≡ Some n → place_in ps q ≡ Some n → p ≡ q
same_place ps p q n h k =
    let a = placed ps p n h in
    let b = placed ps q n k in
    path_of_number ps p q a.0 b.0 (a.1 ∙ sym b.1)

-- ---- the loop over a graph

module _ (numbering : List (List ℕ)) where
  -- the modules of some nodes
  abbrev pub modules_of : List (List ℕ × Node) → List (ℕ × Module)
  modules_of es = filter_map (numbered_node numbering) es

  later_by : (k : ℕ) (p : List ℕ) (e : List ℕ × Node) (es : List (List ℕ × Node)) (o : Option ℕ) → place_in numbering p ≡ Some k → place_in numbering e.0 ≡ o → slice_cmp nat_cmp p e.0 ≡ Less → find nat_cmp k (modules_of es) ≡ None
      → find nat_cmp k (cons_option (option_map (λ number. (number, module_of_node numbering e.0 e.1)) o) (modules_of es)) ≡ None
  later_by k p e es None h i w n = n
  later_by k p e es (Some j) h i w n =
      elim (eq_by_cmp nat_cmp k j) as (λ b. eq_by_cmp nat_cmp k j ≡ b → cond b (Some (module_of_node numbering e.0 e.1)) (find nat_cmp k (modules_of es)) ≡ None) [
        | true ↦ λ t.
            let is : k ≡ j = same_number k j (sym (unsigned_tied k j) ∙ t) in
            let same : p ≡ e.0 = same_place numbering p e.0 k h (i ∙ ap Some (sym is)) in
            let tied : Less ≡ Equal = sym w ∙ ap (slice_cmp nat_cmp p) (sym same) ∙ tied_itself nat_list_cmp_total p in
            cc
        | false ↦ λ t. n
      ] refl

  -- no later path has the number of the first
  not_later : (k : ℕ) (p : List ℕ) (es : List (List ℕ × Node)) → place_in numbering p ≡ Some k → AllByRecursion (λ q. slice_cmp nat_cmp p q ≡ Less) (map (λ e. e.0) es) → find nat_cmp k (modules_of es) ≡ None
  not_later k p [] h w = refl
  not_later k p (e ∷ es) h w = later_by k p e es (place_in numbering e.0) h refl w.0 (not_later k p es h w.1)

  kept_by : (n k : ℕ) (m : Module) (left held : Option Module) (b : Bool) → eq_by_cmp nat_cmp n k ≡ b → (b ≡ true → left ≡ None) → option_or left (cond b (Some m) held) ≡ option_or (cond b (Some m) left) held
  kept_by n k m left held true e h = ap (λ o. option_or o (Some m)) (h refl)
  kept_by n k m left held false e h = refl

  step_by : (p : List ℕ) (node : Node) (es : List (List ℕ × Node)) (M : Modules) (n : ℕ) (o : Option ℕ) → place_in numbering p ≡ o → AllByRecursion (λ q. slice_cmp nat_cmp p q ≡ Less) (map (λ e. e.0) es)
      → option_or (find nat_cmp n (modules_of es)) (get (option_map_or (λ number. insert M number (module_of_node numbering p node)) o M) n)
      ≡ option_or (find nat_cmp n (cons_option (option_map (λ number. (number, module_of_node numbering p node)) o) (modules_of es))) (get M n)
  step_by p node es M n None e w = refl
  step_by p node es M n (Some k) e w =
      ap (option_or (find nat_cmp n (modules_of es))) (get-insert nat_cmp_total M k (module_of_node numbering p node) n)
      ∙ kept_by n k (module_of_node numbering p node) (find nat_cmp n (modules_of es)) (get M n) (eq_by_cmp nat_cmp n k) refl (λ t. ap (λ z. find nat_cmp z (modules_of es)) (same_number n k (sym (unsigned_tied n k) ∙ t)) ∙ not_later k p es e w)

  -- one more node is kept
  pub kept_step :
      (p : List ℕ) (node : Node) (it es : List (List ℕ × Node)) (M N : Modules) (n : ℕ) → it ≡ (p, node) ∷ es → IsStrictlySortedBy (slice_cmp nat_cmp) (map (λ e. e.0) it)
      → N ≡ option_map_or (λ number. insert M number (module_of_node numbering p node)) (place_in numbering p) M → option_or (find nat_cmp n (modules_of es)) (get N n) ≡ option_or (find nat_cmp n (modules_of it)) (get M n)
  kept_step p node it es M N n e s h =
      ap (λ z. option_or (find nat_cmp n (modules_of es)) (get z n)) h
      ∙ step_by p node es M n (place_in numbering p) refl (sorted_head (slice_cmp nat_cmp) p (map (λ x. x.0) es) (subst (λ z. IsStrictlySortedBy (slice_cmp nat_cmp) (map (λ x. x.0) z)) e s))
      ∙ ap (λ z. option_or (find nat_cmp n (modules_of z)) (get M n)) (sym e)

  pub sorted_rest : (p : List ℕ) (node : Node) (it es : List (List ℕ × Node)) → it ≡ (p, node) ∷ es → IsStrictlySortedBy (slice_cmp nat_cmp) (map (λ e. e.0) it) → IsStrictlySortedBy (slice_cmp nat_cmp) (map (λ e. e.0) es)
  sorted_rest p node it es e s = sorted_tail (slice_cmp nat_cmp) p (map (λ x. x.0) es) (subst (λ z. IsStrictlySortedBy (slice_cmp nat_cmp) (map (λ x. x.0) z)) e s)

  or_none : (o e : Option Module) → e ≡ None → option_or o e ≡ o
  or_none None e h = h
  or_none (Some m) e h = refl

  -- at first all is left
  pub kept_start : (graph : GraphMap) (it : List (List ℕ × Node)) (M : Modules) (n : ℕ) → it ≡ entries graph → M ≡ empty → option_or (find nat_cmp n (modules_of it)) (get M n) ≡ get (modules_of_graph numbering graph) n
  kept_start graph it M n e none =
      or_none (find nat_cmp n (modules_of it)) (get M n) (ap (λ z. get z n) none ∙ get-empty {X = Module} nat_cmp n)
      ∙ ap (λ z. find nat_cmp n (modules_of z)) e
      ∙ sym (get-from_entries nat_cmp_total (modules_of (entries graph)) n)

  pub sorted_start : (graph : GraphMap) (it : List (List ℕ × Node)) → it ≡ entries graph → IsStrictlySortedBy (slice_cmp nat_cmp) (map (λ e. e.0) it)
  sorted_start graph it e = subst (λ z. IsStrictlySortedBy (slice_cmp nat_cmp) (map (λ x. x.0) z)) (sym e) (keys_sorted (slice_cmp nat_cmp) graph)

  -- at the end all is kept
  pub kept_whole : (graph : GraphMap) (it : List (List ℕ × Node)) (M : Modules) → it ≡ [] → ((n : ℕ) → option_or (find nat_cmp n (modules_of it)) (get M n) ≡ get (modules_of_graph numbering graph) n) → M ≡ modules_of_graph numbering graph
  kept_whole graph it M e h = same_map nat_cmp_total nat_cmp-IsAntisymmetric M (modules_of_graph numbering graph) (λ n. ap (λ z. option_or (find nat_cmp n (modules_of z)) (get M n)) (sym e) ∙ h n)

-- ---- the modules of the fresh graph

module _ (options : Options) (numbering : List (List ℕ)) (files : Snapshot) where
  same_slots : (path : List ℕ) (ds : List Dependency) → map (slot_of numbering) (map (target_of options files path) ds) ≡ map (slot_of_link numbering) (map (link_of options files path) (map name_of ds))
  same_slots path [] = refl
  same_slots path (d ∷ ds) = ap (λ z. slot_of numbering (target_of options files path d) ∷ z) (same_slots path ds)

  -- the module at a path, where a source is or is not
  abbrev module_by : List ℕ → Option (List ℕ) → Option Module
  module_by path s =
      option_map (λ output. record { path = path; output = output; slots = map (slot_of numbering) (map (target_of options files path) (option_map_or dependencies_of (option_map (transformed options.strip (kind_of path)) s) [])) })
      (option_and_then result_ok (option_map (output_of options.strip (kind_of path)) s))

  made_by : (path source : List ℕ) (r : Result Transformed SourceFault)
      → option_map (λ output. record { path = path; output = output; slots = map (slot_of numbering) (map (target_of options files path) (dependencies_of r)) }) (result_ok (output_made options.strip (kind_of path) source r))
      ≡ option_map (module_of_node numbering path) (node_of (record { path = path; made = output_made options.strip (kind_of path) source r; links = links_of options files path (output_made options.strip (kind_of path) source r) }))
  made_by path source (Ok t) =
      ap (λ slots. Some (record { path = path; output = record { source = source; strip = options.strip; kind = kind_of path; body = t.body; names = map name_of t.dependencies; dynamic = t.dynamic }; slots = slots })) (same_slots path t.dependencies)
  made_by path source (Err f) = refl

  node_by : (path : List ℕ) (s : Option (List ℕ)) → module_by path s ≡ option_map (module_of_node numbering path) (option_and_then node_of (option_map (found_at options files path) s))
  node_by path None = refl
  node_by path (Some source) = made_by path source (transformed options.strip (kind_of path) source)

  -- the module at a path is that of the node there
  same_module : (path : List ℕ) → module_at options numbering files path ≡ option_map (module_of_node numbering path) (node_at options files path)
  same_module path = node_by path (source_at files path)

  -- the nodes at some paths
  abbrev nodes_of : List (List ℕ) → List (List ℕ × Node)
  nodes_of ps = filter_map (λ path. option_map (under path) (node_at options files path)) ps

  one_by : (path : List ℕ) (o : Option Node) (rest : List (List ℕ × Node)) → has_path numbering path ≡ true
      → modules_of numbering (cons_option (option_map (under path) o) rest) ≡ cons_option (option_map (λ m. (number_in numbering path, m)) (option_map (module_of_node numbering path) o)) (modules_of numbering rest)
  one_by path None rest h = refl
  one_by path (Some node) rest h = ap (λ z. cons_option (option_map (λ number. (number, module_of_node numbering path node)) z) (modules_of numbering rest)) (place_there numbering path h)

  -- the modules of the nodes at paths that have numbers are those at these paths
  same_all : (ps : List (List ℕ)) → list_all (has_path numbering) ps ≡ true → modules_of numbering (nodes_of ps) ≡ filter_map (numbered_module options numbering files) ps
  same_all [] h = refl
  same_all (p ∷ ps) h =
      let both = and_parts (has_path numbering p) (list_all (has_path numbering) ps) h in
      one_by p (node_at options files p) (nodes_of ps) both.0
      ∙ ap (λ o. cons_option (option_map (λ m. (number_in numbering p, m)) o) (modules_of numbering (nodes_of ps))) (sym (same_module p))
      ∙ ap (cons_option (numbered_module options numbering files p)) (same_all ps both.1)

  above_by : (p q : List ℕ) (o : Option Node) (rest : List (List ℕ × Node)) → slice_cmp nat_cmp p q ≡ Less → AllByRecursion (λ y. slice_cmp nat_cmp p y ≡ Less) (map (λ e. e.0) rest) → AllByRecursion (λ y. slice_cmp nat_cmp p y ≡ Less) (map (λ e. e.0) (cons_option (option_map (under q) o) rest))
  above_by p q None rest w h = h
  above_by p q (Some node) rest w h = (w, h)

  above_all : (p : List ℕ) (ps : List (List ℕ)) → AllByRecursion (λ y. slice_cmp nat_cmp p y ≡ Less) ps → AllByRecursion (λ y. slice_cmp nat_cmp p y ≡ Less) (map (λ e. e.0) (nodes_of ps))
  above_all p [] h = tt
  above_all p (q ∷ qs) h = above_by p q (node_at options files q) (nodes_of qs) h.0 (above_all p qs h.1)

  sorted_by : (p : List ℕ) (o : Option Node) (rest : List (List ℕ × Node)) → AllByRecursion (λ y. slice_cmp nat_cmp p y ≡ Less) (map (λ e. e.0) rest) → IsStrictlySortedBy (slice_cmp nat_cmp) (map (λ e. e.0) rest) → IsStrictlySortedBy (slice_cmp nat_cmp) (map (λ e. e.0) (cons_option (option_map (under p) o) rest))
  unfolding IsStrictlySortedBy
  sorted_by p None rest h s = s
  sorted_by p (Some node) rest h s = (h, s)

  sorted_nothing : IsStrictlySortedBy (slice_cmp nat_cmp) []
  unfolding IsStrictlySortedBy
  sorted_nothing = tt

  sorted_nodes : (ps : List (List ℕ)) → IsStrictlySortedBy (slice_cmp nat_cmp) ps → IsStrictlySortedBy (slice_cmp nat_cmp) (map (λ e. e.0) (nodes_of ps))
  unfolding IsStrictlySortedBy
  sorted_nodes [] s = sorted_nothing
  sorted_nodes (p ∷ ps) s = sorted_by p (node_at options files p) (nodes_of ps) (above_all p ps s.0) (sorted_nodes ps s.1)

graph_by : (ask : Ask) (files : Snapshot) (graph : GraphMap) (faults : List BuildFault) → decided (graph_of ask.options files (reach ask files)) faults ≡ Ok graph → (faults ≡ []) × (graph ≡ graph_of ask.options files (reach ask files))
graph_by ask files graph [] h = (refl, let e : graph ≡ graph_of ask.options files (reach ask files) = cc in e)
graph_by ask files graph (f ∷ fs) h = cc

-- a fresh graph has no fault, and is that of what is reached
pub fresh_parts : (ask : Ask) (files : Snapshot) (graph : GraphMap) → fresh_graph ask files ≡ Ok graph → (all_faults ask files ≡ []) × (graph ≡ graph_of ask.options files (reach ask files))
fresh_parts ask files graph h = graph_by ask files graph (all_faults ask files) h

-- the modules of the fresh graph are those that the entries reach
pub fresh_modules : (ask : Ask) (numbering : List (List ℕ)) (files : Snapshot) (graph : GraphMap) → fresh_graph ask files ≡ Ok graph → list_all (has_path numbering) (reach ask files) ≡ true → modules_of_graph numbering graph ≡ modules_at ask numbering files
fresh_modules ask numbering files graph h k =
    ap (modules_of_graph numbering) (fresh_parts ask files graph h).1
    ∙ ap (λ es. from_entries (modules_of numbering es)) (entries_by nat_list_cmp_total (nodes_of ask.options numbering files (reach ask files)) (sorted_nodes ask.options numbering files (reach ask files) (reach_ascending ask files)))
    ∙ ap from_entries (same_all ask.options numbering files (reach ask files) k)

-- ---- revisions

-- the revision of the fresh graph is the one that comes after the one before
pub fresh_revision :
    (ask : Ask) (files : Snapshot) (options : Options) (starts : List (List ℕ)) (graph : GraphMap) (before : Option Revision) (changes : ℕ) (numbering : List (List ℕ)) → ask ≡ record { options = options; entries = starts }
    → fresh_graph ask files ≡ Ok graph → list_all (has_path numbering) (reach ask files) ≡ true → made_after before options.dev changes (numbers_of numbering starts) (modules_of_graph numbering graph) ≡ revision_after ask before changes numbering files
fresh_revision ask files options starts graph before changes numbering e h k =
    ap (made_after before options.dev changes (numbers_of numbering starts)) (fresh_modules ask numbering files graph h k)
    ∙ ap (λ a. made_after before a.options.dev changes (numbers_of numbering a.entries) (modules_at ask numbering files)) (sym e)

-- it has what is asked for
pub fresh_content : (ask : Ask) (files : Snapshot) (graph : GraphMap) (before : Option Revision) (changes : ℕ) (numbering : List (List ℕ)) (r : Revision) → fresh_graph ask files ≡ Ok graph → list_all (has_path numbering) (reach ask files) ≡ true
    → r ≡ revision_after ask before changes numbering files → HasContent ask r numbering files
fresh_content ask files graph before changes numbering r h k e = subst (λ z. HasContent ask z numbering files) (sym e) (after_content ask before changes numbering files (fresh_parts ask files graph h).0 k)

-- what follows for the value of an Ok
pub when_ok : {X E : Type 0} (r : Result X E) (P Q : X → Type 0) → ((x : X) → P x → Q x) → IfOk r P → IfOk r Q
when_ok (Ok x) P Q f h = f x h
when_ok (Err e) P Q f h = h
