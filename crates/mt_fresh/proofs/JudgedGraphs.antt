-- The graph that an exploration from the entries comes to, be its outputs right or not.
use Rattle.std.proofs.Common.{◌≡◌, ◌∙◌, ◌≤◌, ◌⊎◌, inl, inr, ℕ, is_some, Bool, true, false, cond, List, [], ◌∷◌, ◌++◌, length, ap, sym, subst, refl, filter, nat_lt}
use Rattle.std.specs.Prelude.{Result, Ok, Err, IfOk}
use Rattle.std.specs.List.{All, flat_map, list_any}
use Rattle.std.specs.FinMap.{contains_key, contains_key-keys, empty, keys, len-entries, entries}
use Rattle.std.specs.Str.{bytes_eq}
use Rattle.std.proofs.lemmas.Bool.{ltb-false}
use Rattle.std.proofs.lemmas.List.{length-map}
use Rattle.std.proofs.lemmas.List.Elements.{All-cons, All-map, All-nil}
use Rattle.mt_files.specs.Asks.{Ask}
use Rattle.mt_files.specs.Fresh.{ascending, decided, max_modules}
use Rattle.mt_files.specs.Snapshots.{Snapshot, has_source}
use Rattle.mt_files.specs.declared.build_fault.BuildFault.{BuildFault}
use Rattle.mt_files.specs.declared.build_fault.BuildFault.TheVariants.{NoMemory, TooManyModules}
use Rattle.mt_files.proofs.PathLists.{Has, has_head, has_key, has_tail}
use Rattle.mt_graph.specs.Explored.{IsExploration}
use Rattle.mt_graph.specs.Founds.{paths_of}
use Rattle.mt_graph.specs.Graphs.{GraphMap}
use Rattle.mt_graph.specs.Judged.{faults_with, judged, judged_graph}
use Rattle.mt_graph.specs.declared.found.Found.{Found}
use Rattle.mt_graph.specs.declared.graph.Node.{Node}
use Rattle.mt_graph.proofs.Members.{entry_found, judged_keys}
use Rattle.mt_fresh.specs.JudgedGraphs.{IsGraphOf}

-- what holds of each path of a list holds of all
all_paths : (P : List ℕ → Type 0) (ps : List (List ℕ)) → ((q : List ℕ) → Has ps q → P q) → All P ps
all_paths P [] h = All-nil P
all_paths P (p ∷ ps) h = All-cons P p ps (h p (has_head p ps)) (all_paths P ps (λ q k. h q (has_tail p q ps k)))

-- a graph came of no fault
record IsClean (es : List (List ℕ)) (fs : List Found) (graph : GraphMap) : Type 0 where
  few : length fs ≤ max_modules
  none : flat_map (faults_with fs) (ascending (es ++ paths_of fs)) ≡ []
  same : judged_graph fs ≡ graph

clean_by : (es : List (List ℕ)) (fs : List Found) (graph : GraphMap) (b : Bool) (faults : List BuildFault) → nat_lt max_modules (length fs) ≡ b
    → flat_map (faults_with fs) (ascending (es ++ paths_of fs)) ≡ faults → decided (judged_graph fs) (cond b (TooManyModules ∷ []) faults) ≡ Ok graph → IsClean es fs graph
clean_by es fs graph true faults e f h = absurd (cc)
clean_by es fs graph false (fault ∷ faults) e f h = absurd (cc)
clean_by es fs graph false [] e f h = record { few = ltb-false max_modules (length fs) e; none = f; same = cc }

clean : (es : List (List ℕ)) (fs : List Found) (graph : GraphMap) → judged es fs ≡ Ok graph → IsClean es fs graph
clean es fs graph h = clean_by es fs graph (nat_lt max_modules (length fs)) (flat_map (faults_with fs) (ascending (es ++ paths_of fs))) refl refl h

module _ (ask : Ask) (files : Snapshot) (fs : List Found) (whole : IsExploration ask.options files (filter (has_source files) ask.entries) empty fs) where
  graph_of_clean : (graph : GraphMap) → IsClean ask.entries fs graph → IsGraphOf ask files graph
  graph_of_clean graph h =
      let at : keys graph ≡ paths_of fs = ap keys (sym h.same) ∙ judged_keys ask.entries fs whole.ascending h.none in
      record {
        few = subst (λ n. n ≤ max_modules) (sym (len-entries graph ∙ sym (length-map (entries graph) (λ (e : List ℕ × Node). e.0)) ∙ ap length at ∙ length-map fs (λ (f : Found). f.path))) h.few;
        there = subst (All (λ path. has_source files path ≡ true)) (sym at) (All-map (λ path. has_source files path ≡ true) (λ (f : Found). f.path) fs (λ k d lt. ap is_some (whole.each k d lt).there));
        entries = all_paths (λ entry. contains_key graph entry ≡ true) ask.entries (λ q k.
            contains_key-keys graph q ∙ has_key q (keys graph) ∙ ap (list_any (bytes_eq q)) at ∙ entry_found ask.entries fs q h.none k);
      }

  -- what an exploration from the entries comes to, if it is a graph
  pub graph_judged : (r : Result GraphMap BuildFault) → (r ≡ Err NoMemory) ⊎ (r ≡ judged ask.entries fs) → IfOk r (IsGraphOf ask files)
  graph_judged (Ok graph) (inl lacks) = absurd (cc)
  graph_judged (Ok graph) (inr is) = graph_of_clean graph (clean ask.entries fs graph (sym is))
  graph_judged (Err fault) h = tt
