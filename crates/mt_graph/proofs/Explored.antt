-- What is explored from seeds that are sources.
use Rattle.std.proofs.Common.{inl, inr, ◌⊎◌, ◌≡◌, ◌∙◌, ◌||◌, ℕ, Bool, true, false, not, cond, List, [], ◌∷◌, ◌++◌, map, filter, length, Option, Some, None, Result, Ok, Err, is_some, refl, ap, sym, subst}
use Rattle.std.specs.Prelude.{◌↔◌}
use Rattle.std.specs.List.{All, Contains, cons_option, filter_map, list_any}
use Rattle.std.specs.List.Sorted.{IsStrictlySortedBy}
use Rattle.std.specs.Option.{option_map, option_map_or}
use Rattle.std.specs.Ordering.{nat_cmp}
use Rattle.std.specs.Cmp.Lexicographic.{slice_cmp}
use Rattle.std.specs.FinMap.{contains_key, empty, get, get-empty, keys}
use Rattle.std.specs.Str.{bytes_eq}
use Rattle.std.proofs.lemmas.Bool.{cases_Bool, false≢true}
use Rattle.std.proofs.lemmas.List.Elements.{All-cons, All-nil}
use Rattle.std.proofs.lemmas.List.Kept.{IsStrictlySortedBy-filter}
use Rattle.std.proofs.lemmas.Slice.Eq.{bytes_eq-Decides}
use Rattle.mt_containers.specs.Walks.{IsClosed, IsReached, is_end_within, reach_among}
use Rattle.mt_containers.proofs.Members.{contains_any, contains_filter}
use Rattle.mt_containers.proofs.Tables.{keys_sorted}
use Rattle.mt_containers.proofs.Walks.{among_reached, reached_among, reached_least, reached_start, reached_step}
use Rattle.mt_tokens.specs.Transform.{Transformed, transformed}
use Rattle.mt_tokens.specs.declared.source.PathKind.{PathKind}
use Rattle.mt_tokens.specs.declared.source.SourceFault.{SourceFault}
use Rattle.mt_transform.specs.Outputs.{output_made}
use Rattle.mt_transform.specs.declared.output.Output.{Output}
use Rattle.mt_package.specs.declared.options.Options.{Options}
use Rattle.mt_files.specs.Asks.{Ask}
use Rattle.mt_files.specs.Snapshots.{Snapshot, has_source, source_at}
use Rattle.mt_files.specs.Edges.{edges, kind_of}
use Rattle.mt_files.specs.Reach.{reach, source_entries}
use Rattle.mt_files.proofs.PathLists.{has_contains}
use Rattle.mt_files.proofs.Reach.{edge_is_source, source_is_key}
use Rattle.mt_graph.specs.Founds.{files_of, found_at, found_in, found_with, links_of, made_of, paths_of}
use Rattle.mt_graph.specs.Explored.{IsExploration, IsFound, IsMade, Known, explored, explored_paths, steps_in, unknown, unknown_edges}
use Rattle.mt_graph.specs.declared.found.Found.{Found}
use Rattle.mt_graph.proofs.Founds.{found_there, found_with_in, links_lead, paths_found}

-- ---- what is found is something that its source became

output_keeps : (strip : Bool) (kind : PathKind) (source : List ℕ) (t : Result Transformed SourceFault) (output : Output) → output_made strip kind source t ≡ Ok output → (output.source ≡ source) × (output.strip ≡ strip) × (output.kind ≡ kind)
output_keeps strip kind source (Ok t) output h = (cc, cc, cc)
output_keeps strip kind source (Err fault) output h = (cc, cc, cc)

made_here : (options : Options) (p source : List ℕ) (made : Result Output SourceFault) → made_of options p source ≡ made → IsMade options p source made
made_here options p source (Ok output) h = output_keeps options.strip (kind_of p) source (transformed options.strip (kind_of p) source) output h
made_here options p source (Err fault) h = h

found_here : (options : Options) (files : Snapshot) (p source : List ℕ) → source_at files p ≡ Some source → IsFound options files (found_at options files p source)
found_here options files p source h = record { source = source; there = h; made = made_here options p source (made_of options p source) refl; links = refl }

each_one : (options : Options) (files : Snapshot) (p : List ℕ) (founds : List Found) (s : Option (List ℕ)) → source_at files p ≡ s → All (IsFound options files) founds → All (IsFound options files) (cons_option (option_map (found_at options files p) s) founds)
each_one options files p founds None h k = k
each_one options files p founds (Some source) h k = All-cons (IsFound options files) (found_at options files p source) founds (found_here options files p source h) k

each_found : (options : Options) (files : Snapshot) (ps : List (List ℕ)) → All (IsFound options files) (filter_map (found_in options files) ps)
each_found options files [] = All-nil (IsFound options files)
each_found options files (p ∷ ps) = each_one options files p (filter_map (found_in options files) ps) (source_at files p) refl (each_found options files ps)

-- ---- the paths that are explored

-- seeds of which each is a source
pub each_seed : (files : Snapshot) (seeds : List (List ℕ)) → All (λ seed. has_source files seed ≡ true) seeds → (q : List ℕ) → Contains seeds q → has_source files q ≡ true
each_seed files seeds h q (k, inside, is) = subst (λ z. has_source files z ≡ true) is (h k q inside)

module _ (options : Options) (files : Snapshot) (known : Known) (seeds : List (List ℕ)) (sources : (q : List ℕ) → Contains seeds q → has_source files q ≡ true) where
  abbrev step : List ℕ → List (List ℕ)
  step = unknown_edges options files known

  -- a step leads to a source
  step_source : (p q : List ℕ) → Contains (step p) q → has_source files q ≡ true
  step_source p q s = edge_is_source options files p q (contains_filter (λ path. not (contains_key known path)) (edges options files p) q s).0

  inside : (q : List ℕ) → has_source files q ≡ true → Contains (keys files) q
  inside q h = has_contains (keys files) q (source_is_key files q h)

  -- no walk leaves the files
  files_closed : IsClosed step seeds (keys files)
  files_closed = record { begun = λ q s. inside q (sources q s); followed = λ p q k s. inside q (step_source p q s) }

  pub reached_source : (q : List ℕ) → IsReached step seeds q → has_source files q ≡ true
  reached_source q h = reached_least step seeds (λ p. has_source files p ≡ true) sources (λ p next k s. step_source p next s) q h

  -- the paths that are explored are those that are reached
  pub explored_all : (q : List ℕ) → IsReached step seeds q → Contains (explored_paths options files seeds known) q
  explored_all q h = reached_among bytes_eq bytes_eq-Decides step seeds (keys files) files_closed q h

  pub explored_alone : (q : List ℕ) → Contains (explored_paths options files seeds known) q → IsReached step seeds q
  explored_alone q h = among_reached bytes_eq bytes_eq-Decides step seeds (keys files) q h

  pub explored_source : (q : List ℕ) → Contains (explored_paths options files seeds known) q → has_source files q ≡ true
  explored_source q h = reached_source q (explored_alone q h)

  pub paths_ascending : IsStrictlySortedBy (slice_cmp nat_cmp) (explored_paths options files seeds known)
  paths_ascending = IsStrictlySortedBy-filter (slice_cmp nat_cmp) (is_end_within bytes_eq step seeds (length (keys files))) (keys files) (keys_sorted (slice_cmp nat_cmp) files)

  pub explored_has_paths : paths_of (explored options files seeds known) ≡ explored_paths options files seeds known
  explored_has_paths = paths_found options files (explored_paths options files seeds known) explored_source

  pub explored_ascending : IsStrictlySortedBy (slice_cmp nat_cmp) (paths_of (explored options files seeds known))
  explored_ascending = subst (IsStrictlySortedBy (slice_cmp nat_cmp)) (sym explored_has_paths) paths_ascending

  -- ---- it is a whole exploration

  -- the links of what was found lead along the steps
  same_steps : (p : List ℕ) → Contains (explored_paths options files seeds known) p → steps_in known (explored options files seeds known) p ≡ step p
  same_steps p h =
      let f = found_there options files p (explored_source p h) in
      ap (λ o. option_map_or (λ (found : Found). unknown known (files_of found.links)) o []) (found_with_in options files (explored_paths options files seeds known) p ∙ ap (λ b. cond b (found_in options files p) None) (contains_any bytes_eq bytes_eq-Decides (explored_paths options files seeds known) p h) ∙ f.1.1)
      ∙ ap (unknown known) (links_lead options files p f.0 f.1.0)

  -- a path to which the steps lead, and the links that were found
  abbrev BothReached : List ℕ → Type 0
  BothReached q = IsReached step seeds q × IsReached (steps_in known (explored options files seeds known)) seeds q

  both_start : (q : List ℕ) → Contains seeds q → BothReached q
  both_start q s = (reached_start step seeds q s, reached_start (steps_in known (explored options files seeds known)) seeds q s)

  both_by : (p q : List ℕ) → BothReached p → Contains (step p) q → Contains (steps_in known (explored options files seeds known) p) q → BothReached q
  both_by p q h s t = (reached_step step seeds p q h.0 s, reached_step (steps_in known (explored options files seeds known)) seeds p q h.1 t)

  whole_ends : (q : List ℕ) → Contains (paths_of (explored options files seeds known)) q ↔ IsReached (steps_in known (explored options files seeds known)) seeds q
  whole_ends q = (
    λ h.
        (reached_least step seeds BothReached both_start
        (λ p next k s. both_by p next k s (subst (λ qs. Contains qs next) (sym (same_steps p (explored_all p k.0))) s))
        q (explored_alone q (subst (λ ps. Contains ps q) explored_has_paths h))).1,
    λ h.
        subst (λ ps. Contains ps q) (sym explored_has_paths)
        (explored_all q (reached_least (steps_in known (explored options files seeds known)) seeds BothReached both_start
        (λ p next k t. both_by p next k (subst (λ qs. Contains qs next) (same_steps p (explored_all p k.0)) t) t)
        q h).0),
  )

  pub explored_whole : IsExploration options files seeds known (explored options files seeds known)
  explored_whole = record { ascending = explored_ascending; each = each_found options files (explored_paths options files seeds known); ends = whole_ends }

-- ---- from the entries, where nothing is known

unknown_all : (paths : List (List ℕ)) → unknown empty paths ≡ paths
unknown_all [] = refl
unknown_all (p ∷ ps) =
    ap (λ o. cond (not (is_some o)) (p ∷ unknown empty ps) (unknown empty ps)) (get-empty {X = Unit {0}} (slice_cmp nat_cmp) p)
    ∙ ap (λ z. p ∷ z) (unknown_all ps)

pub entries_explored : (ask : Ask) (files : Snapshot) → explored_paths ask.options files (source_entries ask files) empty ≡ reach ask files
entries_explored ask files = λ i. reach_among bytes_eq (λ p. unknown_all (edges ask.options files p) i) (source_entries ask files) (keys files)

pub entry_sources : (ask : Ask) (files : Snapshot) (q : List ℕ) → Contains (source_entries ask files) q → has_source files q ≡ true
entry_sources ask files q h = (contains_filter (has_source files) ask.entries q h).1
