-- What is explored from the entries, and what it comes to.
use Rattle.std.proofs.Common.{◌≡◌, ◌∙◌, List, ℕ, filter, length, ap, subst, sym, true}
use Rattle.std.specs.List.{All}
use Rattle.std.specs.List.Sorted.{IsStrictlySortedBy}
use Rattle.std.specs.Ordering.{nat_cmp}
use Rattle.std.specs.Cmp.Lexicographic.{slice_cmp}
use Rattle.std.specs.FinMap.{empty}
use Rattle.std.proofs.lemmas.List.{length-map}
use Rattle.std.proofs.lemmas.List.Elements.{filter_passes}
use Rattle.mt_files.specs.Asks.{Ask}
use Rattle.mt_files.specs.Snapshots.{Snapshot, has_source}
use Rattle.mt_files.specs.Reach.{reach, source_entries}
use Rattle.mt_files.specs.Fresh.{all_faults}
use Rattle.mt_graph.specs.Founds.{paths_of}
use Rattle.mt_graph.specs.Explored.{explored}
use Rattle.mt_graph.specs.Graphs.{fresh_graph}
use Rattle.mt_graph.specs.Judged.{judged, judged_faults}
use Rattle.mt_graph.specs.declared.found.Found.{Found}
use Rattle.mt_graph.proofs.Explored.{entry_sources, explored_ascending}
use Rattle.mt_graph.proofs.Judged.{explored_faults, explored_graph, founds_paths}
use Rattle.mt_fresh.specs.Calls.{calls_in, dynamic_calls}
use Rattle.mt_fresh.proofs.Calls.{calls_explored}

-- the entries that are sources are sources
pub seeds_are_sources : (files : Snapshot) (entries seeds : List (List ℕ)) → seeds ≡ filter (has_source files) entries → All (λ seed. has_source files seed ≡ true) seeds
seeds_are_sources files entries seeds h = subst (All (λ seed. has_source files seed ≡ true)) (sym h) (filter_passes (has_source files) entries)

module _ (ask : Ask) (files : Snapshot) (founds : List Found) (found : founds ≡ explored ask.options files (source_entries ask files) empty) where
  pub founds_ascending : IsStrictlySortedBy (slice_cmp nat_cmp) (paths_of founds)
  founds_ascending = subst (λ fs. IsStrictlySortedBy (slice_cmp nat_cmp) (paths_of fs)) (sym found) (explored_ascending ask.options files empty (source_entries ask files) (entry_sources ask files))

  pub founds_faults : judged_faults ask.entries founds ≡ all_faults ask files
  founds_faults = ap (judged_faults ask.entries) found ∙ explored_faults ask files

  pub founds_graph : judged ask.entries founds ≡ fresh_graph ask files
  founds_graph = ap (judged ask.entries) found ∙ explored_graph ask files

  pub founds_modules : length founds ≡ length (reach ask files)
  founds_modules = sym (length-map founds (λ (f : Found). f.path)) ∙ ap (λ fs. length (paths_of fs)) found ∙ ap length (founds_paths ask files)

  pub founds_calls : calls_in founds ≡ dynamic_calls ask files
  founds_calls = ap calls_in found ∙ calls_explored ask files
