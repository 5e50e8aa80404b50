-- What an exploration finds: the modules to which seeds lead along paths that are not known.
use Rattle.std.specs.Prelude.{◌≡◌, ◌↔◌, ℕ, Bool, not, List, [], filter, Some, Ok, Err, Result}
use Rattle.std.specs.List.{All, Contains, filter_map}
use Rattle.std.specs.List.Sorted.{IsStrictlySortedBy}
use Rattle.std.specs.Option.{option_map_or}
use Rattle.std.specs.Ordering.{nat_cmp}
use Rattle.std.specs.Cmp.Lexicographic.{slice_cmp}
use Rattle.std.specs.FinMap.{FinMap, contains_key, keys}
use Rattle.std.specs.Str.{bytes_eq}
use Rattle.mt_containers.specs.Walks.{IsReached, reach_among}
use Rattle.mt_tokens.specs.declared.source.SourceFault.{SourceFault}
use Rattle.mt_package.specs.declared.options.Options.{Options}
use Rattle.mt_files.specs.Snapshots.{Snapshot, source_at}
use Rattle.mt_files.specs.Edges.{edges, kind_of}
use Rattle.mt_transform.specs.declared.output.Output.{Output}
use Rattle.mt_graph.specs.Founds.{files_of, found_in, found_with, links_of, made_of, paths_of}
use Rattle.mt_graph.specs.declared.found.Found.{Found}

-- paths that are known
abbrev pub Known : Type 0
Known = FinMap (slice_cmp nat_cmp) (Unit {0})

-- those of some paths that are not known, in their order
abbrev pub unknown : Known → List (List ℕ) → List (List ℕ)
unknown known paths = filter (λ path. not (contains_key known path)) paths

-- the paths that are not known and that a module requires
abbrev pub unknown_edges : Options → Snapshot → Known → List ℕ → List (List ℕ)
unknown_edges options files known path = unknown known (edges options files path)

-- the ends of the lists of paths that begin at a seed and in which each next path is not known and is required by the one before, ascending
abbrev pub explored_paths : Options → Snapshot → List (List ℕ) → Known → List (List ℕ)
explored_paths options files seeds known = reach_among bytes_eq (unknown_edges options files known) seeds (keys files)

-- what is found at each of these ends, by ascending path
abbrev pub explored : Options → Snapshot → List (List ℕ) → Known → List Found
explored options files seeds known = filter_map (found_in options files) (explored_paths options files seeds known)

-- what a source became, be it right or not: an output keeps the source, the options' strip and the path's kind, and a refusal is the right one
abbrev pub IsMade : Options → List ℕ → List ℕ → Result Output SourceFault → Type 0
IsMade options path source (Ok output) = (output.source ≡ source) × (output.strip ≡ options.strip) × (output.kind ≡ kind_of path)
IsMade options path source (Err fault) = made_of options path source ≡ Err fault

-- what was found at a path: something that its source became, and where the names of that lead
pub record IsFound (options : Options) (files : Snapshot) (found : Found) : Type 0 where
  pub source : List ℕ
  pub there : source_at files found.path ≡ Some source
  pub made : IsMade options found.path source found.made
  pub links : found.links ≡ links_of options files found.path found.made

-- the paths that are not known and to which the links that were found at a path lead
abbrev pub steps_in : Known → List Found → List ℕ → List (List ℕ)
steps_in known founds path = option_map_or (λ found. unknown known (files_of found.links)) (found_with founds path) []

-- a whole exploration: by ascending path, what was found at each end of the lists of paths that begin at a seed and in which each next path is not known and is a file target of the links of the one before, and nothing else
pub record IsExploration (options : Options) (files : Snapshot) (seeds : List (List ℕ)) (known : Known) (founds : List Found) : Type 0 where
  pub ascending : IsStrictlySortedBy (slice_cmp nat_cmp) (paths_of founds)
  pub each : All (IsFound options files) founds
  pub ends : (path : List ℕ) → Contains (paths_of founds) path ↔ IsReached (steps_in known founds) seeds path
