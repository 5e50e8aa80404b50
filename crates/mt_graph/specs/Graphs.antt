-- The modules of a build, with what their sources become and where their names lead.
use Rattle.std.specs.Prelude.{ℕ, List, map, Option, Result, Ok, Err}
use Rattle.std.specs.List.{filter_map}
use Rattle.std.specs.Option.{option_and_then, option_map}
use Rattle.std.specs.Result.{result_ok}
use Rattle.std.specs.Ordering.{nat_cmp}
use Rattle.std.specs.Cmp.Lexicographic.{slice_cmp}
use Rattle.std.specs.FinMap.{FinMap, entries, from_entries}
use Rattle.mt_package.specs.declared.options.Options.{Options}
use Rattle.mt_files.specs.Asks.{Ask}
use Rattle.mt_files.specs.Snapshots.{Snapshot}
use Rattle.mt_files.specs.Reach.{reach}
use Rattle.mt_files.specs.Fresh.{EdgeMap, all_faults, decided}
use Rattle.mt_files.specs.declared.build_fault.BuildFault.{BuildFault}
use Rattle.mt_transform.specs.declared.output.Output.{Output}
use Rattle.mt_graph.specs.Founds.{files_of, found_in}
use Rattle.mt_graph.specs.declared.found.Found.{Found}
use Rattle.mt_graph.specs.declared.graph.Node.{Node}

-- the modules by their paths
abbrev pub GraphMap : Type 0
GraphMap = FinMap (slice_cmp nat_cmp) Node

-- the module of what was found: none where the source is refused
abbrev pub node_of : Found → Option Node
node_of found = option_map (λ output. record { output = output; links = found.links }) (result_ok found.made)

-- the module at a path: none where there is no source, or it is refused
abbrev pub node_at : Options → Snapshot → List ℕ → Option Node
node_at options files path = option_and_then node_of (found_in options files path)

-- a module under its path
abbrev pub under : List ℕ → Node → List ℕ × Node
under path node = (path, node)

-- the modules at some paths
abbrev pub graph_of : Options → Snapshot → List (List ℕ) → GraphMap
graph_of options files paths = from_entries (filter_map (λ path. option_map (under path) (node_at options files path)) paths)

-- the modules of the fresh graph of a snapshot, or the first fault
abbrev pub fresh_graph : Ask → Snapshot → Result GraphMap BuildFault
fresh_graph ask files = decided (graph_of ask.options files (reach ask files)) (all_faults ask files)

-- what each module of a graph requires
abbrev pub edges_in : GraphMap → EdgeMap
edges_in graph = from_entries (map (λ e. (e.0, files_of e.1.links)) (entries graph))

-- the same of a graph that was built, or the fault
abbrev pub edges_found : Result GraphMap BuildFault → Result EdgeMap BuildFault
edges_found (Ok graph) = Ok (edges_in graph)
edges_found (Err fault) = Err fault
