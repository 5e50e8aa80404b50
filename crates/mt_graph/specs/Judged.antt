-- What an exploration from the entries comes to: the graph, or its faults.
use Rattle.std.specs.Prelude.{ℕ, List, [], ◌∷◌, ◌++◌, map, length, nat_lt, slice_index, if◌then◌else◌, Option, Result, Ok, Err}
use Rattle.std.specs.List.{enumerate_from, filter_map, flat_map, zip}
use Rattle.std.specs.Option.{option_map, option_map_or}
use Rattle.std.specs.FinMap.{from_entries}
use Rattle.mt_tokens.specs.Deps.{Dependency}
use Rattle.mt_tokens.specs.declared.source.SourceFault.{SourceFault}
use Rattle.mt_files.specs.Edges.{fault_of}
use Rattle.mt_files.specs.Fresh.{ascending, decided, max_modules}
use Rattle.mt_files.specs.declared.build_fault.BuildFault.{BuildFault}
use Rattle.mt_files.specs.declared.build_fault.BuildFault.TheVariants.{EntryMissing, Source, TooManyModules}
use Rattle.mt_files.specs.declared.target.Link.{Link}
use Rattle.mt_transform.specs.Outputs.{places_of}
use Rattle.mt_transform.specs.declared.output.Name.{Name}
use Rattle.mt_transform.specs.declared.output.Output.{Output}
use Rattle.mt_graph.specs.Founds.{found_with, paths_of}
use Rattle.mt_graph.specs.Graphs.{GraphMap, node_of, under}
use Rattle.mt_graph.specs.declared.found.Found.{Found}

-- the name with a number among those of an output, as a dependency at its place in the source
abbrev pub placed : Output → ℕ → Name → Dependency
placed output i name = record { name = name.text; kind = name.kind; place = slice_index (places_of output) i }

-- the fault of a name with this number that has this link: none where it leads to a source
abbrev pub link_fault : List ℕ → Output → ℕ × (Name × Link) → List BuildFault
link_fault path output (i, (name, link)) = fault_of path (placed output i name) link.target

-- the faults of an output's names, in their order
abbrev pub link_faults : List ℕ → Output → List Link → List BuildFault
link_faults path output links = flat_map (link_fault path output) (enumerate_from 0 (zip output.names links))

-- the faults of a module: its source's refusal, or those of its names
abbrev pub module_faults : List ℕ → List Link → Result Output SourceFault → List BuildFault
module_faults path links (Err fault) = Source path fault ∷ []
module_faults path links (Ok output) = link_faults path output links

-- the faults of what was found
abbrev pub found_faults : Found → List BuildFault
found_faults found = module_faults found.path found.links found.made

-- the faults at a path that is to be a module: an entry is missing where nothing was found
abbrev pub faults_with : List Found → List ℕ → List BuildFault
faults_with founds path = option_map_or found_faults (found_with founds path) (EntryMissing path ∷ [])

-- all faults, by ascending path and place: too many modules alone, or those of the entries and of what was found
abbrev pub judged_faults : List (List ℕ) → List Found → List BuildFault
judged_faults entries founds =
    if nat_lt max_modules (length founds) then TooManyModules ∷ [] else flat_map (faults_with founds) (ascending (entries ++ paths_of founds))

-- the modules of what was found
abbrev pub judged_graph : List Found → GraphMap
judged_graph founds = from_entries (filter_map (λ found. option_map (under found.path) (node_of found)) founds)

-- the graph of what was found, or the first fault
abbrev pub judged : List (List ℕ) → List Found → Result GraphMap BuildFault
judged entries founds = decided (judged_graph founds) (judged_faults entries founds)
