-- What is found at a path: what becomes of its source, and where the names lead.
use Rattle.std.specs.Prelude.{◌≡◌, ℕ, List, [], map, Option, Some, Result, Ok, Err}
use Rattle.std.specs.List.{filter_map, find}
use Rattle.std.specs.Option.{option_map}
use Rattle.std.specs.Str.{bytes_eq}
use Rattle.mt_tokens.specs.declared.source.SourceFault.{SourceFault}
use Rattle.mt_package.specs.declared.options.Options.{Options}
use Rattle.mt_files.specs.Snapshots.{Snapshot, source_at}
use Rattle.mt_files.specs.Resolve.{file_of, resolved}
use Rattle.mt_files.specs.Edges.{kind_of}
use Rattle.mt_files.specs.declared.target.Link.{Link}
use Rattle.mt_transform.specs.Outputs.{output_of}
use Rattle.mt_transform.specs.declared.output.Name.{Name}
use Rattle.mt_transform.specs.declared.output.Output.{Output}
use Rattle.mt_graph.specs.declared.found.Found.{Found}

-- where a name of a module leads
abbrev pub link_of : Options → Snapshot → List ℕ → Name → Link
link_of options files path name = record { target = resolved options files path name.text name.kind }

-- where the names of what a source became lead, in their order: nowhere after a refusal
abbrev pub links_of : Options → Snapshot → List ℕ → Result Output SourceFault → List Link
links_of options files path (Ok output) = map (link_of options files path) output.names
links_of options files path (Err fault) = []

-- what becomes of a source at a path
abbrev pub made_of : Options → List ℕ → List ℕ → Result Output SourceFault
made_of options path source = output_of options.strip (kind_of path) source

-- what is found at a path with this source
abbrev pub found_at : Options → Snapshot → List ℕ → List ℕ → Found
found_at options files path source = record { path = path; made = made_of options path source; links = links_of options files path (made_of options path source) }

-- what is found at a path, where there is a source
abbrev pub found_in : Options → Snapshot → List ℕ → Option Found
found_in options files path = option_map (found_at options files path) (source_at files path)

-- the paths of what was found
abbrev pub paths_of : List Found → List (List ℕ)
paths_of founds = map (λ found. found.path) founds

-- what was found at a path
abbrev pub found_with : List Found → List ℕ → Option Found
found_with founds path = find (λ found. bytes_eq path found.path) founds

-- the source files to which links lead, in their order
abbrev pub files_of : List Link → List (List ℕ)
files_of links = filter_map (λ link. file_of link.target) links
