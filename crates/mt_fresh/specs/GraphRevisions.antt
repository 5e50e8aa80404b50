-- What a revision has of a graph, under a numbering.
use Rattle.std.specs.Prelude.{ℕ, List, map, Option}
use Rattle.std.specs.List.{filter_map}
use Rattle.std.specs.Option.{option_map}
use Rattle.std.specs.FinMap.{entries, from_entries}
use Rattle.mt_files.specs.declared.target.Link.{Link}
use Rattle.mt_graph.specs.Graphs.{GraphMap}
use Rattle.mt_graph.specs.declared.graph.Node.{Node}
use Rattle.mt_write.specs.declared.slot.Slot.{Slot}
use Rattle.mt_revision.specs.Numberings.{place_in}
use Rattle.mt_revision.specs.Texts.{Modules}
use Rattle.mt_revision.specs.Contents.{slot_of}
use Rattle.mt_revision.specs.declared.modules.Module.{Module}

-- the slot of a name of which this is the link
abbrev pub slot_of_link : List (List ℕ) → Link → Slot
slot_of_link numbering link = slot_of numbering link.target

-- the module of a node: it has a slot for each link
abbrev pub module_of_node : List (List ℕ) → List ℕ → Node → Module
module_of_node numbering path node = record { path = path; output = node.output; slots = map (slot_of_link numbering) node.links }

-- the module of a node under the number of its path, if it has one
abbrev pub numbered_node : List (List ℕ) → List ℕ × Node → Option (ℕ × Module)
numbered_node numbering e = option_map (λ number. (number, module_of_node numbering e.0 e.1)) (place_in numbering e.0)

-- the modules of a graph, under the numbers of their paths
abbrev pub modules_of_graph : List (List ℕ) → GraphMap → Modules
modules_of_graph numbering graph = from_entries (filter_map (numbered_node numbering) (entries graph))
