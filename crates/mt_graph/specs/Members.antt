-- What was found at each path that is to be a module.
use Rattle.std.specs.Prelude.{ℕ, Bool, true, false, List, [], ◌∷◌, ◌++◌, map, Option, Some, None, Result, Ok, Err}
use Rattle.std.specs.List.{flat_map}
use Rattle.std.specs.Option.{option_map}
use Rattle.std.specs.Ordering.{nat_cmp}
use Rattle.std.specs.Cmp.Lexicographic.{slice_cmp}
use Rattle.std.specs.FinMap.{FinMap, from_entries, insert}
use Rattle.mt_files.specs.Fresh.{ascending, decided}
use Rattle.mt_files.specs.declared.build_fault.BuildFault.{BuildFault}
use Rattle.mt_files.specs.declared.build_fault.BuildFault.TheVariants.{EntryMissing, Source}
use Rattle.mt_files.specs.declared.target.Link.{Link}
use Rattle.mt_files.specs.declared.target.Target.{Target}
use Rattle.mt_files.specs.declared.target.Target.TheVariants as target
use Rattle.mt_tokens.specs.declared.source.SourceFault.{SourceFault}
use Rattle.mt_transform.specs.declared.output.Output.{Output}
use Rattle.mt_graph.specs.Founds.{found_with, paths_of}
use Rattle.mt_graph.specs.Graphs.{GraphMap}
use Rattle.mt_graph.specs.Judged.{link_faults, module_faults}
use Rattle.mt_graph.specs.declared.found.Found.{Found}
use Rattle.mt_graph.specs.declared.graph.Node.{Node}
use Rattle.mt_graph.specs.declared.judgement.Member.{Member}

-- whether a link leads to a source
abbrev pub is_source_target : Target → Bool
is_source_target (target.File path) = true
is_source_target target.None = false
is_source_target (target.BadPackage path) = false

abbrev pub is_file : Link → Bool
is_file link = is_source_target link.target

-- what was found by path, where nothing was found at an entry that is missing
abbrev pub MemberMap : Type 0
MemberMap = FinMap (slice_cmp nat_cmp) (Option Member)

-- what was found, without its path
abbrev pub member_of : Found → Member
member_of found = record { made = found.made; links = found.links }

-- what was found at a path that is to be a module
abbrev pub member_in : List Found → List ℕ → Option Member
member_in founds path = option_map member_of (found_with founds path)

-- the same at each of the entries and of the paths at which something was found
abbrev pub members_of : List (List ℕ) → List Found → MemberMap
members_of entries founds = from_entries (map (λ path. (path, member_in founds path)) (ascending (entries ++ paths_of founds)))

-- the members with an entry at which nothing was found
abbrev pub with_entry : MemberMap → List ℕ → MemberMap
with_entry members path = insert members path None

-- the members with what was found
abbrev pub with_found : MemberMap → Found → MemberMap
with_found members found = insert members found.path (Some (member_of found))

-- the faults of a member
abbrev pub member_faults : List ℕ → Option Member → List BuildFault
member_faults path (Some member) = module_faults path member.links member.made
member_faults path None = EntryMissing path ∷ []

-- the faults of some members
abbrev pub faults_of_all : List (List ℕ × Option Member) → List BuildFault
faults_of_all ms = flat_map (λ m. member_faults m.0 m.1) ms

-- the module of what a source became, or its first fault
abbrev pub made_or_fault : List ℕ → List Link → Result Output SourceFault → Result Node BuildFault
made_or_fault path links (Ok output) = decided (record { output = output; links = links }) (link_faults path output links)
made_or_fault path links (Err fault) = Err (Source path fault)

-- the module of a member, or its first fault
abbrev pub node_or_fault : List ℕ → Option Member → Result Node BuildFault
node_or_fault path (Some member) = made_or_fault path member.links member.made
node_or_fault path None = Err (EntryMissing path)

-- what a module leads to, unless there is a fault in its place
abbrev pub with_node : (Node → Result GraphMap BuildFault) → Result Node BuildFault → Result GraphMap BuildFault
with_node next (Ok node) = next node
with_node next (Err fault) = Err fault

-- the modules with those of more members, or the first fault
abbrev pub settled : GraphMap → List (List ℕ × Option Member) → Result GraphMap BuildFault
settled graph [] = Ok graph
settled graph (m ∷ ms) = with_node (λ node. settled (insert graph m.0 node) ms) (node_or_fault m.0 m.1)
