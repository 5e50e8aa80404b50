-- What a revision has of a snapshot, under a numbering.
use Rattle.std.specs.Prelude.{◌≡◌, ℕ, true, List, [], ◌++◌, Option, None, filter, map, Result}
use Rattle.std.specs.List.{filter_map, flat_map, list_all, slice_get}
use Rattle.std.specs.Option.{option_and_then, option_map, option_map_or}
use Rattle.std.specs.Result.{result_ok}
use Rattle.std.specs.FinMap.{entries, from_entries}
use Rattle.mt_tokens.specs.declared.source.SourceFault.{SourceFault}
use Rattle.mt_package.specs.declared.options.Options.{Options}
use Rattle.mt_files.specs.Asks.{Ask}
use Rattle.mt_files.specs.Snapshots.{Snapshot, source_at}
use Rattle.mt_files.specs.Edges.{kind_of, targets_at}
use Rattle.mt_files.specs.Reach.{reach}
use Rattle.mt_files.specs.Fresh.{EdgeMap, all_faults}
use Rattle.mt_files.specs.declared.target.Target.{Target}
use Rattle.mt_files.specs.declared.target.Target.TheVariants as target
use Rattle.mt_transform.specs.Outputs.{output_of}
use Rattle.mt_transform.specs.declared.output.Output.{Output}
use Rattle.mt_write.specs.Bundle.{prelude}
use Rattle.mt_write.specs.Modules.{start_of}
use Rattle.mt_write.specs.declared.slot.Slot.{Slot}
use Rattle.mt_write.specs.declared.slot.Slot.TheVariants as slot
use Rattle.mt_revision.specs.Numberings.{has_path, number_in}
use Rattle.mt_revision.specs.Texts.{Modules, Texts, text_in}
use Rattle.mt_revision.specs.Revisions.{made_after}
use Rattle.mt_revision.specs.declared.modules.Module.{Module}
use Rattle.mt_revision.specs.declared.revision.Revision.{Revision}

-- ---- modules

-- the slot of a name that leads to a target: the number of the source, or none
abbrev pub slot_of : List (List ℕ) → Target → Slot
slot_of numbering (target.File path) = slot.Module (number_in numbering path)
slot_of numbering target.None = slot.Empty
slot_of numbering (target.BadPackage path) = slot.Empty

-- what the source at a path becomes, where there is one
abbrev pub output_at : Options → Snapshot → List ℕ → Option (Result Output SourceFault)
output_at options files path = option_map (output_of options.strip (kind_of path)) (source_at files path)

-- the module with this output: it has a slot for each of its names
abbrev pub module_with : Options → List (List ℕ) → Snapshot → List ℕ → Output → Module
module_with options numbering files path output = record { path = path; output = output; slots = map (slot_of numbering) (targets_at options files path) }

-- the module at a path, where there is a source that is not refused
abbrev pub module_at : Options → List (List ℕ) → Snapshot → List ℕ → Option Module
module_at options numbering files path = option_map (module_with options numbering files path) (option_and_then result_ok (output_at options files path))

-- the module at a path, under the path's number
abbrev pub numbered_module : Options → List (List ℕ) → Snapshot → List ℕ → Option (ℕ × Module)
numbered_module options numbering files path = option_map (λ m. (number_in numbering path, m)) (module_at options numbering files path)

-- the modules that the entries reach, under their numbers
abbrev pub modules_at : Ask → List (List ℕ) → Snapshot → Modules
modules_at ask numbering files = from_entries (filter_map (numbered_module ask.options numbering files) (reach ask files))

-- the numbers of paths, in their order
abbrev pub numbers_of : List (List ℕ) → List (List ℕ) → List ℕ
numbers_of numbering paths = map (number_in numbering) paths

-- ---- texts

-- the text of the module at a path, under the path's number
abbrev pub text_at : Options → List (List ℕ) → Snapshot → List ℕ → List ℕ
text_at options numbering files path = option_map_or (text_in options.dev (number_in numbering path)) (module_at options numbering files path) []

-- the texts of the modules that the entries reach, under their numbers
abbrev pub held_at : Ask → List (List ℕ) → Snapshot → Texts
held_at ask numbering files = from_entries (map (λ path. (number_in numbering path, text_at ask.options numbering files path)) (reach ask files))

-- the paths that the entries reach, by ascending number
abbrev pub by_number : Ask → List (List ℕ) → Snapshot → List (List ℕ)
by_number ask numbering files = filter (has_path (reach ask files)) numbering

-- the bundle of the modules that the entries reach: the prelude, their texts by ascending number, and the lines that start the entries
abbrev pub bundle_at : Ask → List (List ℕ) → Snapshot → List ℕ
bundle_at ask numbering files =
    prelude ask.options.dev ++ flat_map (text_at ask.options numbering files) (by_number ask numbering files) ++ flat_map start_of (numbers_of numbering ask.entries)

-- ---- revisions

-- a revision that has what is asked for of a snapshot, under a numbering: the snapshot has no fault, each module that the entries reach has a number, and the revision has these modules and no others, the numbers of the entries in their order, and is for development where the options are
pub record HasContent (ask : Ask) (revision : Revision) (numbering : List (List ℕ)) (files : Snapshot) : Type 0 where
  pub faultless : all_faults ask files ≡ []
  pub numbered : list_all (has_path numbering) (reach ask files) ≡ true
  pub modules : revision.modules ≡ modules_at ask numbering files
  pub entries : revision.entries ≡ numbers_of numbering ask.entries
  pub dev : revision.dev ≡ ask.options.dev

-- the revision that has this content and comes after another one, or is the first
abbrev pub revision_after : Ask → Option Revision → ℕ → List (List ℕ) → Snapshot → Revision
revision_after ask before changes numbering files = made_after before ask.options.dev changes (numbers_of numbering ask.entries) (modules_at ask numbering files)

-- ---- edges

-- the path that a slot leads to
abbrev pub path_under : List (List ℕ) → Slot → Option (List ℕ)
path_under numbering (slot.Module number) = slice_get numbering number
path_under numbering slot.Empty = None

-- the paths that the slots of a module lead to, in their order
abbrev pub paths_under : List (List ℕ) → Module → List (List ℕ)
paths_under numbering m = filter_map (path_under numbering) m.slots

-- what each module of a revision requires, by its path: the paths that its slots lead to
abbrev pub edges_named : List (List ℕ) → Revision → EdgeMap
edges_named numbering r = from_entries (map (λ e. (e.1.path, paths_under numbering e.1)) (entries r.modules))
