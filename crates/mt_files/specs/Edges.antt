-- What a module requires, and what is wrong with it.
use Rattle.std.specs.Prelude.{ℕ, List, [], ◌∷◌, map, Option, Result, Ok, Err, if◌then◌else◌}
use Rattle.std.specs.List.{filter_map, flat_map}
use Rattle.std.specs.Option.{option_map, option_map_or}
use Rattle.mt_path.specs.Names.{is_json}
use Rattle.mt_tokens.specs.declared.source.PathKind.{PathKind}
use Rattle.mt_tokens.specs.declared.source.PathKind.TheVariants.{Script, Json}
use Rattle.mt_tokens.specs.declared.source.SourceFault.{SourceFault}
use Rattle.mt_tokens.specs.Deps.{Dependency}
use Rattle.mt_tokens.specs.Transform.{Transformed, dependencies_of, transformed}
use Rattle.mt_package.specs.declared.options.Options.{Options}
use Rattle.mt_files.specs.Snapshots.{Snapshot, source_at}
use Rattle.mt_files.specs.Resolve.{file_of, resolved}
use Rattle.mt_files.specs.declared.target.Target.{Target}
use Rattle.mt_files.specs.declared.target.Target.TheVariants.{File, None, BadPackage}
use Rattle.mt_files.specs.declared.build_fault.BuildFault.{BuildFault}
use Rattle.mt_files.specs.declared.build_fault.BuildFault.TheVariants.{EntryMissing, Source, Unresolved, Package}

-- the kind of a source by its path
abbrev pub kind_of : List ℕ → PathKind
kind_of path = if is_json path then Json else Script

-- what the source at a path becomes, where there is one
abbrev pub transformed_at : Options → Snapshot → List ℕ → Option (Result Transformed SourceFault)
transformed_at options files path = option_map (transformed options.strip (kind_of path)) (source_at files path)

-- the dependencies of the module at a path: none where there is no source, or it is refused
abbrev pub dependencies_at : Options → Snapshot → List ℕ → List Dependency
dependencies_at options files path = option_map_or dependencies_of (transformed_at options files path) []

-- where a dependency of a module leads
abbrev pub target_of : Options → Snapshot → List ℕ → Dependency → Target
target_of options files path d = resolved options files path d.name d.kind

-- where each name of a module leads, in their order
abbrev pub targets_at : Options → Snapshot → List ℕ → List Target
targets_at options files path = map (target_of options files path) (dependencies_at options files path)

-- the sources that a module's names lead to, in their order
abbrev pub edges : Options → Snapshot → List ℕ → List (List ℕ)
edges options files path = filter_map file_of (targets_at options files path)

-- the fault of a dependency that leads to this target: none where it is a source
abbrev pub fault_of : List ℕ → Dependency → Target → List BuildFault
fault_of path d (File target) = []
fault_of path d None = Unresolved path d.place d.name ∷ []
fault_of path d (BadPackage file) = Package path d.place file ∷ []

-- the fault of a dependency of a module
abbrev pub unresolved : Options → Snapshot → List ℕ → Dependency → List BuildFault
unresolved options files path d = fault_of path d (target_of options files path d)

-- the faults of a module of which this became
abbrev pub made_faults : Options → Snapshot → List ℕ → Result Transformed SourceFault → List BuildFault
made_faults options files path (Err f) = Source path f ∷ []
made_faults options files path (Ok t) = flat_map (unresolved options files path) t.dependencies

-- the faults at a path that is to be a module: no source is there, or it is refused, or some names lead to no source
abbrev pub faults_at : Options → Snapshot → List ℕ → List BuildFault
faults_at options files path = option_map_or (made_faults options files path) (transformed_at options files path) (EntryMissing path ∷ [])
