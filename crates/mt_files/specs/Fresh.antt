-- The fresh graph of a snapshot, or its first fault.
use Rattle.std.specs.Prelude.{ℕ, List, [], ◌∷◌, ◌++◌, map, length, nat_lt, if◌then◌else◌, Result, Ok, Err}
use Rattle.std.specs.List.{flat_map}
use Rattle.std.specs.Ordering.{nat_cmp}
use Rattle.std.specs.Cmp.Lexicographic.{slice_cmp}
use Rattle.std.specs.FinMap.{FinMap, from_entries, keys}
use Rattle.mt_package.specs.declared.options.Options.{Options}
use Rattle.mt_files.specs.Asks.{Ask}
use Rattle.mt_files.specs.Snapshots.{Snapshot}
use Rattle.mt_files.specs.Edges.{edges, faults_at}
use Rattle.mt_files.specs.Reach.{reach}
use Rattle.mt_files.specs.declared.build_fault.BuildFault.{BuildFault}
use Rattle.mt_files.specs.declared.build_fault.BuildFault.TheVariants.{TooManyModules}

-- paths in ascending order, each once
abbrev pub ascending : List (List ℕ) → List (List ℕ)
ascending paths = keys (from_entries {R = slice_cmp nat_cmp} (map (λ p. (p, p)) paths))

-- the paths that are to be modules, ascending: the entries, and the modules that they reach
abbrev pub members : Ask → Snapshot → List (List ℕ)
members ask files = ascending (ask.entries ++ reach ask files)

-- the most modules of a build
abbrev pub max_modules : ℕ
max_modules = 65536

-- all faults, by ascending path and place: too many modules alone, or those of the members
abbrev pub all_faults : Ask → Snapshot → List BuildFault
all_faults ask files =
    if nat_lt max_modules (length (reach ask files)) then TooManyModules ∷ [] else flat_map (faults_at ask.options files) (members ask files)

-- what was found, or the first fault
abbrev pub decided : {Graph : Type 0} → Graph → List BuildFault → Result Graph BuildFault
decided graph [] = Ok graph
decided graph (fault ∷ faults) = Err fault

-- what each module requires, by its path
abbrev pub EdgeMap : Type 0
EdgeMap = FinMap (slice_cmp nat_cmp) (List (List ℕ))

-- the paths that each of these paths requires, in their order
abbrev pub edges_of : Options → Snapshot → List (List ℕ) → EdgeMap
edges_of options files paths = from_entries (map (λ path. (path, edges options files path)) paths)

-- the fresh graph of a snapshot: what each module that the entries reach requires, or the first fault
abbrev pub fresh : Ask → Snapshot → Result EdgeMap BuildFault
fresh ask files = decided (edges_of ask.options files (reach ask files)) (all_faults ask files)
