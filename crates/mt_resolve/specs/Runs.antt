-- The paths that a search asks about, in runs.
use Rattle.std.specs.Prelude.{ℕ, List, [], ◌∷◌, ◌++◌, take, if◌then◌else◌}
use Rattle.std.specs.List.{filter_map, flat_map}
use Rattle.mt_path.specs.Names.{is_root}
use Rattle.mt_path.specs.Children.{suffixed}
use Rattle.mt_resolve.specs.declared.probes.Log.{Log}
use Rattle.mt_resolve.specs.declared.probes.Run.{Run}
use Rattle.mt_resolve.specs.declared.probes.Run.TheVariants.{Files, Package}

-- the files that a path may mean with these endings
abbrev pub files_by : List (List ℕ) → List ℕ → List (List ℕ)
files_by endings path = if is_root path then [] else path ∷ filter_map (suffixed path) endings

-- the paths of a run
abbrev pub run_paths : List (List ℕ) → Run → List (List ℕ)
run_paths endings (Files base count) = take count (files_by endings base)
run_paths endings (Package file) = file ∷ []

-- the paths of runs
abbrev pub paths_in : List (List ℕ) → List Run → List (List ℕ)
paths_in endings runs = flat_map (run_paths endings) runs

-- a log with a run more, where it keeps them
abbrev pub with_run : Log → Run → Log
with_run log run = record log { runs = if log.keep then log.runs ++ run ∷ [] else log.runs }
