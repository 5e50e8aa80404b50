-- What a search tells.
use Rattle.std.specs.Prelude.{◌≡◌, ℕ, Bool, true, false, not, ◌&&◌, ◌==◌, List, [], ◌∷◌, ◌++◌, map, if◌then◌else◌, IfSome, Option, Some, Result, Ok, Err, codes}
use Rattle.std.specs.Option.{option_map, option_map_or}
use Rattle.std.specs.List.{flat_map, filter_map}
use Rattle.std.specs.Ordering.{nat_cmp}
use Rattle.std.specs.Cmp.Lexicographic.{slice_cmp}
use Rattle.std.specs.FinMap.{FinMap, get}
use Rattle.std.specs.Str.{bytes_eq}
use Rattle.mt_path.specs.Children.{child_of}
use Rattle.mt_path.specs.Names.{name_of}
use Rattle.mt_path.specs.Segments.{slash}
use Rattle.mt_package.specs.Packages.{entry_of}
use Rattle.mt_package.specs.declared.options.Options.{Options}
use Rattle.mt_package.specs.declared.package.PackageFault.{PackageFault}
use Rattle.mt_files.specs.Snapshots.{Snapshot}
use Rattle.mt_files.specs.Resolve.{Candidate, asked, first_stop, holders, is_relative, kept_in, main_for, package_at, path_for}
use Rattle.mt_files.specs.Resolve.Candidate.{Package, Source}
use Rattle.mt_files.specs.declared.target.Target.{Target}
use Rattle.mt_resolve.specs.Runs.{paths_in}
use Rattle.mt_resolve.specs.declared.probes.Log.{Log}
use Rattle.mt_resolve.specs.declared.packages.PackageAnswer.{PackageAnswer}
use Rattle.mt_resolve.specs.declared.packages.PackageAnswer.TheVariants.{Bad, Main}

-- a log that keeps runs has the paths more that are asked about among the candidates
pub record IsLogged (endings : List (List ℕ)) (files : Snapshot) (before after : Log) (candidates : List Candidate) : Type 0 where
  pub keep : after.keep ≡ before.keep
  pub paths : before.keep ≡ true → paths_in endings after.runs ≡ paths_in endings before.runs ++ asked files candidates

-- a search among the candidates ends as it is to
pub record Ends (endings : List (List ℕ)) (files : Snapshot) (before after : Log) (found : Option Target) (candidates : List Candidate) : Type 0 where
  pub target : found ≡ first_stop files candidates
  pub logged : IsLogged endings files before after candidates

-- what is kept of a package file: its entry, where it can be read
abbrev pub answer_of : {D : Type 0} → (D → Option (List ℕ)) → Result D PackageFault → PackageAnswer
answer_of entry (Ok d) = Main (entry d)
answer_of entry (Err fault) = Bad

-- what is kept of the package file of a path, where there is one
abbrev pub answer_at : Options → Snapshot → List ℕ → Option PackageAnswer
answer_at options files file = option_map (answer_of (entry_of options.main_fields)) (package_at files file)

abbrev pub PackageAnswers : Type 0
PackageAnswers = FinMap (slice_cmp nat_cmp) PackageAnswer

-- each answer is what the package file of its path says
abbrev pub AreRead : Options → Snapshot → PackageAnswers → Type 0
AreRead options files packages = (file : List ℕ) → IfSome (get packages file) (λ answer. answer_at options files file ≡ Some answer)

-- the package file of a folder, and what its entry may mean
abbrev pub package_for : Options → Snapshot → List ℕ → List Candidate
package_for options files folder =
    option_map_or (λ file. Package file ∷ map Source (main_for options folder (package_at files file))) (child_of folder (codes "package.json")) []

-- what a name that is kept beside the modules of one folder may lead to
abbrev pub held_by : Options → Snapshot → List ℕ → List ℕ → List Candidate
held_by options files name folder =
    if bytes_eq (name_of folder) (codes "node_modules") then [] else option_map_or (path_for options files name) (kept_in name folder) []

-- and beside those of a folder or of one above it
abbrev pub held_from : Options → Snapshot → List ℕ → List ℕ → List Candidate
held_from options files name folder = flat_map (path_for options files name) (filter_map (kept_in name) (holders folder))

-- a name that is kept beside modules: it is neither empty nor relative, and doesn't begin with `/`
abbrev pub is_bare : List ℕ → Bool
is_bare [] = false
is_bare (b ∷ bs) = not (b == slash) && not (is_relative (b ∷ bs))
