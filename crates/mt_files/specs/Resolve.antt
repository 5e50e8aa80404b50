-- Where a name leads from a module.
use Rattle.std.specs.Prelude as option
use Rattle.std.specs.Prelude.{◌≡◌, ℕ, zero, suc, Bool, true, false, not, ◌&&◌, ◌||◌, List, [], ◌∷◌, ◌++◌, length, map, filter, take, if◌then◌else◌, Option, Some, is_some, option_and_then, option_to_list, nat_eq, ◌==◌, codes, Result, Ok, Err}
use Rattle.std.specs.List.{filter_map, flat_map, starts_with}
use Rattle.std.specs.Option.{option_map, option_map_or, unwrap_or}
use Rattle.std.specs.Str.{bytes_eq}
use Rattle.serde_json.specs.Data.{Data}
use Rattle.mt_path.specs.Segments.{parts_of, segments_of, slash, text_of}
use Rattle.mt_path.specs.Names.{folder_of, is_root, last, name_of}
use Rattle.mt_path.specs.Children.{child_of, suffixed}
use Rattle.mt_path.specs.Join.{joined}
use Rattle.mt_package.specs.Packages.{entry_of, package_of}
use Rattle.mt_package.specs.declared.options.Options.{Options}
use Rattle.mt_package.specs.declared.package.PackageFault.{PackageFault}
use Rattle.mt_tokens.specs.declared.source.DepKind.{DepKind}
use Rattle.mt_files.specs.Snapshots.{Snapshot, has_source, source_at}
use Rattle.mt_files.specs.declared.target.Target.{Target}
use Rattle.mt_files.specs.declared.target.Target.TheVariants.{File, None, BadPackage}

-- ---- names

-- the last of a name's parts between `/`
abbrev pub last_part : List ℕ → List ℕ
last_part name = unwrap_or (last (parts_of name)) []

-- is neither empty nor `.` nor `..`
abbrev pub names_something : List ℕ → Bool
names_something part = not (length part == 0) && not (bytes_eq part (codes ".")) && not (bytes_eq part (codes ".."))

-- is `.` or `..`, or begins with `./` or `../`
abbrev pub is_relative : List ℕ → Bool
is_relative name = bytes_eq name (codes ".") || bytes_eq name (codes "..") || starts_with nat_eq name (codes "./") || starts_with nat_eq name (codes "../")

-- ---- candidates

-- what a name may lead to: a source, or a package file, which ends the search where it can't be read
pub data Candidate : Type 0 where
  Source : List ℕ → Candidate
  Package : List ℕ → Candidate

-- what a path may leave out: an extension, before it the platform, or `native` on all platforms but the web
abbrev pub endings_of : List ℕ → List ℕ → List (List ℕ)
endings_of platform extension =
    (codes "." ++ platform ++ codes "." ++ extension) ∷ ((if bytes_eq platform (codes "web") then [] else (codes ".native." ++ extension) ∷ []) ++ (codes "." ++ extension) ∷ [])

abbrev pub endings : Options → List (List ℕ)
endings options = flat_map (endings_of options.platform) options.source_exts

-- the files that a path may mean: itself, and with each ending. The root means none
abbrev pub files_for : Options → List ℕ → List (List ℕ)
files_for options path = if is_root path then [] else path ∷ filter_map (suffixed path) (endings options)

-- the files `index` of a folder
abbrev pub index_for : Options → List ℕ → List (List ℕ)
index_for options folder = option_map_or (files_for options) (child_of folder (codes "index")) []

-- what a package file says, where there is one
abbrev pub package_at : Snapshot → List ℕ → Option (Result Data PackageFault)
package_at files file = option_map package_of (source_at files file)

-- the files that the entry of a package may mean, which is a name seen from its folder: the folder itself means its `index`
abbrev pub entry_for : Options → List ℕ → List ℕ → List (List ℕ)
entry_for options folder path = (if bytes_eq path folder then [] else files_for options path) ++ index_for options path

abbrev pub main_for : Options → List ℕ → Option (Result Data PackageFault) → List (List ℕ)
main_for options folder (Some (Ok d)) = option_map_or (entry_for options folder) (option_and_then (joined folder) (entry_of options.main_fields d)) []
main_for options folder (Some (Err fault)) = []
main_for options folder option.None = []

-- what a folder may mean: what its package file says, and then its `index`
abbrev pub folder_for : Options → Snapshot → List ℕ → List Candidate
folder_for options files folder =
    option_map_or (λ file. Package file ∷ map Source (main_for options folder (package_at files file))) (child_of folder (codes "package.json")) [] ++ map Source (index_for options folder)

-- what a path may mean that a name leads to: a file, where the last part names something, and then a folder
abbrev pub path_for : Options → Snapshot → List ℕ → List ℕ → List Candidate
path_for options files name path = (if names_something (last_part name) then map Source (files_for options path) else []) ++ folder_for options files path

-- a folder of so many of these segments, and each folder above it
abbrev pub folders_up : ℕ → List (List ℕ) → List (List ℕ)
folders_up zero segments = text_of [] ∷ []
folders_up (suc n) segments = text_of (take (suc n) segments) ∷ folders_up n segments

-- a folder and each above it, save those that are named `node_modules`
abbrev pub holders : List ℕ → List (List ℕ)
holders folder = filter (λ above. not (bytes_eq (name_of above) (codes "node_modules"))) (folders_up (length (segments_of folder)) (segments_of folder))

-- the path of a package that is kept beside the modules of a folder
abbrev pub kept_in : List ℕ → List ℕ → Option (List ℕ)
kept_in name folder = option_and_then (λ modules. joined modules name) (child_of folder (codes "node_modules"))

-- the paths that a name leads to from a folder, in their order
abbrev pub paths_for : List ℕ → List ℕ → List (List ℕ)
paths_for folder [] = []
paths_for folder (b ∷ bs) =
    if b == slash then option_to_list (joined (slash ∷ []) (b ∷ bs))
    else (if is_relative (b ∷ bs) then option_to_list (joined folder (b ∷ bs)) else filter_map (kept_in (b ∷ bs)) (holders folder))

-- all that a name may lead to from a folder, in their order
abbrev pub candidates : Options → Snapshot → List ℕ → List ℕ → List Candidate
candidates options files folder name = flat_map (path_for options files name) (paths_for folder name)

-- ---- the search

-- a package file that is there and can't be read
abbrev pub is_bad : Option (Result Data PackageFault) → Bool
is_bad option.None = false
is_bad (Some (Ok d)) = false
is_bad (Some (Err fault)) = true

-- what ends the search: a source that is there, or a package file that can't be read
abbrev pub stop_at : Snapshot → Candidate → Option Target
stop_at files (Source path) = if has_source files path then Some (File path) else option.None
stop_at files (Package file) = if is_bad (package_at files file) then Some (BadPackage file) else option.None

abbrev pub or_first : Option Target → Option Target → Option Target
or_first (Some target) more = Some target
or_first option.None more = more

-- the first stop among candidates
abbrev pub first_stop : Snapshot → List Candidate → Option Target
first_stop files [] = option.None
first_stop files (c ∷ cs) = or_first (stop_at files c) (first_stop files cs)

abbrev pub path_of : Candidate → List ℕ
path_of (Source path) = path
path_of (Package file) = file

-- the paths that are asked about: those of the candidates up to the first stop
abbrev pub asked : Snapshot → List Candidate → List (List ℕ)
asked files [] = []
asked files (c ∷ cs) = path_of c ∷ (if is_some (stop_at files c) then [] else asked files cs)

-- where a name leads from a folder
abbrev pub resolved_in : Options → Snapshot → List ℕ → List ℕ → Target
resolved_in options files folder name = unwrap_or (first_stop files (candidates options files folder name)) None

-- where a name of this kind leads from a module: the kind changes nothing
unfoldable pub resolved : Options → Snapshot → List ℕ → List ℕ → DepKind → Target
resolved options files origin name kind = resolved_in options files (folder_of origin) name

-- the paths that are asked about for that, package files among them, in their order
unfoldable pub probes : Options → Snapshot → List ℕ → List ℕ → DepKind → List (List ℕ)
probes options files origin name kind = asked files (candidates options files (folder_of origin) name)

-- two snapshots agree on a path: both or neither has a source there, and package files have the same bytes
pub record AgreeAt (f g : Snapshot) (path : List ℕ) : Type 0 where
  pub there : has_source f path ≡ has_source g path
  pub bytes : name_of path ≡ codes "package.json" → source_at f path ≡ source_at g path

-- the source that a target is, if it is one
abbrev pub file_of : Target → Option (List ℕ)
file_of (File path) = Some path
file_of None = option.None
file_of (BadPackage path) = option.None
