-- The files that a crawl meets, and the search that finds them, a folder after another.
use Rattle.std.specs.Prelude.{◌⊎◌, ℕ, Bool, true, false, not, List, [], ◌∷◌, ◌&&◌, ◌==◌, ◌≡◌, Option, None, filter, if◌then◌else◌}
use Rattle.std.specs.List.{Any, Contains, filter_map, list_all}
use Rattle.std.specs.FinMap.{contains_key, keys}
use Rattle.std.specs.Result.{is_ok}
use Rattle.mt_path.specs.Parse.{IsPath, parsed}
use Rattle.mt_path.specs.Segments.{dot, segments_of}
use Rattle.mt_path.specs.Names.{is_root, without_last}
use Rattle.mt_path.specs.Children.{child_of, prefix_of}
use Rattle.mt_io.specs.Files.{Files, is_below, is_folder_in}
use Rattle.mt_io.specs.declared.folder.Named.{Named}
use Rattle.mt_io.specs.declared.folder.NamedKind.TheVariants.{File, Folder, Other}
use Rattle.mt_files.specs.PathSets.{Paths}

-- whether a name begins with `.`
abbrev pub is_hidden : List ℕ → Bool
is_hidden [] = false
is_hidden (b ∷ bs) = b == dot

-- folders of which none is hidden
abbrev pub are_open : List (List ℕ) → Bool
are_open segments = list_all (λ s. not (is_hidden s)) segments

-- a text that is a path and not the root
abbrev pub is_file_path : List ℕ → Bool
is_file_path path = is_ok (parsed path) && not (is_root path)

-- whether a crawl meets a file of this path: none of the folders on its way is hidden
abbrev pub is_met : List ℕ → Bool
is_met path = is_file_path path && are_open (without_last (segments_of path))

-- the files of a tree that a crawl meets, in its order: ascending
abbrev pub files_met : Files → List (List ℕ)
files_met tree = filter is_met (keys tree)

-- ---- the children of a folder

-- the file that a child of a folder is, if its path is one
abbrev pub file_in : List ℕ → Named → Option (List ℕ)
file_in place named = elim named.kind [ File ↦ child_of place named.name | Folder ↦ None | Other ↦ None ]

-- the folder that a child of a folder is, if it isn't hidden and its path is one
abbrev pub folder_in : List ℕ → Named → Option (List ℕ)
folder_in place named = elim named.kind [ File ↦ None | Folder ↦ (if is_hidden named.name then None else child_of place named.name) | Other ↦ None ]

-- the files among the children of a folder
abbrev pub files_in : List ℕ → List Named → List (List ℕ)
files_in place names = filter_map (file_in place) names

-- the folders among them that are to be listed
abbrev pub folders_in : List ℕ → List Named → List (List ℕ)
folders_in place names = filter_map (folder_in place) names

-- ---- how far a search has come

-- a folder on whose way none is hidden, itself included
abbrev pub IsOpen : List ℕ → Type 0
IsOpen place = IsPath place × (are_open (segments_of place) ≡ true)

-- the paths that were found are such as a crawl meets, and the folders that wait are open
pub record IsShown (found : Paths) (waiting : List (List ℕ)) : Type 0 where
  pub met : (path : List ℕ) → contains_key found path ≡ true → is_met path ≡ true
  pub opened : (place : List ℕ) → Contains waiting place → IsOpen place

-- the paths that were found are files of the tree, the folders that wait are there, and each other file that a crawl meets is below one of them
pub record IsSearched (tree : Files) (found : Paths) (waiting : List (List ℕ)) : Type 0 where
  pub sound : (path : List ℕ) → contains_key found path ≡ true → contains_key tree path ≡ true
  pub there : (place : List ℕ) → Contains waiting place → is_folder_in tree place ≡ true
  pub whole : (path : List ℕ) → contains_key tree path ≡ true → is_met path ≡ true → (contains_key found path ≡ true) ⊎ Any (λ place. is_below (prefix_of place) path ≡ true) waiting
