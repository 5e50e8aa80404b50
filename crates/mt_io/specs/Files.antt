-- What a folder holds: the bytes of each file by the text of its path, and the children of a folder in it.
use Rattle.std.specs.Prelude.{ℕ, Bool, List, ◌≡◌, ◌≢◌, ◌&&◌, ◌||◌, drop, length, Option, Some, None, if◌then◌else◌, ◌==◌, nat_lt}
use Rattle.std.specs.Option.{IfSome, option_map}
use Rattle.std.specs.List.{All, AllPairs, Any, Contains, list_any, starts_with, before_first, position_or_len}
use Rattle.std.specs.Bool.{nat_eq}
use Rattle.std.specs.Ordering.{nat_cmp}
use Rattle.std.specs.Cmp.Lexicographic.{slice_cmp}
use Rattle.std.specs.FinMap.{FinMap, get, keys}
use Rattle.mt_path.specs.Children.{prefix_of}
use Rattle.mt_path.specs.Names.{is_root}
use Rattle.mt_io.specs.declared.folder.Named.{Named}
use Rattle.mt_io.specs.declared.folder.NamedKind.{NamedKind}
use Rattle.mt_io.specs.declared.folder.NamedKind.TheVariants.{File, Folder}

-- the bytes of each file, by the text of its path
abbrev pub Files : Type 0
Files = FinMap (slice_cmp nat_cmp) (List ℕ)

-- whether a folder is there: it is the root, or the path of a file begins with the folder's path and a `/`
abbrev pub is_folder_in : Files → List ℕ → Bool
is_folder_in files folder = is_root folder || list_any (λ path. starts_with nat_eq path (prefix_of folder)) (keys files)

-- whether a path has the prefix, and more after it
abbrev pub is_below : List ℕ → List ℕ → Bool
is_below prefix path = starts_with nat_eq path prefix && nat_lt (length prefix) (length path)

-- what of a path comes after the prefix, if something does
abbrev pub rest_of : List ℕ → List ℕ → Option (List ℕ)
rest_of prefix path = if is_below prefix path then Some (drop (length prefix) path) else None

-- a folder where a `/` follows the first part, and else a file
abbrev pub kind_of : List ℕ → NamedKind
kind_of rest = if nat_lt (position_or_len (λ b. b == 47) rest) (length rest) then Folder else File

-- the child that a rest leads through: its first part, and what that is
abbrev pub first_of : List ℕ → Named
first_of rest = record { name = before_first (λ b. b == 47) rest; kind = kind_of rest }

-- the child of a folder through which a path leads, if the path is below the folder
abbrev pub child_toward : List ℕ → List ℕ → Option Named
child_toward folder path = option_map first_of (rest_of (prefix_of folder) path)

-- the names are the children of a folder, in some order
pub record IsChildrenOf (tree : Files) (folder : List ℕ) (names : List Named) : Type 0 where
  -- through each of them leads a path of a file
  pub each : All (λ named. Any (λ path. child_toward folder path ≡ Some named) (keys tree)) names
  -- each file below the folder has its child among them
  pub whole : All (λ path. IfSome (child_toward folder path) (Contains names)) (keys tree)
  -- none of them is there twice
  pub once : AllPairs ◌≢◌ names

-- what is told now is a tree that has at each path but this one what it had
pub record KeepsOthers (files : Files) (path : List ℕ) (now : Option Files) : Type 0 where
  pub after : Files
  pub told : now ≡ Some after
  pub others : (other : List ℕ) → other ≢ path → get after other ≡ get files other
