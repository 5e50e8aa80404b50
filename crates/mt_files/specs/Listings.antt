-- The tree that the answers of a folder describe, also where the folder tells nothing.
use Rattle.std.specs.Prelude.{◌⊎◌, ◌↔◌, ◌≡◌, ◌≢◌, ℕ, Bool, true, List, [], ◌∷◌, Some, map}
use Rattle.std.specs.List.{Contains, flat_map}
use Rattle.std.specs.FinMap.{contains_key, get}
use Rattle.mt_io.specs.Files.{Files}
use Rattle.mt_io.specs.declared.folder.Named.{Named}
use Rattle.mt_files.specs.Search.{files_in, folders_in}

-- a folder that was listed, and the children that it answered
pub record Listing : Type 0 where
  pub place : List ℕ
  pub names : List Named

-- the folders that are to be listed: the root, and those that listings name
abbrev pub places_of : List Listing → List (List ℕ)
places_of listings = (47 ∷ []) ∷ flat_map (λ l. folders_in l.place l.names) listings

-- the files that listings name
abbrev pub paths_of : List Listing → List (List ℕ)
paths_of listings = flat_map (λ l. files_in l.place l.names) listings

-- the files that were found are those that a folder's lists name: each folder that is to be listed was listed, or waits, and no other
pub record IsListed (lists : List ℕ → List Named → Type 0) (found : List ℕ → Bool) (waiting : List (List ℕ)) : Type 0 where
  pub listings : List Listing
  pub answered : (l : Listing) → Contains listings l → lists l.place l.names
  pub listed : (place : List ℕ) → Contains (places_of listings) place ↔ (Contains (map (λ l. l.place) listings) place ⊎ Contains waiting place)
  pub named : (path : List ℕ) → (found path ≡ true) ↔ Contains (paths_of listings) path

-- the answers of a folder describe a tree: its files are those that lists name, and the bytes that it has of a file were read, if it has any
pub record IsDescribed (lists : List ℕ → List Named → Type 0) (reads : List ℕ → List ℕ → Type 0) (tree : Files) : Type 0 where
  pub files : IsListed lists (contains_key tree) []
  pub read : (path bytes : List ℕ) → get tree path ≡ Some bytes → bytes ≢ [] → reads path bytes
