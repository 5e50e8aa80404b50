-- The first source among the files that a path may mean.
use Rattle.std.proofs.Common.{◌≡◌, ◌+◌, ℕ, List, map, length, Option}
use Rattle.mt_files.specs.Snapshots.{Snapshot}
use Rattle.mt_files.specs.Resolve.{asked, first_stop}
use Rattle.mt_files.specs.Resolve.Candidate.{Source}
use Rattle.mt_files.specs.declared.target.Target.{Target}

-- the first source among the paths
abbrev pub first_of : Snapshot → List (List ℕ) → Option Target
first_of files ps = first_stop files (map Source ps)

-- how many of the paths are asked about
abbrev pub count_of : Snapshot → List (List ℕ) → ℕ
count_of files ps = length (asked files (map Source ps))

-- of the paths of a search, count are asked about, and it goes on among the rest
pub record Left (files : Snapshot) (ps rest : List (List ℕ)) (count : ℕ) : Type 0 where
  pub first : first_of files rest ≡ first_of files ps
  pub counted : count + count_of files rest ≡ count_of files ps
