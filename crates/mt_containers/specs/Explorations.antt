-- How far an exploration has come: some keys have their rows, and others wait on a stack or in a wave.
use Rattle.std.specs.Prelude.{◌≡◌, ◌⊎◌, true, List, Option, Some, is_some}
use Rattle.std.specs.List.{Contains}
use Rattle.mt_containers.specs.Walks.{IsReached}

-- a key has its row
abbrev pub HasRow : {K X : Type 0} → (K → Option X) → K → Type 0
HasRow rows key = is_some (rows key) ≡ true

-- a key has its row, or waits
abbrev pub IsKnown : {K X : Type 0} → (K → Option X) → List K → K → Type 0
IsKnown rows waiting key = HasRow rows key ⊎ Contains waiting key

-- how far an exploration has come: each row is that of its key, each key with a row and each that waits is reached, and each start and each step from a key with a row is known
pub record IsExplored {K X : Type 0} (step : K → List K) (starts : List K) (row : K → X) (rows : K → Option X) (waiting : List K) : Type 0 where
  pub exact : (key : K) (found : X) → rows key ≡ Some found → found ≡ row key
  pub met : (key : K) → HasRow rows key → IsReached step starts key
  pub ahead : (key : K) → Contains waiting key → IsReached step starts key
  pub begun : (key : K) → Contains starts key → IsKnown rows waiting key
  pub followed : (key next : K) → HasRow rows key → Contains (step key) next → IsKnown rows waiting next

-- one turn of an exploration: some keys that waited got their rows, no row was lost, and what was known and each step from these keys is known
pub record IsTurn {K X : Type 0} (step : K → List K) (row : K → X) (rows : K → Option X) (waiting done : List K) (rows_after : K → Option X) (waiting_after : List K) : Type 0 where
  pub taken : (key : K) → Contains done key → Contains waiting key
  pub made : (key : K) → Contains done key → rows_after key ≡ Some (row key)
  pub kept : (key : K) → HasRow rows key → HasRow rows_after key
  pub only : (key : K) (found : X) → rows_after key ≡ Some found → (rows key ≡ Some found) ⊎ Contains done key
  pub ahead : (key : K) → Contains waiting_after key → Contains waiting key ⊎ ((from : K) × Contains done from × Contains (step from) key)
  pub begun : (key : K) → Contains waiting key → IsKnown rows_after waiting_after key
  pub followed : (key next : K) → Contains done key → Contains (step key) next → IsKnown rows_after waiting_after next
