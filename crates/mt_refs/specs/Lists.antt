-- Lists of edges, and how often a number is in them.
use Rattle.std.specs.Prelude.{ℕ, List, [], nat_eq, Option}
use Rattle.std.specs.List.{count_by}
use Rattle.std.specs.Option.{unwrap_or}

-- how often a number is in a list
abbrev pub times : ℕ → List ℕ → ℕ
times n targets = count_by (nat_eq n) targets

-- the targets of a list, and none where there is no list
abbrev pub targets_in : Option (List ℕ) → List ℕ
targets_in list = unwrap_or list []
