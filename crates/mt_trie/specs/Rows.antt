-- Rows, which have a child or none for each of sixteen digits.
use Rattle.std.specs.Prelude.{◌≡◌, ℕ, List, [], Option, None, cond, nat_eq, length, get_or, IsTrue, is_some}
use Rattle.std.specs.List.{list_any}
use Rattle.std.specs.Option.{unwrap_or}

-- the children in the order of their digits
abbrev pub Row : Type 0 → Type 0
Row T = List (Option T)

module _ {T : Type 0} where
  -- sixteen digits, one at least with a child
  abbrev pub IsRow : Row T → Type 0
  IsRow row = (length row ≡ 16) × IsTrue (list_any is_some row)

  -- the child at a digit; nothing where there is no row, or no such digit
  abbrev pub child : Option (Row T) → ℕ → Option T
  child row digit = get_or (unwrap_or row []) digit None

  -- the row `after` has this child at one digit, and at the others what the row `before` has
  abbrev pub IsChanged : Option (Row T) → ℕ → Option T → Option (Row T) → Type 0
  IsChanged before digit new after = (at : ℕ) → child after at ≡ cond (nat_eq at digit) new (child before at)
