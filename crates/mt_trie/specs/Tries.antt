-- What a trie of five levels has under each key.
use Rattle.std.specs.Prelude.{ℕ, ◌/◌, ◌%◌, zero, suc, List, Option, Some, None, filter, nat_le}
use Rattle.std.specs.Borrow.{Bor}
use Rattle.std.specs.Ordering.{nat_cmp}
use Rattle.std.specs.FinMap.{FinMap, empty, entries, insert}
use Rattle.mt_trie.specs.Rows.{Row, child}

-- five levels of rows, the lowest of which has the values
abbrev pub Rows : Type 0 → Type 0
Rows V = Option (Row (Row (Row (Row (Row V)))))

module _ {V : Type 0} where
  -- the value under a key, to which its five digits lead, to the base 16
  unfoldable pub value_at : Rows V → ℕ → Option V
  value_at rows key = child (child (child (child (child rows (key / 65536)) (key / 4096 % 16)) (key / 256 % 16)) (key / 16 % 16)) (key % 16)

  -- a finite map with one more entry, if there is a value for it
  abbrev pub with_some : FinMap nat_cmp V → ℕ → Option V → FinMap nat_cmp V
  with_some m key None = m
  with_some m key (Some value) = insert m key value

  -- the finite map that has `find key` under each key below a number
  unfoldable pub tabulate : ℕ → (ℕ → Option V) → FinMap nat_cmp V
  tabulate zero find = empty
  tabulate (suc n) find = with_some (tabulate n find) n (find n)

  -- what rows stand for
  unfoldable pub map_of : Rows V → FinMap nat_cmp V
  map_of rows = tabulate 1048576 (value_at rows)

  -- the entries of a finite map from a key on
  abbrev pub entries_from : ℕ → FinMap nat_cmp V → List (ℕ × V)
  entries_from key m = filter (λ e. nat_le key e.0) (entries m)

  -- what an item of an iterator shows
  abbrev pub shown : ℕ × Bor V → ℕ × V
  shown item = (item.0, item.1.now)
