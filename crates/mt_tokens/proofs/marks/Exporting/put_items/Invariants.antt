use Rattle.std.proofs.Common.{◌≡◌, ◌++◌, map, length}
use Rattle.std.specs.List.{AllByRecursion}
use Rattle.mt_tokens.specs.Cut.{IsItemCut}
use Rattle.mt_tokens.specs.Replacements.{item_mark}
use Rattle.mt_tokens.proofs.marks.Exporting.put_items.Given as goal

abbrev pub invariant-loop-item : goal.invariant-loop-item
invariant-loop-item l = record {
  cut : AllByRecursion (IsItemCut l.self.text.now) l.rest;
  left : l.marks ++ map (item_mark l.self.text.now) l.rest ≡ l.fn.marks ++ map (item_mark l.self.text.now) l.items;
}

abbrev pub decreases-loop-item : goal.decreases-loop-item
decreases-loop-item l = length l.rest
