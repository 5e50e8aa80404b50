use Rattle.std.proofs.Common.{◌≡◌, ◌++◌, map, length}
use Rattle.mt_tokens.specs.Cut.{AreCut}
use Rattle.mt_tokens.specs.Replacements.{name_mark}
use Rattle.mt_tokens.proofs.marks.Exporting.put_names.Given as goal

abbrev pub invariant-loop-name : goal.invariant-loop-name
invariant-loop-name l = record {
  cut : AreCut l.self.text.now l.rest;
  left : l.marks ++ map (name_mark l.self.text.now) l.rest ≡ l.fn.marks ++ map (name_mark l.self.text.now) l.names;
}

abbrev pub decreases-loop-name : goal.decreases-loop-name
decreases-loop-name l = length l.rest
