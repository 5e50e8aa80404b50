use Rattle.std.proofs.Common.{◌≡◌, ◌≤◌, ◌+◌, length}
use Rattle.std.specs.List.{IsDistinct}
use Rattle.std.specs.Str.{bytes_eq}
use Rattle.std.specs.FinMap.{keys, len}
use Rattle.mt_revision.specs.Numberings.{with_new}
use Rattle.mt_revision.proofs.numbering.Numbering.with_keys.Given as goal

abbrev pub invariant-loop-path : goal.invariant-loop-path
invariant-loop-path g l = record {
  left : with_new l.numbering l.path-iterator ≡ with_new l.initial.numbering (keys l.members);
  few : length l.numbering + length l.path-iterator ≤ length l.initial.numbering + len l.members;
  distinct : IsDistinct bytes_eq l.path-iterator;
}
