use Rattle.std.proofs.Common.{◌≡◌, ◌≤◌, ◌+◌, length, drop}
use Rattle.mt_revision.specs.Numberings.{with_new}
use Rattle.mt_revision.proofs.numbering.Numbering.with_paths.Given as goal

abbrev pub invariant-loop-path : goal.invariant-loop-path
invariant-loop-path l = record {
  left : with_new l.numbering (drop l.path-index l.others) ≡ with_new l.initial.numbering l.others;
  few : length l.numbering ≤ length l.initial.numbering + l.path-index;
}
