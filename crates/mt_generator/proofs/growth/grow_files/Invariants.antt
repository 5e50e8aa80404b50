use Rattle.std.proofs.Common.{◌≡◌, ◌≤◌}
use Rattle.mt_generator.specs.Growths.{first_files}
use Rattle.mt_generator.proofs.growth.grow_files.Given as goal

abbrev pub invariant-loop-number : goal.invariant-loop-number
invariant-loop-number l = record {
  inside : l.number ≤ l.modules;
  files : l.files ≡ (first_files l.initial.draws.state l.modules l.number).0;
  state : l.draws.state ≡ (first_files l.initial.draws.state l.modules l.number).1;
}
