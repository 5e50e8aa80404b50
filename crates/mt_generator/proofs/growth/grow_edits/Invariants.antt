use Rattle.std.proofs.Common.{◌≡◌, ◌≤◌}
use Rattle.mt_generator.specs.Growths.{edits_grown}
use Rattle.mt_generator.proofs.growth.grow_edits.Given as goal

abbrev pub invariant-loop : goal.invariant-loop
invariant-loop l = record {
  inside : l.counter ≤ l.edits;
  commands : l.commands ≡ (edits_grown l.initial.draws.state l.modules l.counter).0;
  state : l.draws.state ≡ (edits_grown l.initial.draws.state l.modules l.counter).1;
}
