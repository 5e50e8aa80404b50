use Rattle.std.proofs.Common.{◌≡◌, ◌≤◌, ◌++◌}
use Rattle.mt_generator.specs.Modules.{lines_drawn}
use Rattle.mt_generator.proofs.module.push_drawn.Given as goal

abbrev pub invariant-loop : goal.invariant-loop
invariant-loop l = record {
  inside : l.counter ≤ l.count;
  text : l.text ≡ l.initial.text ++ (lines_drawn l.initial.draws.state l.modules l.counter).0;
  state : l.draws.state ≡ (lines_drawn l.initial.draws.state l.modules l.counter).1;
}
