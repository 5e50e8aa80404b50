use Rattle.std.proofs.Common.{◌≤◌}
use Rattle.std.specs.List.{flat_map}
use Rattle.std.specs.FinMap.{entries}
use Rattle.mt_revision.specs.Texts.{text_in}
use Rattle.mt_revision.proofs.Writes.{IsWritten}
use Rattle.mt_revision.proofs.write.write_modules.Given as goal

abbrev pub invariant-loop-number : goal.invariant-loop-number
invariant-loop-number g l = record {
  written : IsWritten (g.S.Sink.seen l.initial.sink) (g.S.Sink.seen l.sink) (flat_map (λ e. text_in l.dev e.0 e.1) l.number-iterator) (flat_map (λ e. text_in l.dev e.0 e.1) (entries l.modules));
  later : (g.S.Sink.seen l.initial.sink).faults ≤ (g.S.Sink.seen l.sink).faults;
}
