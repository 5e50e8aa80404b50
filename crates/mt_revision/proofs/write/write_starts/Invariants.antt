use Rattle.std.proofs.Common.{◌≤◌, drop}
use Rattle.std.specs.List.{flat_map}
use Rattle.mt_write.specs.Modules.{start_of}
use Rattle.mt_revision.proofs.Writes.{IsWritten}
use Rattle.mt_revision.proofs.write.write_starts.Given as goal

abbrev pub invariant-loop-entry : goal.invariant-loop-entry
invariant-loop-entry g l = record {
  written : IsWritten (g.S.Sink.seen l.initial.sink) (g.S.Sink.seen l.sink) (flat_map start_of (drop l.entry-index l.entries)) (flat_map start_of l.entries);
  later : (g.S.Sink.seen l.initial.sink).faults ≤ (g.S.Sink.seen l.sink).faults;
}
