use Rattle.std.proofs.Common.{◌≤◌, take}
use Rattle.mt_io.specs.Seen.{Wrote}
use Rattle.mt_report.specs.Listings.{fault_lines}
use Rattle.mt_report.proofs.listing.write_faults.Given as goal

abbrev pub invariant-loop-fault : goal.invariant-loop-fault
invariant-loop-fault g l = record {
  written : Wrote (g.S.Sink.seen l.initial.sink) (g.S.Sink.seen l.sink) (fault_lines (take l.fault-index l.faults));
  later : (g.S.Sink.seen l.initial.sink).faults ≤ (g.S.Sink.seen l.sink).faults;
}
