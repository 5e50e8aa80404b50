use Rattle.std.proofs.Common.{length, ◌-◌, ◌≤◌, take}
use Rattle.mt_io.specs.Seen.{Wrote}
use Rattle.mt_io.proofs.sink.send_all.Given as goal

abbrev pub invariant-loop-at : goal.invariant-loop-at
invariant-loop-at g l = record {
  within : l.at ≤ length l.bytes;
  sent : Wrote (g.S.Sink.seen l.initial.sink) (g.S.Sink.seen l.sink) (take l.at l.bytes);
  later : (g.S.Sink.seen l.initial.sink).faults ≤ (g.S.Sink.seen l.sink).faults;
}

abbrev pub decreases-loop-at : goal.decreases-loop-at
decreases-loop-at g l = length l.bytes - l.at
