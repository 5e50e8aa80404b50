use Rattle.std.proofs.Common.{take, ◌≤◌}
use Rattle.std.specs.List.{flat_map}
use Rattle.mt_write.specs.Buffered.{Buffered}
use Rattle.mt_write.specs.Modules.{escaped_byte}
use Rattle.mt_write.proofs.slots.put_escaped.Given as goal

abbrev pub invariant-loop-byte : goal.invariant-loop-byte
invariant-loop-byte g l = record {
  put : Buffered (g.S.Sink.seen l.initial.sink) (g.S.Sink.seen l.sink) l.initial.buffer (flat_map escaped_byte (take l.byte-index l.text)) l.buffer;
  later : (g.S.Sink.seen l.initial.sink).faults ≤ (g.S.Sink.seen l.sink).faults;
}
