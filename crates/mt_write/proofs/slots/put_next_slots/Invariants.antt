use Rattle.std.proofs.Common.{take, ◌≤◌, ◌++◌, codes}
use Rattle.std.specs.List.{flat_map}
use Rattle.mt_write.specs.Buffered.{Buffered}
use Rattle.mt_write.specs.Modules.{slot_text}
use Rattle.mt_write.proofs.slots.put_next_slots.Given as goal

abbrev pub invariant-loop-slot : goal.invariant-loop-slot
invariant-loop-slot g l = record {
  put : Buffered (g.S.Sink.seen l.initial.sink) (g.S.Sink.seen l.sink) l.initial.buffer (flat_map (λ slot. codes "," ++ slot_text slot) (take l.slot-index l.slots)) l.buffer;
  later : (g.S.Sink.seen l.initial.sink).faults ≤ (g.S.Sink.seen l.sink).faults;
}
