use Rattle.std.proofs.Common.{take, ◌≤◌}
use Rattle.std.specs.List.{flat_map}
use Rattle.mt_write.specs.Buffered.{Buffered}
use Rattle.mt_write.specs.Pieces.{piece_text}
use Rattle.mt_write.proofs.pieces.put_pieces.Given as goal

abbrev pub invariant-loop-piece : goal.invariant-loop-piece
invariant-loop-piece g l = record {
  put : Buffered (g.S.Sink.seen l.initial.sink) (g.S.Sink.seen l.sink) l.initial.buffer (flat_map piece_text (take l.piece-index l.pieces)) l.buffer;
  later : (g.S.Sink.seen l.initial.sink).faults ≤ (g.S.Sink.seen l.sink).faults;
}
