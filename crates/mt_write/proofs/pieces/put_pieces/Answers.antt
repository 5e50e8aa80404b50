use Rattle.std.proofs.Common.{rules, arith}
use Rattle.mt_write.specs.Pieces.{piece_text}
use Rattle.mt_write.proofs.Buffered.{buffered_each, buffer_stopped_each}
use Rattle.mt_write.proofs.pieces.put_pieces.Goals as goal

pub loop-piece-preserved : goal.loop-piece-preserved
loop-piece-preserved g c = record {
  put = buffered_each piece_text _ _ _ _ _ _ c.args.pieces.now c.loop-piece.piece-index c.piece-item.result _ (omega arith) c.piece-item.is c.loop-piece.invariant.put c.in_ok-put_piece.ensures.all;
  later = omega (arith, c.in_ok-put_piece.ensures.later);
}

pub returns-in_err-put_piece : goal.returns-in_err-put_piece
returns-in_err-put_piece g c = let h = buffer_stopped_each piece_text _ _ _ _ _ c.args.pieces.now c.loop-piece.piece-index c.piece-item.result _ (omega arith) c.piece-item.is c.loop-piece.invariant.put c.in_err-put_piece.ensures.stop in search rules
