use Rattle.std.proofs.Common.{Some, ap, sym, refl, rules}
use Rattle.mt_io.specs.Memory.{PieceReading, joined}
use Rattle.mt_io.proofs.Readings.{reads_piece}
use Rattle.mt_io.proofs.list_source.ListSourceSource.read.Goals as goal

pub returns-clause-reads : goal.returns-clause-reads
returns-clause-reads c =
    reads_piece _ _ c.self.inside.pieces _ _ _ (ap (λ s. Some (joined s.reading)) (sym c.self.view_is)) (ap (λ (r : PieceReading). Some (joined r)) c.hand_out.ensures.given)
    c.hand_out.ensures.count c.hand_out.ensures.written (search rules) refl
