use Rattle.mt_entry.specs.Readers.{HasRead}
use Rattle.mt_entry.proofs.reader.read_names.Given as goal

abbrev pub invariant-loop-at : goal.invariant-loop-at
invariant-loop-at l = HasRead l.count l._at l.bytes l.left l.names
