use Rattle.metro_program.proofs.Writes.{writes_apart}
use Rattle.metro_program.proofs.still.tell.Goals as goal

pub returns-in-Ok-clause-apart : goal.returns-in-Ok-clause-apart
returns-in-Ok-clause-apart g c = writes_apart _ _ _ c.send_all.result c.send_all.ensures

pub returns-in-Err-clause-apart : goal.returns-in-Err-clause-apart
returns-in-Err-clause-apart g c = writes_apart _ _ _ c.send_all-in-Err.result c.send_all-in-Err.ensures
