use Rattle.std.proofs.Common.{rules, codes}
use Rattle.mt_write.specs.Modules.{slot_text}
use Rattle.mt_write.proofs.Buffered.{buffer_stopped_more}
use Rattle.mt_write.proofs.slots.put_next_slot.Goals as goal

pub returns-in_err-put : goal.returns-in_err-put
returns-in_err-put g c = let h = buffer_stopped_more _ _ _ (codes ",") (slot_text c.args.slot) c.in_err-put.ensures.stop in search rules
