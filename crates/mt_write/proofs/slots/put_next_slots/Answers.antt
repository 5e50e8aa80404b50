use Rattle.std.proofs.Common.{rules, refl, arith, ◌++◌, codes}
use Rattle.mt_write.specs.Modules.{slot_text}
use Rattle.mt_write.specs.declared.slot.Slot.TheVariants.{Module}
use Rattle.mt_write.proofs.Buffered.{buffered_each, buffer_stopped_each}
use Rattle.mt_write.proofs.slots.put_next_slots.Goals as goal

pub loop-slot-preserved : goal.loop-slot-preserved
loop-slot-preserved g c = record {
  put = buffered_each (λ slot. codes "," ++ slot_text slot) _ _ _ _ _ _ c.args.slots.now c.loop-slot.slot-index (Module 0) _ (omega arith) refl c.loop-slot.invariant.put c.in_ok-put_next_slot.ensures.all;
  later = omega (arith, c.in_ok-put_next_slot.ensures.later);
}

pub returns-in_err-put_next_slot : goal.returns-in_err-put_next_slot
returns-in_err-put_next_slot g c = let h = buffer_stopped_each (λ slot. codes "," ++ slot_text slot) _ _ _ _ _ c.args.slots.now c.loop-slot.slot-index (Module 0) _ (omega arith) refl c.loop-slot.invariant.put c.in_err-put_next_slot.ensures.stop in search rules
