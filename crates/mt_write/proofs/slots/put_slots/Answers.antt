use Rattle.std.proofs.Common.{◌≡◌, ◌∙◌, ◌<◌, ◌-◌, ap, rules, arith, append-nil, codes, ◌++◌, ◌∷◌, [], List, get_or, take, drop, length, take_all}
use Rattle.std.specs.List.{join_by, flat_map}
use Rattle.mt_write.proofs.Buffered.{buffered_as, buffered_none, buffered_then, buffer_stopped_at}
use Rattle.mt_write.specs.Modules.{slot_text}
use Rattle.mt_write.specs.declared.slot.Slot.{Slot}
use Rattle.mt_write.specs.declared.slot.Slot.TheVariants.{Module}
use Rattle.mt_write.proofs.slots.put_slots.Goals as goal

-- the first number, and each other with a `,` before it
joined : (slots : List Slot) → 0 < length slots → slot_text (get_or slots 0 (Module 0)) ++ flat_map (λ slot. codes "," ++ slot_text slot) (take (length slots - 1) (drop 1 slots)) ≡ join_by slot_text (codes ",") slots
joined [] some = absurd (omega arith)
joined (s ∷ ss) some = ap (λ (xs : List Slot). slot_text s ++ flat_map (λ slot. codes "," ++ slot_text slot) xs) (take_all (length (s ∷ ss) - 1) ss (omega arith))

pub returns-in_err-put_slot : goal.returns-in_err-put_slot
returns-in_err-put_slot g c =
    let h = buffer_stopped_at _ _ _ _ _ _ (slot_text (get_or c.args.slots.now 0 (Module 0))) (flat_map (λ slot. codes "," ++ slot_text slot) (take (length c.args.slots.now - 1) (drop 1 c.args.slots.now))) (join_by slot_text (codes ",") c.args.slots.now) (buffered_none _ c.args.buffer.now) c.in_err-put_slot.ensures.stop (joined c.args.slots.now (omega arith)) in
    search rules

pub returns-in_err-put_next_slots : goal.returns-in_err-put_next_slots
returns-in_err-put_next_slots g c =
    let h = buffer_stopped_at _ _ _ _ _ _ (flat_map (λ slot. codes "," ++ slot_text slot) (take (length c.args.slots.now - 1) (drop 1 c.args.slots.now))) [] (join_by slot_text (codes ",") c.args.slots.now) c.in_ok-put_slot.ensures.all c.in_err-put_next_slots.ensures.stop (append-nil _ ∙ joined c.args.slots.now (omega arith)) in
    search rules

pub returns : goal.returns
returns g c =
    let h = buffered_as _ _ _ _ _ _ (buffered_then _ _ _ _ _ _ _ _ c.in_ok-put_slot.ensures.all c.in_ok-put_next_slots.ensures.all) (joined c.args.slots.now (omega arith)) in
    search rules
