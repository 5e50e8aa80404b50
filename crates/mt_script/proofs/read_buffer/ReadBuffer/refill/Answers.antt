use Rattle.std.proofs.Common.{◌∙◌, ap, sym, arith, List, ℕ, take, drop, ◌+◌, length-take}
use Rattle.std.proofs.lemmas.Grind.{common_steps}
use Rattle.mt_script.proofs.Holds.{holds_none, holds_drop}
use Rattle.mt_script.proofs.read_buffer.ReadBuffer.refill.Goals as goal

pub returns-in_err-count-clause-holds : goal.returns-in_err-count-clause-holds
returns-in_err-count-clause-holds g c = λ r e.
    holds_none r _ _ _ (c.in_err-count.ensures.err ∙ e) (grind (arith, common_steps))

pub returns-clause-holds : goal.returns-clause-holds
returns-clause-holds g c = λ r e.
    holds_drop r _ (take c.make_room.result.1 c.as_mut_slice.result.now) (take (c.make_room.result.1 + c.in_ok-count.count) c.read_after.new.into) _ _ c.make_room.result.0 (c.in_ok-count.ensures.holds r e)
    (omega (arith, c.make_room.ensures.order, c.in_ok-count.ensures.within, length-take c.make_room.result.1 c.as_mut_slice.result.now))
    (sym c.self.view_is ∙ sym c.make_room.ensures.same ∙ ap (λ (xs : List ℕ). drop c.make_room.result.0 (take c.make_room.result.1 xs)) (sym c.as_mut_slice.ensures.value))
    (grind (arith, common_steps))
