-- The digits of another base.
use Rattle.std.proofs.Common.{refl, sym, ◌≡◌, true}
use Rattle.mt_chars.specs.Numbers.{begins_base}
use Rattle.mt_chars.proofs.Rests.{slice_from}
use Rattle.mt_chars.proofs.numbers.front_number_len.Goals as goal

pub returns-then-begins_base_at : goal.returns-then-begins_base_at
returns-then-begins_base_at c =
    let b : begins_base c.args.rest.now ≡ true = sym c.if-begins_base_at.ensures in
    rw b (rw (c.number_part_len.ensures.value, slice_from c.args.rest.now 2) refl)
