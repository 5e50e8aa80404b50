use Rattle.std.proofs.Common.{◌≡◌, ◌∙◌, inl, inr, length, take, sym, ap, arith, rules, Ok}
use Rattle.mt_script.specs.Heads.{head_of}
use Rattle.mt_script.specs.Steps.{line_end}
use Rattle.mt_script.specs.declared.line.LineEnd.TheVariants.{Whole}
use Rattle.mt_script.proofs.LineEnds.{when_whole}
use Rattle.mt_script.proofs.Finds.{asks_held, held_asks, held_bad, held_failed, held_long, held_open}
use Rattle.mt_script.proofs.Spells.{told_by}
use Rattle.mt_script.proofs.Steps.{next_open}
use Rattle.mt_script.proofs.reader.read_head.Goals as goal

pub returns-in_err-len-clause-waits : goal.returns-in_err-len-clause-waits
returns-in_err-len-clause-waits g c =
    inr (elim c.in_err-len.ensures.waits [
      | inl p ↦ next_open c.args.count c.args.buffer.now (ap line_end (sym p.1) ∙ c.in_err-len.ensures.err)
      | inr p ↦ next_open c.args.count c.args.buffer.now p
    ])

pub returns-in_err-len-clause-interrupted : goal.returns-in_err-len-clause-interrupted
returns-in_err-len-clause-interrupted g c = λ r e _.
    held_failed c.args.count r _ _ c.hold_line.new.buffer (c.hold_line.ensures.holds r e) c.in_err-len.ensures.err

pub returns-in-TooLong-clause-waits : goal.returns-in-TooLong-clause-waits
returns-in-TooLong-clause-waits g c = elim c.hold_line.ensures.waits [ inl p ↦ inl (p.0, tt) | inr p ↦ inr (next_open c.args.count c.args.buffer.now p) ]

pub returns-in-TooLong-clause-refused : goal.returns-in-TooLong-clause-refused
returns-in-TooLong-clause-refused g c = λ r e.
    held_long c.args.count r _ _ c.hold_line.new.buffer (c.hold_line.ensures.holds r e) (sym c.in_ok-len.ensures.end ∙ c.in-TooLong.is)

pub returns-in-Unfinished-clause-waits : goal.returns-in-Unfinished-clause-waits
returns-in-Unfinished-clause-waits g c = elim c.hold_line.ensures.waits [ inl p ↦ inl (p.0, tt) | inr p ↦ inr (next_open c.args.count c.args.buffer.now p) ]

pub returns-in-Unfinished-clause-refused : goal.returns-in-Unfinished-clause-refused
returns-in-Unfinished-clause-refused g c = λ r e.
    held_open c.args.count r _ _ c.hold_line.new.buffer (c.hold_line.ensures.holds r e) (c.in_ok-len.ensures.spent r e (ap Ok c.in-Unfinished.is)) (sym c.in_ok-len.ensures.end ∙ c.in-Unfinished.is)

pub split_at-requires : goal.split_at-requires
split_at-requires g c =
    let end : line_end c.hold_line.new.buffer ≡ Whole c.in-Whole.len = sym c.in_ok-len.ensures.end ∙ c.in-Whole.is in
    let ends = when_whole c.hold_line.new.buffer c.in-Whole.len end in
    omega (arith, ends.within, ap length c.as_slice.ensures.bytes)

pub returns-in_err-head-clause-waits : goal.returns-in_err-head-clause-waits
returns-in_err-head-clause-waits g c = elim c.hold_line.ensures.waits [ inl p ↦ inl (p.0, search rules) | inr p ↦ inr (next_open c.args.count c.args.buffer.now p) ]

pub returns-in_default-clause-waits : goal.returns-in_default-clause-waits
returns-in_default-clause-waits g c = elim c.hold_line.ensures.waits [ inl p ↦ inl (p.0, tt) | inr p ↦ inr (next_open c.args.count c.args.buffer.now p) ]

pub returns-in_default-clause-refused : goal.returns-in_default-clause-refused
returns-in_default-clause-refused g c = λ r e.
    let line = c.split_at.ensures.front ∙ ap (take c.in-Whole.len) c.as_slice.ensures.bytes in
    held_bad c.args.count r _ _ c.hold_line.new.buffer c.in-Whole.len (c.hold_line.ensures.holds r e)
    (sym c.in_ok-len.ensures.end ∙ c.in-Whole.is)
    (ap head_of (sym line) ∙ sym c.in_ok-head.ensures.head ∙ c.in_default.is)

pub returns-clause-head : goal.returns-clause-head
returns-clause-head g c = (told_by c.split_at.result.0.now c.in-Some.head (sym c.in_ok-head.ensures.head ∙ c.in-Some.is)).names

pub returns-clause-waits : goal.returns-clause-waits
returns-clause-waits g c =
    let line = c.split_at.ensures.front ∙ ap (take c.in-Whole.len) c.as_slice.ensures.bytes in
    elim c.hold_line.ensures.waits [
      | inl p ↦ inl (
        p.0,
        asks_held c.args.count c.args.buffer.now c.hold_line.new.buffer c.skip.new.self c.in-Whole.len c.in-Some.head p.1
            (sym c.in_ok-len.ensures.end ∙ c.in-Whole.is)
            (ap head_of (sym line) ∙ sym c.in_ok-head.ensures.head ∙ c.in-Some.is)
            c.skip.ensures.rest,
      )
      | inr p ↦ inr (next_open c.args.count c.args.buffer.now p)
    ]

pub returns-clause-found : goal.returns-clause-found
returns-clause-found g c = λ r e.
    let line = c.split_at.ensures.front ∙ ap (take c.in-Whole.len) c.as_slice.ensures.bytes in
    held_asks c.args.count r _ _ c.hold_line.new.buffer c.skip.new.self c.in-Whole.len c.in-Some.head (c.hold_line.ensures.holds r e)
    (sym c.in_ok-len.ensures.end ∙ c.in-Whole.is)
    (ap head_of (sym line) ∙ sym c.in_ok-head.ensures.head ∙ c.in-Some.is)
    c.skip.ensures.rest
