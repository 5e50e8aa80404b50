-- A byte that ends no regular expression is passed.
use Rattle.std.proofs.Common.{arith, ◌≡◌, ◌∙◌, ◌+◌, true, false, drop, refl, sym, ap}
use Rattle.std.specs.Option.{option_map}
use Rattle.mt_chars.specs.LineEnds.{begins_line_end}
use Rattle.mt_chars.proofs.Rests.{slice_from}
use Rattle.mt_tokens.specs.Regexes.{body_len}
use Rattle.mt_tokens.proofs.Walks.{body_line, body_pass, body_past, body_stop, counted_end, counted_stop}
use Rattle.mt_tokens.proofs.regexes.front_body_len.Goals as goal

pub returns-then-begins_line_end_at : goal.returns-then-begins_line_end_at
returns-then-begins_line_end_at c =
    let rest = c.args.rest.now in
    let at = c.loop-at.at in
    let l : begins_line_end (drop at rest) ≡ true = ap begins_line_end (sym (slice_from rest at)) ∙ sym c.begins_line_end_at.ensures ∙ c.if-begins_line_end_at.true in
    counted_end (body_len false false rest) (body_len c.loop-at.in_class c.loop-at.taken (drop at rest)) at c.loop-at.invariant.body (body_line c.loop-at.in_class c.loop-at.taken rest at c.loop-at-test.true l)

pub returns-then-ends_body_at : goal.returns-then-ends_body_at
returns-then-ends_body_at c =
    let rest = c.args.rest.now in
    let at = c.loop-at.at in
    let l : begins_line_end (drop at rest) ≡ false = ap begins_line_end (sym (slice_from rest at)) ∙ sym c.begins_line_end_at.ensures ∙ c.if-begins_line_end_at.false in
    counted_stop (body_len false false rest) (body_len c.loop-at.in_class c.loop-at.taken (drop at rest)) at 1 (at + 1) c.loop-at.invariant.body
    (body_stop c.loop-at.in_class c.loop-at.taken rest at c.loop-at-test.true l (sym c.ends_body_at.ensures ∙ c.if-ends_body_at.true)) refl

pub loop-at-preserved : goal.loop-at-preserved
loop-at-preserved c =
    let rest = c.args.rest.now in
    let at = c.loop-at.at in
    let l : begins_line_end (drop at rest) ≡ false = ap begins_line_end (sym (slice_from rest at)) ∙ sym c.begins_line_end_at.ensures ∙ c.if-begins_line_end_at.false in
    let p = body_pass c.loop-at.in_class c.loop-at.taken rest at c.loop-at-test.true l (sym c.ends_body_at.ensures ∙ c.if-ends_body_at.false) in
    record {
      within = omega arith;
      body = c.loop-at.invariant.body ∙ p
          ∙ (λ i. option_map (λ n. n + (at + 1)) (body_len (sym c.is_in_class_after-in_class.ensures i) (sym c.is_free_byte-taken.ensures i) (drop (at + 1) rest)));
    }

pub returns : goal.returns
returns c =
    counted_end (body_len false false c.args.rest.now) (body_len c.loop-at.in_class c.loop-at.taken (drop c.loop-at.at c.args.rest.now)) c.loop-at.at c.loop-at.invariant.body
    (body_past c.loop-at.in_class c.loop-at.taken c.args.rest.now c.loop-at.at c.loop-at-test.false)
