-- A byte that ends no piece is passed.
use Rattle.std.proofs.Common.{arith, ◌≡◌, ◌∙◌, ◌+◌, true, false, drop, get_or, refl, sym, ap}
use Rattle.std.specs.Option.{option_map}
use Rattle.mt_tokens.specs.Templates.{opens_hole, piece_len}
use Rattle.mt_tokens.proofs.Walks.{counted_end, counted_stop, piece_hole, piece_pass, piece_past, piece_stop}
use Rattle.mt_tokens.proofs.templates.front_piece_len.Goals as goal

pub returns-then-is_free_byte : goal.returns-then-is_free_byte
returns-then-is_free_byte c =
    let rest = c.args.rest.now in
    let at = c.loop-at.at in
    let taken = c.loop-at.taken in
    counted_stop (piece_len false rest) (piece_len taken (drop at rest)) at 1 (at + 1) c.loop-at.invariant.piece (piece_stop taken rest at c.loop-at-test.true (sym c.is_free_byte.ensures ∙ c.if-is_free_byte.true)) refl

pub returns-then-opens_hole_at : goal.returns-then-opens_hole_at
returns-then-opens_hole_at c =
    let rest = c.args.rest.now in
    let at = c.loop-at.at in
    let taken = c.loop-at.taken in
    let h : opens_hole taken (get_or rest at 0) (get_or rest (at + 1) 0) ≡ true = ap (opens_hole taken (get_or rest at 0)) (sym c.byte_at.ensures.byte) ∙ sym c.opens_hole_at.ensures ∙ c.if-opens_hole_at.true in
    counted_stop (piece_len false rest) (piece_len taken (drop at rest)) at 2 (at + 1 + 1) c.loop-at.invariant.piece (piece_hole taken rest at c.loop-at-test.true (sym c.is_free_byte.ensures ∙ c.if-is_free_byte.false) h) (omega arith)

pub loop-at-preserved : goal.loop-at-preserved
loop-at-preserved c =
    let rest = c.args.rest.now in
    let at = c.loop-at.at in
    let taken = c.loop-at.taken in
    let h : opens_hole taken (get_or rest at 0) (get_or rest (at + 1) 0) ≡ false = ap (opens_hole taken (get_or rest at 0)) (sym c.byte_at.ensures.byte) ∙ sym c.opens_hole_at.ensures ∙ c.if-opens_hole_at.false in
    let p = piece_pass taken rest at c.loop-at-test.true (sym c.is_free_byte.ensures ∙ c.if-is_free_byte.false) h in
    record {
      within = omega arith;
      piece = c.loop-at.invariant.piece ∙ p ∙ ap (λ t. option_map (λ n. n + (at + 1)) (piece_len t (drop (at + 1) rest))) (sym c.is_free_byte-taken.ensures);
    }

pub returns : goal.returns
returns c = counted_end (piece_len false c.args.rest.now) (piece_len c.loop-at.taken (drop c.loop-at.at c.args.rest.now)) c.loop-at.at c.loop-at.invariant.piece (piece_past c.loop-at.taken c.args.rest.now c.loop-at.at c.loop-at-test.false)
