-- A byte that is no quote and no line end is passed, with what a `\` takes.
use Rattle.std.proofs.Common.{arith, ◌∙◌, ◌+◌, ◌≡◌, refl, drop, eqb, true, false, get_or, sym}
use Rattle.std.proofs.lemmas.Bool.Decides.{nat_tests}
use Rattle.mt_chars.specs.LineEnds.{escape_len}
use Rattle.mt_chars.proofs.Rests.{slice_from}
use Rattle.mt_chars.proofs.Extents.{escape_few}
use Rattle.mt_tokens.proofs.Walks.{closing_pass}
use Rattle.mt_tokens.proofs.strings.front_closing_len.Goals as goal

pub loop-at-preserved-then-b-eq92 : goal.loop-at-preserved-then-b-eq92
loop-at-preserved-then-b-eq92 c =
    let rest = c.args.rest.now in
    let b = get_or rest c.loop-at.at 0 in
    let n : eqb b 92 ≡ true = grind (arith, nat_tests) in
    let t : c.front_escape_len-at.result ≡ escape_len (drop (c.loop-at.at + 1) rest) = rw (sym (slice_from rest (c.loop-at.at + 1))) c.front_escape_len-at.ensures in
    let few = escape_few (drop (c.loop-at.at + 1) rest) in
    record {
      within = omega arith;
      closing = c.loop-at.invariant.closing ∙ closing_pass c.args.quote rest c.loop-at.at b c.front_escape_len-at.result c.loop-at-test.true refl c.if-b-quote.false c.if-b-eq10.false c.if-b-eq13.false (rw n t);
    }

pub loop-at-preserved : goal.loop-at-preserved
loop-at-preserved c =
    let rest = c.args.rest.now in
    let b = get_or rest c.loop-at.at 0 in
    let n : eqb b 92 ≡ false = grind (arith, nat_tests) in
    let p = closing_pass c.args.quote rest c.loop-at.at b 0 c.loop-at-test.true refl c.if-b-quote.false c.if-b-eq10.false c.if-b-eq13.false (rw n refl) in
    let z : c.loop-at.at + 1 + 0 ≡ c.loop-at.at + 1 = omega arith in
    record { within = omega arith; closing = c.loop-at.invariant.closing ∙ rw z at p }
