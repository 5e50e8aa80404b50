-- A byte where no `*/` begins is passed.
use Rattle.std.proofs.Common.{arith, false, ◌≡◌, ◌∙◌, [], ◌∷◌, drop, eqb, sym, ap}
use Rattle.std.specs.List.{starts_with}
use Rattle.mt_chars.proofs.Rests.{slice_from}
use Rattle.mt_tokens.proofs.Walks.{block_more}
use Rattle.mt_tokens.proofs.comments.front_block_len.Goals as goal

pub loop-at-preserved : goal.loop-at-preserved
loop-at-preserved c =
    let s = slice_from c.args.rest.now c.loop-at.at in
    let e : starts_with eqb (drop c.loop-at.at c.args.rest.now) (42 ∷ 47 ∷ []) ≡ false =
    ap (λ x. starts_with eqb x (42 ∷ 47 ∷ [])) (sym s) ∙ sym c.if-starts_with.ensures.value in
    record { within = omega arith; block = c.loop-at.invariant.block ∙ block_more c.args.rest.now c.loop-at.at c.loop-at-test.true e }
