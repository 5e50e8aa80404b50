use Rattle.std.proofs.Common.{◌≡◌, ◌<◌, [], length, get_or, arith, sym, ◌∙◌, ap, List, ℕ}
use Rattle.std.proofs.lemmas.List.{get_or_read}
use Rattle.mt_io.proofs.Readings.{given_spent, left_spent, left_unspent}
use Rattle.mt_io.proofs.list_source.next_place.Goals as goal

pub loop-next-preserved : goal.loop-next-preserved
loop-next-preserved c =
    let within : c.loop-next.next < length c.args.list.now = omega arith in
    let item : c.index-list-next.result ≡ get_or c.args.list.now c.loop-next.next [] = get_or_read c.args.list.now c.loop-next.next c.index-list-next.result within c.index-list-next.is [] in
    let at_end = c.if-from-len.true ∙ c.len.ensures.count ∙ ap (λ (xs : List ℕ). length xs) item in
    record {
      given = given_spent c.args.list.now c.loop-next.next c.loop-next.from within at_end ∙ c.loop-next.invariant.given;
      left = left_spent c.args.list.now c.loop-next.next c.loop-next.from within at_end ∙ c.loop-next.invariant.left;
      within = omega arith;
    }

pub returns-else-from-len-clause-left : goal.returns-else-from-len-clause-left
returns-else-from-len-clause-left c =
    let within : c.loop-next.next < length c.args.list.now = omega arith in
    let item : c.index-list-next.result ≡ get_or c.args.list.now c.loop-next.next [] = get_or_read c.args.list.now c.loop-next.next c.index-list-next.result within c.index-list-next.is [] in
    let len = c.len.ensures.count ∙ ap (λ (xs : List ℕ). length xs) item in
    sym (left_unspent c.args.list.now c.loop-next.next c.loop-next.from (λ _. omega (arith, len, c.if-from-len.false, c.loop-next.invariant.within))) ∙ c.loop-next.invariant.left
