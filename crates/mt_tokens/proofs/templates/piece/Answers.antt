-- The piece's end is within the text.
use Rattle.std.proofs.Common.{arith, take, drop, length, ◌-◌}
use Rattle.std.proofs.lemmas.List.{length-take}
use Rattle.mt_tokens.proofs.Extents.{piece_end}
use Rattle.mt_tokens.proofs.templates.piece.Goals as goal

pub overflow_add-result : goal.overflow_add-result
overflow_add-result c =
    let body = take (length c.args.rest.now - 1) (drop 1 c.args.rest.now) in
    let e = piece_end body c.in-Some.len c.in-Some.ensures in
    let l = e.1 in
    omega (arith, l, length-take (length c.args.rest.now - 1) (drop 1 c.args.rest.now))
