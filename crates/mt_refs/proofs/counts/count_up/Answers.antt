use Rattle.std.proofs.Common.{arith, get_or}
use Rattle.mt_refs.proofs.Sums.{times_here}
use Rattle.mt_refs.proofs.counts.count_up.Goals as goal

pub overflow_add-counts : goal.overflow_add-counts
overflow_add-counts c =
    let n = get_or c.args.targets.now c.loop-t.t-index 0 in
    let here = times_here c.args.targets.now c.loop-t.t-index c.loop-t-test.true in
    let kept = c.loop-t.invariant n in
    let room = c.requires.room n in
    omega arith
