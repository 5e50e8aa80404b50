use Rattle.std.proofs.Common.{◌≡◌, ◌+◌, ◌-◌, cond, nat_eq, take, get_or, ap, arith}
use Rattle.std.specs.FinMap.{insert}
use Rattle.std.proofs.lemmas.List.Sums.{sum_by_more}
use Rattle.mt_refs.specs.Lists.{times}
use Rattle.mt_refs.proofs.Sums.{times_here}
use Rattle.mt_trial.specs.Deaths.{left_at}
use Rattle.mt_trial.proofs.Lefts.{lowered}
use Rattle.mt_trial.proofs.counts.count_down.Goals as goal

pub loop-t-preserved : goal.loop-t-preserved
loop-t-preserved c = λ n.
    let xs = c.args.targets.now in
    let i = c.loop-t.t-index in
    let t = get_or xs i 0 in
    let x = c.left-count.result - 1 in
    let kept = c.loop-t.invariant n in
    let more : times n (take (i + 1) xs) ≡ times n (take i xs) + cond (nat_eq n t) 1 0 = sum_by_more (λ x. cond (nat_eq n x) 1 0) xs i 0 c.loop-t-test.true in
    let here = times_here xs i c.loop-t-test.true in
    let so_far = c.loop-t.invariant t in
    let least = c.requires.counted t in
    let is = c.left-count.ensures.left in
    let one : x + 1 ≡ left_at c.loop-t.counts t = omega arith in
    let step = lowered c.loop-t.counts t x n one in
    let new : left_at c.insert.new.self n ≡ left_at (insert c.loop-t.counts t x) n = ap (λ m. left_at m n) c.in_ok-insert.ensures.ok in
    omega arith
