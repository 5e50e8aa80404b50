use Rattle.std.proofs.Common.{arith, ◌<◌, ◌≤◌, length, get_or, ⊎_elim, ◌≡◌, ℕ, List}
use Rattle.std.proofs.lemmas.List.{get_or_past}
use Rattle.std.proofs.lemmas.Bool.{cases_lt}
use Rattle.mt_refs.proofs.Sums.{times_here}
use Rattle.mt_refs.proofs.counts.count_down.Goals as goal

within : (xs : List ℕ) (n : ℕ) → 1 ≤ get_or xs n 0 → n < length xs
within xs n h = ⊎_elim (λ a. a) (λ b. let p : get_or xs n 0 ≡ 0 = get_or_past xs n 0 b in absurd (omega arith)) (cases_lt n (length xs))

pub overflow_sub-counts : goal.overflow_sub-counts
overflow_sub-counts c =
    let n = get_or c.args.targets.now c.loop-t.t-index 0 in
    let here = times_here c.args.targets.now c.loop-t.t-index c.loop-t-test.true in
    let kept = c.loop-t.invariant n in
    let least = c.requires.counted n in
    omega arith

pub bounds-counts-t : goal.bounds-counts-t
bounds-counts-t c =
    let n = get_or c.args.targets.now c.loop-t.t-index 0 in
    let here = times_here c.args.targets.now c.loop-t.t-index c.loop-t-test.true in
    let kept = c.loop-t.invariant n in
    let least = c.requires.counted n in
    within c.loop-t.counts n (omega arith)
