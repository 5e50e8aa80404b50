use Rattle.std.proofs.Common.{◌≡◌, ◌+◌, ℕ, List, get_or, take, ap, ◌∙◌, arith}
use Rattle.std.proofs.lemmas.List.Sums.{sum_by_more, sum_by_more_le}
use Rattle.mt_refs.specs.Lists.{times}
use Rattle.mt_refs.specs.Patches.{sum_then}
use Rattle.mt_refs.proofs.overlay.count_lists.Goals as goal

pub count_up-requires : goal.count_up-requires
count_up-requires c = record {
  room = λ n.
      let set = c.args.set.now in
      let i = c.loop-one.one-index in
      let d = c.one-item.result in
      let kept = c.loop-one.invariant n in
      let room = c.requires.room n in
      let more = sum_by_more_le (λ (s : ℕ × List ℕ). times n s.1) set i d c.loop-one-test.true in
      let item : times n c.as_slice.result.now ≡ times n (get_or set i d).1 = ap (times n) (c.as_slice.ensures.items ∙ ap (λ s. s.1) c.one-item.is) in
      omega arith;
}

pub loop-one-preserved : goal.loop-one-preserved
loop-one-preserved c = λ n.
    let set = c.args.set.now in
    let i = c.loop-one.one-index in
    let d = c.one-item.result in
    let kept = c.loop-one.invariant n in
    let more : sum_then (times n) (take (i + 1) set) ≡ sum_then (times n) (take i set) + times n (get_or set i d).1 = sum_by_more (λ (s : ℕ × List ℕ). times n s.1) set i d c.loop-one-test.true in
    let item : times n c.as_slice.result.now ≡ times n (get_or set i d).1 = ap (times n) (c.as_slice.ensures.items ∙ ap (λ s. s.1) c.one-item.is) in
    let up = c.in_ok-count_up.ensures.up n in
    omega arith
