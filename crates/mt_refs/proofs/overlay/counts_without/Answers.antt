use Rattle.std.proofs.Common.{◌≡◌, ◌+◌, ℕ, List, get_or, take, length, ap, ◌∙◌, arith}
use Rattle.std.specs.FinMap.{get}
use Rattle.std.proofs.lemmas.List.Sums.{sum_by_more, sum_by_more_le}
use Rattle.mt_refs.specs.Lists.{times, targets_in}
use Rattle.mt_refs.specs.Graphs.{count}
use Rattle.mt_refs.specs.Patches.{sum_now}
use Rattle.mt_refs.specs.Overlays.{count_in}
use Rattle.mt_refs.proofs.Laid.{count_empty, now_counted}
use Rattle.mt_refs.proofs.overlay.counts_without.Goals as goal

pub loop-one-init : goal.loop-one-init
loop-one-init g c = record {
  counts = λ n. let e : count_in c.new-counts.result c.args.table.now n ≡ count c.args.table.now n = ap (λ m. count_in m c.args.table.now n) c.new-counts.ensures.empty ∙ count_empty c.args.table.now n in omega arith;
  cost = omega arith;
}

pub count_down-requires : goal.count_down-requires
count_down-requires g c = record {
  counted = λ n.
      let set = c.args.set.now in
      let edges = c.args.table.now.edges in
      let i = c.loop-one.one-index in
      let d = c.one-item.result in
      let kept = c.loop-one.invariant.counts n in
      let more = sum_by_more_le (λ (s : ℕ × List ℕ). times n (targets_in (get edges s.0))) set i d c.loop-one-test.true in
      let all = now_counted c.args.table.now set n c.requires.ascending in
      let item : times n c.edges.result.now ≡ times n (targets_in (get edges (get_or set i d).0)) = ap (times n) (c.edges.ensures.edges ∙ ap (λ s. targets_in (get edges s.0)) c.one-item.is) in
      omega arith;
}

pub loop-one-preserved : goal.loop-one-preserved
loop-one-preserved g c =
    let set = c.args.set.now in
    let edges = c.args.table.now.edges in
    let i = c.loop-one.one-index in
    let d = c.one-item.result in
    record {
      counts = λ n.
          let kept = c.loop-one.invariant.counts n in
          let more : sum_now (times n) edges (take (i + 1) set) ≡ sum_now (times n) edges (take i set) + times n (targets_in (get edges (get_or set i d).0)) = sum_by_more (λ (s : ℕ × List ℕ). times n (targets_in (get edges s.0))) set i d c.loop-one-test.true in
          let item : times n c.edges.result.now ≡ times n (targets_in (get edges (get_or set i d).0)) = ap (times n) (c.edges.ensures.edges ∙ ap (λ s. targets_in (get edges s.0)) c.one-item.is) in
          let down = c.in_ok-count_down.ensures.down n in
          omega arith;
      cost =
          let kept = c.loop-one.invariant.cost in
          let more : sum_now (λ targets. length targets) edges (take (i + 1) set) ≡ sum_now (λ targets. length targets) edges (take i set) + length (targets_in (get edges (get_or set i d).0)) = sum_by_more (λ (s : ℕ × List ℕ). length (targets_in (get edges s.0))) set i d c.loop-one-test.true in
          let item : length c.edges.result.now ≡ length (targets_in (get edges (get_or set i d).0)) = ap (λ xs. length xs) (c.edges.ensures.edges ∙ ap (λ s. targets_in (get edges s.0)) c.one-item.is) in
          let cost = c.edges.ensures.cost in
          omega arith;
    }

pub returns-in_err-count_down-clause-cost : goal.returns-in_err-count_down-clause-cost
returns-in_err-count_down-clause-cost g c =
    let set = c.args.set.now in
    let edges = c.args.table.now.edges in
    let i = c.loop-one.one-index in
    let d = c.one-item.result in
    let kept = c.loop-one.invariant.cost in
    let inside = c.loop-one-test.true in
    let more = sum_by_more_le (λ (s : ℕ × List ℕ). length (targets_in (get edges s.0))) set i d inside in
    let item : length c.edges.result.now ≡ length (targets_in (get edges (get_or set i d).0)) = ap (λ xs. length xs) (c.edges.ensures.edges ∙ ap (λ s. targets_in (get edges s.0)) c.one-item.is) in
    let cost = c.edges.ensures.cost in
    omega arith
