use Rattle.std.proofs.Common.{◌≡◌, ◌≤◌, ◌+◌, get_or, length, take, refl, ap, sym, subst, arith}
use Rattle.std.proofs.lemmas.List.Sums.{sum_by-take-le, sum_by_more, sum_by_more_le}
use Rattle.mt_refs.specs.Lists.{times}
use Rattle.mt_refs.specs.Graphs.{edges_from}
use Rattle.mt_refs.proofs.Rows.{in_range}
use Rattle.mt_trial.specs.Deaths.{inner, left_at, reads_of}
use Rattle.mt_trial.proofs.Costs.{length_reads}
use Rattle.mt_trial.proofs.Lefts.{edges_left}
use Rattle.mt_trial.proofs.counts.outer_counts.Goals as goal

pub count_down-requires : goal.count_down-requires
count_down-requires g c = record {
  counted = λ n.
      let graph = c.args.overlay.now in
      let nodes = c.args.nodes.now in
      let i = c.loop-node.node-index in
      let t = get_or nodes i 0 in
      let inside = c.loop-node-test.true in
      subst (λ xs. times n xs ≤ left_at c.loop-node.counts n) (sym c.edges.ensures.edges)
      (edges_left graph nodes n t (inner graph n (take i nodes)) (left_at c.loop-node.counts n) c.requires.ascending
      (λ w. c.requires.closed t n (i, inside, sym (in_range nodes i 0 t t inside refl)) w)
      (c.loop-node.invariant.counts n)
      (sum_by_more_le (λ m. times n (edges_from graph m)) nodes i 0 inside));
}

pub loop-node-preserved : goal.loop-node-preserved
loop-node-preserved g c =
    let graph = c.args.overlay.now in
    let nodes = c.args.nodes.now in
    let i = c.loop-node.node-index in
    let t = get_or nodes i 0 in
    let inside = c.loop-node-test.true in
    record {
      counts = λ n.
          let kept = c.loop-node.invariant.counts n in
          let down = c.in_ok-count_down.ensures.down n in
          let item : times n c.edges.result.now ≡ times n (edges_from graph t) = ap (times n) c.edges.ensures.edges in
          let more : inner graph n (take (i + 1) nodes) ≡ inner graph n (take i nodes) + times n (edges_from graph t) = sum_by_more (λ m. times n (edges_from graph m)) nodes i 0 inside in
          omega arith;
      cost =
          let kept = c.loop-node.invariant.cost in
          let cost = c.edges.ensures.cost in
          let item : length c.edges.result.now ≡ length (edges_from graph t) = ap (λ xs. length xs) c.edges.ensures.edges in
          let more : reads_of graph (take (i + 1) nodes) ≡ reads_of graph (take i nodes) + (length (edges_from graph t) + 1) = sum_by_more (λ m. length (edges_from graph m) + 1) nodes i 0 inside in
          omega arith;
    }

pub returns-in_err-counts-clause-cost : goal.returns-in_err-counts-clause-cost
returns-in_err-counts-clause-cost g c = let cost = c.counts_of.ensures.cost in let least = length_reads c.args.overlay.now c.args.nodes.now in omega arith

pub returns-in_err-count_down-clause-cost : goal.returns-in_err-count_down-clause-cost
returns-in_err-count_down-clause-cost g c =
    let graph = c.args.overlay.now in
    let nodes = c.args.nodes.now in
    let kept = c.loop-node.invariant.cost in
    let cost = c.edges.ensures.cost in
    let item : length c.edges.result.now ≡ length (edges_from graph (get_or nodes c.loop-node.node-index 0)) = ap (λ xs. length xs) c.edges.ensures.edges in
    let more = sum_by_more_le (λ m. length (edges_from graph m) + 1) nodes c.loop-node.node-index 0 c.loop-node-test.true in
    let least = length_reads graph nodes in
    omega arith

pub returns-clause-cost : goal.returns-clause-cost
returns-clause-cost g c =
    let graph = c.args.overlay.now in
    let nodes = c.args.nodes.now in
    let kept = c.loop-node.invariant.cost in
    let most = sum_by-take-le (λ m. length (edges_from graph m) + 1) nodes c.loop-node.node-index in
    let least = length_reads graph nodes in
    omega arith
