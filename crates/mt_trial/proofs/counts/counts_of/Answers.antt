use Rattle.std.proofs.Common.{cond, nat_eq, take, get_or, ap, sym, ◌∙◌, arith}
use Rattle.std.specs.FinMap.{insert}
use Rattle.std.specs.List.{list_any}
use Rattle.std.proofs.lemmas.List.{take_more}
use Rattle.mt_refs.specs.Graphs.{count}
use Rattle.mt_trial.specs.Deaths.{left_at}
use Rattle.mt_trial.proofs.Lefts.{counted, left_empty}
use Rattle.mt_trial.proofs.counts.counts_of.Goals as goal

pub loop-node-init : goal.loop-node-init
loop-node-init g c = record {
  counts = λ n. ap (λ m. left_at m n) c.new-counts.ensures.empty ∙ left_empty n;
  cost = omega arith;
}

pub loop-node-preserved : goal.loop-node-preserved
loop-node-preserved g c =
    let xs = c.args.nodes.now in
    let i = c.loop-node.node-index in
    let t = get_or xs i 0 in
    let graph = c.args.overlay.now in
    record {
      counts = λ n.
          ap (λ m. left_at m n) (c.in_ok-insert.ensures.ok ∙ ap (insert c.loop-node.counts t) c.count-count.ensures.count)
          ∙ counted graph c.loop-node.counts (take i xs) t n (c.loop-node.invariant.counts n)
          ∙ sym (ap (λ ys. cond (list_any (nat_eq n) ys) (count graph n) 0) (take_more xs i 0 c.loop-node-test.true));
      cost = let kept = c.loop-node.invariant.cost in let tick = c.count-count.ensures.cost in omega arith;
    }
