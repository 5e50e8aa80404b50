use Rattle.std.proofs.Common.{◌≡◌, ◌∙◌}
use Rattle.std.specs.FinMap.{entries}
use Rattle.mt_fresh.proofs.GraphRevisions.{kept_start, kept_step, kept_whole, sorted_rest, sorted_start}
use Rattle.mt_fresh.proofs.graph_revision.modules_of_graph.Goals as goal

pub loop-path-init : goal.loop-path-init
loop-path-init c =
    let is : c.into_iter-path-iterator.result ≡ entries c.args.graph = c.into_iter-path-iterator.ensures.into_iter_gives in
    record {
      left = λ n. kept_start c.args.numbering.now c.args.graph c.into_iter-path-iterator.result c.new-modules.result n is c.new-modules.ensures.empty;
      sorted = sorted_start c.args.numbering.now c.args.graph c.into_iter-path-iterator.result is;
    }

pub loop-path-preserved : goal.loop-path-preserved
loop-path-preserved c = record {
  left = λ n.
      kept_step c.args.numbering.now c.in-Some.path c.in-Some.node c.loop-path.path-iterator c.next.new.self c.loop-path.modules c.keep_module.new.modules n c.in-Some.ensures.steps c.loop-path.invariant.sorted c.in_ok-keep_module.ensures.kept
      ∙ c.loop-path.invariant.left n;
  sorted = sorted_rest c.args.numbering.now c.in-Some.path c.in-Some.node c.loop-path.path-iterator c.next.new.self c.in-Some.ensures.steps c.loop-path.invariant.sorted;
}

pub returns : goal.returns
returns c = record { modules = kept_whole c.args.numbering.now c.args.graph c.loop-path.path-iterator c.loop-path.modules c.in-None.ensures.steps.0 c.loop-path.invariant.left }
