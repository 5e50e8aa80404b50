use Rattle.std.proofs.Common.{◌∙◌, sym, ap}
use Rattle.std.specs.FinMap.{insert}
use Rattle.checks_live.proofs.Shapes.{merged_add, merged_start}
use Rattle.checks_live.proofs.common.merged.Goals as goal

pub loop-node-init : goal.loop-node-init
loop-node-init c = merged_start c.in_ok-merged.merged c.args.change.now c.args.edges.now c.into_iter-node-iterator.result c.in_ok-merged.ensures.cases c.into_iter-node-iterator.ensures.into_iter_gives.0

pub loop-node-preserved-in_ok-insert : goal.loop-node-preserved-in_ok-insert
loop-node-preserved-in_ok-insert c =
    merged_add c.loop-node.merged c.insert.new.self c.args.change.now c.args.edges.now c.loop-node.node-iterator c.next.new.self c.in-Some.node.now c.in-Some.targets.now
    c.in-Some.ensures.steps (sym c.contains.ensures.has ∙ c.if-not-contains.true)
    (c.in_ok-insert.ensures.ok ∙ ap (insert c.loop-node.merged c.in-Some.node.now) c.in_ok-clone.ensures.cases) c.loop-node.invariant
