use Rattle.std.proofs.Common.{◌∙◌, sym, subst}
use Rattle.std.specs.Bool.{IsTrue}
use Rattle.std.specs.FinMap.{contains_key}
use Rattle.std.proofs.lemmas.List.{take_all}
use Rattle.std.proofs.lemmas.List.Elements.{All-more}
use Rattle.checks_live.specs.Shapes.{AreInside}
use Rattle.checks_live.proofs.common.are_inside.Goals as goal

pub loop-node-preserved : goal.loop-node-preserved
loop-node-preserved c = All-more (λ n. IsTrue (contains_key c.args.edges.now n)) c.args.nodes.now c.loop-node.node-index 0 c.loop-node-test.true c.loop-node.invariant (sym c.contains.ensures.has ∙ c.if-not-contains.false)

pub returns : goal.returns
returns c = record { inside = λ _. subst (AreInside c.args.edges.now) (take_all c.loop-node.node-index c.args.nodes.now c.loop-node-test.false) c.loop-node.invariant }
