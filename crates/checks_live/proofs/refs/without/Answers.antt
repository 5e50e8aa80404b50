use Rattle.std.proofs.Common.{◌∙◌, ◌+◌, ap, sym, drop}
use Rattle.std.proofs.lemmas.List.{drop_all, drop_more}
use Rattle.mt_refs.specs.Patches.{removed}
use Rattle.checks_live.proofs.refs.without.Goals as goal

pub loop-node-init : goal.loop-node-init
loop-node-init c = ap (removed c.args.dead.now) c.in_ok-rest.ensures.cases

pub loop-node-preserved : goal.loop-node-preserved
loop-node-preserved c =
    ap (removed (drop (c.loop-node.node-index + 1) c.args.dead.now)) c.remove.ensures.rest
    ∙ sym (ap (λ ns. removed ns c.loop-node.rest) (drop_more c.args.dead.now c.loop-node.node-index 0 c.loop-node-test.true))
    ∙ c.loop-node.invariant

pub returns : goal.returns
returns c = record { removed = sym (ap (λ ns. removed ns c.loop-node.rest) (drop_all c.loop-node.node-index c.args.dead.now c.loop-node-test.false)) ∙ c.loop-node.invariant }
