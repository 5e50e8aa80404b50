use Rattle.std.proofs.Common.{sym, ap, ◌∙◌}
use Rattle.mt_refs.specs.Patches.{filled}
use Rattle.mt_refs.proofs.Fills.{filled_push}
use Rattle.mt_refs.proofs.overlay.by_node.Goals as goal

pub loop-node-preserved : goal.loop-node-preserved
loop-node-preserved c =
    ap (filled c.pop.new.self) c.in_ok-insert.ensures.ok
    ∙ sym (filled_push c.pop.new.self c.in-Some.node c.in-Some.targets c.loop-node.lists)
    ∙ ap (λ set. filled set c.loop-node.lists) (sym c.in-Some.ensures.last)
    ∙ c.loop-node.invariant
