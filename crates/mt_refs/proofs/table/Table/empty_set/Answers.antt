use Rattle.std.proofs.Common.{◌<◌, sym, subst}
use Rattle.mt_refs.proofs.table.Table.empty_set.Goals as goal

pub set_edges-requires-clause-node : goal.set_edges-requires-clause-node
set_edges-requires-clause-node c =
    subst (λ k. c.one-item.result.0 < k) (sym c.loop-one.invariant.spare)
    (subst (λ s. s.0 < c.args.self.now.spare) (sym c.one-item.is) (c.requires.nodes c.loop-one.one-index c.one-item.result c.loop-one-test.true))
