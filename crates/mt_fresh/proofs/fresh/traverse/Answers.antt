use Rattle.mt_fresh.proofs.fresh.traverse.Goals as goal

pub returns : goal.returns
returns c = record { exact = c.traverse_by.ensures.exact tt }
