use Rattle.std.proofs.Common.{sym, ◌∙◌}
use Rattle.mt_revision.proofs.Places.{number_without}
use Rattle.mt_fresh.proofs.graph_revision.number_or_len.Goals as goal

pub returns-in-None : goal.returns-in-None
returns-in-None c = record { number = c.len.ensures.len ∙ number_without c.args.numbering.now c.args.path.now (sym c.number_of.ensures.number ∙ c.in-None.is) }
