use Rattle.mt_revision.proofs.Applied.{delta_fits, delta_leads}
use Rattle.mt_revision.proofs.law.law_of_deltas.Goals as goal

pub returns : goal.returns
returns c = record { fits = delta_fits; leads = delta_leads }
