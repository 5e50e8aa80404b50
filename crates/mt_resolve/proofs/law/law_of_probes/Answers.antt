use Rattle.mt_resolve.proofs.Agreement.{same_probes, same_target}
use Rattle.mt_resolve.proofs.law.law_of_probes.Goals as goal

pub returns : goal.returns
returns c = record { target = same_target; probes = same_probes }
