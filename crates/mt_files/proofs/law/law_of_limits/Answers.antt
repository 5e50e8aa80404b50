use Rattle.mt_files.proofs.Limits.{limits_first, limits_made, limits_refused, limits_within}
use Rattle.mt_files.proofs.law.law_of_limits.Goals as goal

pub returns : goal.returns
returns c = record { made = limits_made; within = limits_within; first = limits_first; refused = limits_refused }
