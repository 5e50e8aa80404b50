use Rattle.mt_files.proofs.Reach.{reach_all, reach_alone, reach_ascending}
use Rattle.mt_files.proofs.law.law_of_reach.Goals as goal

pub returns : goal.returns
returns c = record { all = reach_all; alone = reach_alone; ascending = reach_ascending }
