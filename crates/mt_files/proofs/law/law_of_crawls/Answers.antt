use Rattle.mt_files.proofs.EntryIn.{kept}
use Rattle.mt_files.proofs.law.law_of_crawls.Goals as goal

pub returns : goal.returns
returns c = record { kept = kept }
