use Rattle.mt_revision.proofs.Logs.{legal_counts, legal_distinct, legal_numbers, legal_only, legal_within, reached_numbers}
use Rattle.mt_revision.proofs.law.law_of_logs.Goals as goal

pub returns : goal.returns
returns c = record { numbers = legal_numbers; counts = legal_counts; within = legal_within; only = legal_only; kept = reached_numbers; distinct = legal_distinct }
