use Rattle.mt_files.proofs.Rescans.{changes_ascend, changes_lead, changes_matter, no_changes}
use Rattle.mt_files.proofs.Rescans.{only_changes}
use Rattle.mt_files.proofs.law.law_of_rescans.Goals as goal

pub returns : goal.returns
returns c = record { leads = changes_lead; none = no_changes; each = changes_ascend; effect = changes_matter; only = only_changes }
