use Rattle.mt_revision.proofs.Revisions.{after_content, after_made, after_only}
use Rattle.mt_revision.proofs.law.law_of_revisions.Goals as goal

pub returns : goal.returns
returns c = record { content = after_content; made = after_made; only = after_only }
