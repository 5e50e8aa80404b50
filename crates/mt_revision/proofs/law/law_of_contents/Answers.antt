use Rattle.mt_revision.proofs.Bundles.{content_bundle, content_held}
use Rattle.mt_revision.proofs.law.law_of_contents.Goals as goal

pub returns : goal.returns
returns c = record { held = content_held; bundle = content_bundle }
