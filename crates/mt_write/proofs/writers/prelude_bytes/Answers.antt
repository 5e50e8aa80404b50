use Rattle.std.proofs.Common.{refl}
use Rattle.mt_write.specs.Bundle.{prelude_end}
use Rattle.mt_write.proofs.writers.prelude_bytes.Goals as goal

pub returns : goal.returns
unfolding prelude_end
returns c = refl
