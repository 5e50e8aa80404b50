use Rattle.std.proofs.Common.{refl}
use Rattle.mt_write.specs.Modules.{module_head}
use Rattle.mt_write.proofs.writers.head_bytes.Goals as goal

pub returns : goal.returns
unfolding module_head
returns c = refl
