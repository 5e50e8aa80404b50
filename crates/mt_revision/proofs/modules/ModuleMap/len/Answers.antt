use Rattle.std.proofs.Common.{arith}
use Rattle.mt_revision.proofs.Sets.{few_numbers}
use Rattle.mt_revision.proofs.modules.ModuleMap.len.Goals as goal

pub overflow_cast-result : goal.overflow_cast-result
overflow_cast-result c =
    let few = few_numbers c.self.inside.by_number 327680 c.self.invariant in
    let same = c.len.ensures.len in
    omega (arith, few, same)
