use Rattle.std.proofs.Common.{sym, ap, ◌∙◌}
use Rattle.std.specs.FinMap.{len, len-empty}
use Rattle.std.specs.Ordering.{nat_cmp}
use Rattle.mt_trie.proofs.Tries.{map_of_none}
use Rattle.mt_trie.proofs.shared_trie.SharedTrie.new.Goals as goal

pub invariant_of-result : goal.invariant_of-result
invariant_of-result g c = sym (ap len map_of_none ∙ len-empty nat_cmp _)

pub returns : goal.returns
returns g c = record { empty = map_of_none }
