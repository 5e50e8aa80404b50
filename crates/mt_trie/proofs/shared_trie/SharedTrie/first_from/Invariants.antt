use Rattle.std.proofs.Common.{◌≡◌, ◌-◌}
use Rattle.mt_trie.specs.Tries.{entries_from}
use Rattle.mt_trie.proofs.shared_trie.SharedTrie.first_from.Given as goal

abbrev pub invariant-loop-at : goal.invariant-loop-at
invariant-loop-at g l = entries_from l.at l.self ≡ entries_from l.fn.key l.self

abbrev pub decreases-loop-at : goal.decreases-loop-at
decreases-loop-at g l = 1048576 - l.at
