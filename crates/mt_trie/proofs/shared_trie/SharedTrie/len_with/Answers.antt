use Rattle.std.proofs.Common.{arith}
use Rattle.mt_trie.proofs.Tries.{len_map_of}
use Rattle.mt_trie.proofs.shared_trie.SharedTrie.len_with.Goals as goal

pub overflow_add-result : goal.overflow_add-result
overflow_add-result g c = omega (arith, c.self.invariant, len_map_of c.self.inside.root)
