use Rattle.std.proofs.Common.{arith}
use Rattle.mt_trie.proofs.Tries.{len_map_of}
use Rattle.mt_trie.proofs.shared_trie.SharedTrie.len.Goals as goal

pub returns-clause-small : goal.returns-clause-small
returns-clause-small g c = omega (arith, c.self.invariant, len_map_of c.self.inside.root)
