use Rattle.mt_containers.proofs.Seens.{sorted_seen}
use Rattle.mt_trie.proofs.shared_trie.SharedTrie.iter.Goals as goal

pub returns-clause-sorted : goal.returns-clause-sorted
returns-clause-sorted g c = sorted_seen c.args.self.now
