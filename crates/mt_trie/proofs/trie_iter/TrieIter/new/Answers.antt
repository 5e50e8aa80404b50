use Rattle.mt_trie.proofs.Entries.{entries_all}
use Rattle.mt_trie.proofs.trie_iter.TrieIter.new.Goals as goal

pub returns : goal.returns
returns g c = record { all = entries_all c.args.trie.now }
