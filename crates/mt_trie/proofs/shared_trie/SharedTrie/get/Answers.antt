use Rattle.std.proofs.Common.{sym, ap, ◌∙◌}
use Rattle.std.specs.FinMap as map
use Rattle.mt_trie.specs.Tries.{value_at}
use Rattle.mt_trie.proofs.Tries.{get_below, get_beyond}
use Rattle.mt_trie.proofs.shared_trie.SharedTrie.get.Goals as goal

pub returns-then-key-lt-KEYS : goal.returns-then-key-lt-KEYS
returns-then-key-lt-KEYS g c = record { found = c.value.ensures.value ∙ ap (λ r. value_at r c.args.key) c.as_ref.ensures.value ∙ sym (get_below c.self.inside.root c.args.key c.if-key-lt-KEYS.true) ∙ ap (λ m. map.get m c.args.key) c.self.view_is }

pub returns-else-key-lt-KEYS : goal.returns-else-key-lt-KEYS
returns-else-key-lt-KEYS g c = record { found = sym (get_beyond c.self.inside.root c.args.key c.if-key-lt-KEYS.false) ∙ ap (λ m. map.get m c.args.key) c.self.view_is }
