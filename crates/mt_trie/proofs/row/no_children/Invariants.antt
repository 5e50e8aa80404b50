use Rattle.std.proofs.Common.{◌≡◌, None, replicate}
use Rattle.mt_trie.proofs.row.no_children.Given as goal

abbrev pub invariant-loop-digit : goal.invariant-loop-digit
invariant-loop-digit g l = l.children.items ≡ replicate l._digit None
