use Rattle.std.proofs.Common.{◌≡◌, take}
use Rattle.mt_trie.proofs.row.Row.children.Given as goal

abbrev pub invariant-loop-child : goal.invariant-loop-child
invariant-loop-child g l = l.children.items ≡ take l.child-index l.fn.self
