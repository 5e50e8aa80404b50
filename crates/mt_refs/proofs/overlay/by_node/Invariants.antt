use Rattle.std.proofs.Common.{◌≡◌, length}
use Rattle.std.specs.FinMap as map
use Rattle.mt_refs.specs.Patches.{filled}
use Rattle.mt_refs.proofs.overlay.by_node.Given as goal

abbrev pub invariant-loop-node : goal.invariant-loop-node
invariant-loop-node l = filled l.set l.lists ≡ filled l.fn.set map.empty

abbrev pub decreases-loop-node : goal.decreases-loop-node
decreases-loop-node l = length l.set
