use Rattle.std.proofs.Common.{◌≡◌, map, take}
use Rattle.mt_fresh.specs.GraphRevisions.{slot_of_link}
use Rattle.mt_fresh.proofs.graph_revision.slots_of.Given as goal

abbrev pub invariant-loop-link : goal.invariant-loop-link
invariant-loop-link l = l.slots ≡ map (slot_of_link l.numbering) (take l.link-index l.links)
