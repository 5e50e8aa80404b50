use Rattle.std.proofs.Common.{◌≡◌, drop}
use Rattle.mt_fresh.specs.Visits.{waiting_with_all}
use Rattle.mt_fresh.proofs.traversal.add_targets.Given as goal

abbrev pub invariant-loop-link : goal.invariant-loop-link
invariant-loop-link l = waiting_with_all l.origin l.known l.visits l.waiting (drop l.link-index l.links) ≡ waiting_with_all l.origin l.known l.visits l.fn.waiting l.links
