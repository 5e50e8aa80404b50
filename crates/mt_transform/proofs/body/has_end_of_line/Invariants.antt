use Rattle.std.proofs.Common.{◌≡◌, length}
use Rattle.mt_tokens.specs.Transform.{has_line_end}
use Rattle.mt_transform.proofs.body.has_end_of_line.Given as goal

abbrev pub invariant-loop-more : goal.invariant-loop-more
invariant-loop-more l = has_line_end l.rest ≡ has_line_end l.comment

abbrev pub decreases-loop-more : goal.decreases-loop-more
decreases-loop-more l = length l.rest
