use Rattle.std.proofs.Common.{◌≡◌, ◌++◌, length}
use Rattle.mt_tokens.specs.Transform.{end_text}
use Rattle.mt_transform.proofs.body.write_marks.Given as goal

abbrev pub invariant-loop-mark : goal.invariant-loop-mark
invariant-loop-mark l = l.body ++ end_text l.rest ≡ l.fn.body ++ end_text l.marks

abbrev pub decreases-loop-mark : goal.decreases-loop-mark
decreases-loop-mark l = length l.rest
