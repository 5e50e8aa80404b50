use Rattle.std.proofs.Common.{◌≡◌, ◌++◌, length}
use Rattle.mt_tokens.specs.Transform.{edited}
use Rattle.mt_transform.proofs.body.Draft.finish.Given as goal

abbrev pub invariant-loop-first : goal.invariant-loop-first
invariant-loop-first l = l.self.body ++ edited l.source l.self.at l.rest ≡ l.fn.self.body ++ edited l.source l.fn.self.at l.uses

abbrev pub decreases-loop-first : goal.decreases-loop-first
decreases-loop-first l = length l.rest
