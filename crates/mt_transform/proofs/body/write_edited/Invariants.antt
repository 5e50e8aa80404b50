use Rattle.std.proofs.Common.{◌≡◌, ◌++◌, length}
use Rattle.mt_tokens.specs.Transform.{comment_edits, edited, merged}
use Rattle.mt_transform.proofs.body.write_edited.Given as goal

abbrev pub invariant-loop-token : goal.invariant-loop-token
invariant-loop-token l =
    l.draft.body ++ edited l.source l.draft.at (merged l.uses (comment_edits l.strip l.source l.rest)) ≡
    l.fn.body ++ edited l.source 0 (merged l.fn.uses (comment_edits l.strip l.source l.tokens))

abbrev pub decreases-loop-token : goal.decreases-loop-token
decreases-loop-token l = length l.rest
