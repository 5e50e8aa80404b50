use Rattle.std.proofs.Common.{◌≡◌, ◌++◌, List, length}
use Rattle.mt_tokens.specs.Deps.{Edit}
use Rattle.mt_tokens.specs.Transform.{edited, edits_before, edits_from}
use Rattle.mt_transform.proofs.body.Draft.edit_before.Given as goal

abbrev pub invariant-loop-first : goal.invariant-loop-first
invariant-loop-first l = record {
  rest : edits_from l.place l.rest ≡ edits_from l.place l.uses;
  goes : (more : List Edit) → l.fn.self.body ++ edited l.source l.fn.self.at (edits_before l.place l.uses ++ more) ≡ l.self.body ++ edited l.source l.self.at (edits_before l.place l.rest ++ more);
}

abbrev pub decreases-loop-first : goal.decreases-loop-first
decreases-loop-first l = length l.rest
