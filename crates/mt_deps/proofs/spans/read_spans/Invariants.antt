use Rattle.std.proofs.Common.{◌≡◌, ◌≤◌, ◌+◌, length, drop}
use Rattle.mt_tokens.specs.Words.{seen}
use Rattle.mt_deps.specs.Groups.{body_of, groups_of, spans_of}
use Rattle.mt_deps.proofs.spans.read_spans.Given as goal

abbrev pub invariant-loop-rest : goal.invariant-loop-rest
invariant-loop-rest l = record {
  within : l.count + l.rest ≤ length l.tokens;
  count : l.count ≡ length (seen (drop l.rest l.tokens));
  spans : l.spans ≡ spans_of l.bytes (seen (drop l.rest l.tokens));
  groups : l.groups ≡ groups_of l.bytes (seen (drop l.rest l.tokens));
  body : l.body ≡ body_of l.bytes (seen (drop l.rest l.tokens));
}

abbrev pub decreases-loop-rest : goal.decreases-loop-rest
decreases-loop-rest l = l.rest
