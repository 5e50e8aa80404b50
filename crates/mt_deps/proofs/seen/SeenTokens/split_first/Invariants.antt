use Rattle.std.proofs.Common.{◌≡◌, length}
use Rattle.mt_tokens.specs.Words.{seen}
use Rattle.mt_deps.specs.Seen.{seen_of}
use Rattle.mt_deps.proofs.seen.SeenTokens.split_first.Given as goal

abbrev pub invariant-loop-first : goal.invariant-loop-first
invariant-loop-first l = seen_of l.self ≡ seen l.tokens

abbrev pub decreases-loop-first : goal.decreases-loop-first
decreases-loop-first l = length l.tokens
