use Rattle.std.proofs.Common.{length, ◌≡◌, ◌-◌, ◌≤◌}
use Rattle.mt_tokens.specs.Scanners.{Follows}
use Rattle.mt_tokens.specs.Tokens.{end_of, scan, tokens_of}
use Rattle.mt_tokens.proofs.tokenizer.read_tokens.Given as goal

abbrev pub invariant-loop-at : goal.invariant-loop-at
invariant-loop-at l = record {
  within : l.at ≤ length l.bytes;
  fewer : length l.found.items ≤ l.at;
  place : l.at ≡ end_of l.found.items;
  follows : Follows l.bytes l.found.items l.scanner;
  answer : scan (length l.bytes - length l.found.items) l.bytes l.found.items ≡ tokens_of l.bytes;
}

abbrev pub decreases-loop-at : goal.decreases-loop-at
decreases-loop-at l = length l.bytes - l.at
