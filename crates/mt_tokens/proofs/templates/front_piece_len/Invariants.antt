use Rattle.std.proofs.Common.{length, drop, false, ◌-◌, ◌+◌, ◌≡◌, ◌≤◌}
use Rattle.std.specs.Option.{option_map}
use Rattle.mt_tokens.specs.Templates.{piece_len}
use Rattle.mt_tokens.proofs.templates.front_piece_len.Given as goal

abbrev pub invariant-loop-at : goal.invariant-loop-at
invariant-loop-at l = record {
  within : l.at ≤ length l.rest;
  piece : piece_len false l.rest ≡ option_map (λ n. n + l.at) (piece_len l.taken (drop l.at l.rest));
}

abbrev pub decreases-loop-at : goal.decreases-loop-at
decreases-loop-at l = length l.rest - l.at
