use Rattle.std.proofs.Common.{length, drop, false, ◌-◌, ◌+◌, ◌≡◌, ◌≤◌}
use Rattle.std.specs.Option.{option_map}
use Rattle.mt_tokens.specs.Regexes.{body_len}
use Rattle.mt_tokens.proofs.regexes.front_body_len.Given as goal

abbrev pub invariant-loop-at : goal.invariant-loop-at
invariant-loop-at l = record {
  within : l.at ≤ length l.rest;
  body : body_len false false l.rest ≡ option_map (λ n. n + l.at) (body_len l.in_class l.taken (drop l.at l.rest));
}

abbrev pub decreases-loop-at : goal.decreases-loop-at
decreases-loop-at l = length l.rest - l.at
