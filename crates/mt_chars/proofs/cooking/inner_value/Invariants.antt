use Rattle.std.proofs.Common.{length, drop, ◌-◌, ◌+◌, ◌++◌, ◌≡◌, ◌≤◌}
use Rattle.std.specs.Option.{option_map}
use Rattle.std.specs.String.{string_bytes}
use Rattle.mt_chars.specs.Escapes.{cooked_from}
use Rattle.mt_chars.proofs.cooking.inner_value.Given as goal

abbrev pub invariant-loop-at : goal.invariant-loop-at
invariant-loop-at l = record {
  within : l.at ≤ length l.body + 4;
  answer : option_map (λ v. string_bytes l.value ++ v) (cooked_from 0 (drop l.at l.body)) ≡ cooked_from 0 l.body;
}

abbrev pub decreases-loop-at : goal.decreases-loop-at
decreases-loop-at l = length l.body + 4 - l.at
