use Rattle.std.proofs.Common.{length, drop, ◌-◌, ◌+◌, ◌≡◌, ◌≤◌}
use Rattle.mt_chars.specs.Names.{run_len}
use Rattle.mt_chars.proofs.names.front_run_len.Given as goal

abbrev pub invariant-loop-at : goal.invariant-loop-at
invariant-loop-at l = record { within : l.at ≤ length l.rest; run : run_len l.of l.rest ≡ l.at + run_len l.of (drop l.at l.rest) }

abbrev pub decreases-loop-at : goal.decreases-loop-at
decreases-loop-at l = length l.rest - l.at
