use Rattle.std.proofs.Common.{◌≡◌, ◌<◌, ◌≤◌, ◌-◌, ◌⊎◌, length, take}
use Rattle.mt_io.specs.Seen.{Tells}
use Rattle.mt_io.specs.Told.{Reading}
use Rattle.mt_script.specs.Reads.{Advances, Holds}
use Rattle.mt_script.proofs.read_buffer.fill.Given as goal

abbrev pub invariant-loop-filled : goal.invariant-loop-filled
invariant-loop-filled g l = record {
  within : l.filled ≤ length l.into;
  started : l.at ≤ l.filled;
  holds : (r : Reading) → Tells (g.S.Source.seen l.fn.source) r → Holds r (g.S.Source.seen l.source).told (take l.at l.fn.into) (take l.filled l.into);
  waits : (l.source ≡ l.fn.source) ⊎ (l.at < length l.fn.into);
  source : Advances (g.S.Source.seen l.fn.source) (g.S.Source.seen l.source) ⊥;
}

abbrev pub decreases-loop-filled : goal.decreases-loop-filled
decreases-loop-filled g l = length l.into - l.filled
