use Rattle.std.proofs.Common.{◌≡◌, ◌-◌, ◌⊎◌, length}
use Rattle.mt_io.specs.Seen.{Tells}
use Rattle.mt_io.specs.Told.{Reading}
use Rattle.mt_script.specs.Reads.{Advances, Holds}
use Rattle.mt_script.specs.Steps.{line_end}
use Rattle.mt_script.specs.declared.line.LineEnd.TheVariants.{Unfinished}
use Rattle.mt_script.proofs.line.hold_line.Given as goal

abbrev pub invariant-loop-end : goal.invariant-loop-end
invariant-loop-end g l = record {
  end : l.end ≡ line_end l.buffer;
  holds : (r : Reading) → Tells (g.S.Source.seen l.fn.source) r → Holds r (g.S.Source.seen l.source).told l.fn.buffer l.buffer;
  waits : ((l.source ≡ l.fn.source) × (l.buffer ≡ l.fn.buffer)) ⊎ (line_end l.fn.buffer ≡ Unfinished);
  source : Advances (g.S.Source.seen l.fn.source) (g.S.Source.seen l.source) ⊥;
}

abbrev pub decreases-loop-end : goal.decreases-loop-end
decreases-loop-end g l = 1101 - length l.buffer
