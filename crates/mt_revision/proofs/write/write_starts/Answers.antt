use Rattle.std.proofs.Common.{arith, rules}
use Rattle.std.specs.List.{flat_map}
use Rattle.std.proofs.lemmas.List.{at_drop_more}
use Rattle.mt_write.specs.Modules.{start_of}
use Rattle.mt_revision.proofs.Writes.{all_left, left_as, next_stopped, next_written}
use Rattle.mt_revision.proofs.write.write_starts.Goals as goal

pub loop-entry-init : goal.loop-entry-init
loop-entry-init g c = record { written = all_left _ _; later = omega arith }

pub loop-entry-preserved : goal.loop-entry-preserved
loop-entry-preserved g c = record {
  written = next_written _ _ _ _ _ _ (left_as _ _ _ _ _ c.loop-entry.invariant.written (at_drop_more (flat_map start_of) c.args.entries.now c.loop-entry.entry-index 0 (omega arith))) c.in_ok-write_start.ensures.all;
  later = omega (arith, c.loop-entry.invariant.later, c.in_ok-write_start.ensures.later);
}

pub returns-in_err-write_start : goal.returns-in_err-write_start
returns-in_err-write_start g c =
    let h = next_stopped _ _ _ _ _ _ (left_as _ _ _ _ _ c.loop-entry.invariant.written (at_drop_more (flat_map start_of) c.args.entries.now c.loop-entry.entry-index 0 (omega arith))) c.in_err-write_start.ensures.stop in
    search rules
