use Rattle.std.proofs.Common.{◌≡◌, ◌∙◌, ap, sym, subst, arith, rules}
use Rattle.std.specs.List.{flat_map}
use Rattle.std.specs.FinMap.{entries}
use Rattle.mt_io.specs.Seen.{Stopped, Wrote}
use Rattle.mt_revision.proofs.Writes.{all_left, left_as, next_stopped, next_written}
use Rattle.mt_report.specs.Listings.{module_line}
use Rattle.mt_report.proofs.listing.write_graph.Goals as goal

pub loop-number-init : goal.loop-number-init
loop-number-init g c =
    let is : entries c.args.revision.now.modules ≡ c.into_iter-number-iterator.result = sym (c.into_iter-number-iterator.ensures.into_iter_gives.0 ∙ ap entries c.by_number-number-items.ensures.same) in
    record { written = left_as _ _ _ _ _ (all_left _ _) (ap (flat_map (λ e. module_line e.0 e.1)) is); later = omega arith }

pub loop-number-preserved : goal.loop-number-preserved
loop-number-preserved g c = record {
  written = next_written _ _ _ _ _ _ (left_as _ _ _ _ _ c.loop-number.invariant.written (ap (flat_map (λ e. module_line e.0 e.1)) c.in-Some.ensures.steps))
      (subst (λ m. Wrote (g.S.Sink.seen c.loop-number.sink) (g.S.Sink.seen c.write_module_line.new.sink) (module_line c.in-Some.number.now m)) c.deref.ensures.value c.in_ok-write_module_line.ensures.all);
  later = omega (arith, c.loop-number.invariant.later, c.in_ok-write_module_line.ensures.later);
}

pub returns-in_err-write_module_line : goal.returns-in_err-write_module_line
returns-in_err-write_module_line g c =
    let h = next_stopped _ _ _ _ _ _ (left_as _ _ _ _ _ c.loop-number.invariant.written (ap (flat_map (λ e. module_line e.0 e.1)) c.in-Some.ensures.steps))
    (subst (λ m. Stopped (g.S.Sink.seen c.loop-number.sink) (g.S.Sink.seen c.write_module_line.new.sink) (module_line c.in-Some.number.now m)) c.deref.ensures.value c.in_err-write_module_line.ensures.stop) in
    search rules
