use Rattle.std.proofs.Common.{◌≡◌, ◌+◌, inr, refl, arith, length-take}
use Rattle.mt_io.specs.Told.{read_on}
use Rattle.mt_script.proofs.Advances.{advances_err, advances_on, advances_then}
use Rattle.mt_script.proofs.Conditions.{on_err}
use Rattle.mt_script.proofs.Holds.{holds_then, lacks_then}
use Rattle.mt_script.proofs.read_buffer.fill.Goals as goal

pub returns-in_err-count-clause-short : goal.returns-in_err-count-clause-short
returns-in_err-count-clause-short g c = λ r e.
    let h = c.loop-filled.invariant.holds r e in
    on_err c.from_residual.result (lacks_then r _ _ _ _ _ h c.in_err-count.ensures.err (omega (arith, length-take c.loop-filled.filled c.loop-filled.into)))

pub returns-then-count-eq0-clause-holds : goal.returns-then-count-eq0-clause-holds
returns-then-count-eq0-clause-holds g c = λ r e.
    let h = c.loop-filled.invariant.holds r e in
    let all = holds_then r _ _ _ _ _ h (c.in_ok-count.ensures.holds (read_on h.count r) h.now) in
    let z : c.loop-filled.filled + c.in_ok-count.count ≡ c.loop-filled.filled = omega arith in
    rw z at all

pub returns-then-count-eq0-clause-spent : goal.returns-then-count-eq0-clause-spent
returns-then-count-eq0-clause-spent g c = λ r e _.
    let h = c.loop-filled.invariant.holds r e in
    c.in_ok-count.ensures.spent (read_on h.count r) h.now c.if-count-eq0.true

pub returns-then-count-eq0-clause-source : goal.returns-then-count-eq0-clause-source
returns-then-count-eq0-clause-source g c = advances_then _ _ _ c.loop-filled.invariant.source c.in_ok-count.ensures.source

pub returns-in_err-count-clause-source : goal.returns-in_err-count-clause-source
returns-in_err-count-clause-source g c = advances_err _ _ refl _ (advances_then _ _ _ c.loop-filled.invariant.source c.in_err-count.ensures.source)

pub loop-filled-preserved : goal.loop-filled-preserved
loop-filled-preserved g c = record {
  within = omega (arith, c.in_ok-count.ensures.within);
  started = omega (arith, c.loop-filled.invariant.started);
  holds = λ r e.
      let h = c.loop-filled.invariant.holds r e in
      holds_then r _ _ _ _ _ h (c.in_ok-count.ensures.holds (read_on h.count r) h.now);
  waits = inr (omega (arith, c.loop-filled.invariant.started));
  source = advances_on _ _ _ c.in_ok-count.count c.loop-filled.invariant.source c.in_ok-count.ensures.source;
}
