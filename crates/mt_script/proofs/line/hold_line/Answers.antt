use Rattle.std.proofs.Common.{◌≡◌, ◌∙◌, inl, inr, refl, ap, sym}
use Rattle.mt_io.specs.Told.{read_on}
use Rattle.mt_script.specs.Steps.{line_end}
use Rattle.mt_script.specs.declared.line.LineEnd.TheVariants.{Unfinished}
use Rattle.mt_script.proofs.Advances.{advances_err, advances_ok, advances_on, advances_then}
use Rattle.mt_script.proofs.Holds.{holds_then}
use Rattle.mt_script.proofs.line.hold_line.Goals as goal
use Rattle.mt_script.proofs.line.hold_line.Goals.{in-Unfinished, in_default}

pub returns-in_err-count-clause-holds : goal.returns-in_err-count-clause-holds
returns-in_err-count-clause-holds g c = λ r e.
    let h = c.loop-end.invariant.holds r e in
    holds_then r _ _ _ _ _ h (c.in_err-count.ensures.holds (read_on h.count r) h.now)

pub returns-then-count-eq0-clause-end : goal.returns-then-count-eq0-clause-end
returns-then-count-eq0-clause-end g c =
    let same = c.in_ok-count.ensures.none c.if-count-eq0.true in
    elim c.match-matches.branch [
      | in-Unfinished w ↦ let p : Unfinished ≡ line_end c.loop-end.buffer = cc in p ∙ ap line_end (sym same)
      | in_default w ↦ cc
    ]

pub returns-then-count-eq0-clause-holds : goal.returns-then-count-eq0-clause-holds
returns-then-count-eq0-clause-holds g c = λ r e.
    let h = c.loop-end.invariant.holds r e in
    holds_then r _ _ _ _ _ h (c.in_ok-count.ensures.holds (read_on h.count r) h.now)

pub returns-then-count-eq0-clause-spent : goal.returns-then-count-eq0-clause-spent
returns-then-count-eq0-clause-spent g c = λ r e _.
    let h = c.loop-end.invariant.holds r e in
    c.in_ok-count.ensures.spent (read_on h.count r) h.now c.if-count-eq0.true

pub returns-in_err-count-clause-source : goal.returns-in_err-count-clause-source
returns-in_err-count-clause-source g c = advances_err _ _ refl _ (advances_then _ _ _ c.loop-end.invariant.source c.in_err-count.ensures.source)

pub returns-then-count-eq0-clause-source : goal.returns-then-count-eq0-clause-source
returns-then-count-eq0-clause-source g c = advances_ok _ _ Unfinished (advances_then _ _ _ c.loop-end.invariant.source c.in_ok-count.ensures.source)

pub loop-end-preserved : goal.loop-end-preserved
loop-end-preserved g c =
    let unfinished : Unfinished ≡ line_end c.loop-end.buffer = elim c.match-matches.branch [ in-Unfinished w ↦ cc | in_default w ↦ cc ] in
    record {
      end = c.end_of_line-end-in-loop-end.ensures ∙ ap line_end c.as_slice-in-loop-end.ensures.bytes;
      holds = λ r e.
          let h = c.loop-end.invariant.holds r e in
          holds_then r _ _ _ _ _ h (c.in_ok-count.ensures.holds (read_on h.count r) h.now);
      waits = inr (elim c.loop-end.invariant.waits [ inl p ↦ ap line_end (sym p.1) ∙ sym unfinished | inr p ↦ p ]);
      source = advances_on _ _ _ c.in_ok-count.count c.loop-end.invariant.source c.in_ok-count.ensures.source;
    }
