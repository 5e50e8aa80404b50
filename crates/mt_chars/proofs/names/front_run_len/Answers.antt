-- One more part of a run.
use Rattle.std.proofs.Common.{arith, ◌≡◌, ◌<◌, ◌≤◌, ◌∙◌, length, drop, sym, ap, subst}
use Rattle.std.proofs.lemmas.List.{length-drop}
use Rattle.mt_chars.specs.Names.{unit_len}
use Rattle.mt_chars.proofs.Runs.{run-stop, run_ends, run_more}
use Rattle.mt_chars.proofs.Rests.{slice_from}
use Rattle.mt_chars.proofs.names.front_run_len.Goals as goal

pub returns-then-len-eq0-clause-value : goal.returns-then-len-eq0-clause-value
returns-then-len-eq0-clause-value c =
    let of = c.args.of in
    let rest = c.args.rest.now in
    let at = c.loop-at.at in
    let u : unit_len of (drop at rest) ≡ 0 = ap (unit_len of) (sym (slice_from rest at)) ∙ sym c.front_unit_len-len.ensures.value ∙ c.if-len-eq0.true in
    let s = run-stop of (drop at rest) u in
    let i = c.loop-at.invariant.run in
    omega (arith, s, i)

pub loop-at-preserved : goal.loop-at-preserved
loop-at-preserved c =
    let of = c.args.of in
    let rest = c.args.rest.now in
    let at = c.loop-at.at in
    let len = c.front_unit_len-len.result in
    let u : unit_len of (drop at rest) ≡ len = ap (unit_len of) (sym (slice_from rest at)) ∙ sym c.front_unit_len-len.ensures.value in
    let w : len ≤ length (drop at rest) = subst (λ xs. len ≤ length xs) (slice_from rest at) c.front_unit_len-len.ensures.within in
    let p : 0 < len = omega arith in
    let m = run_more of rest at len c.loop-at.invariant.within u p w in
    let d = length-drop at rest in
    record { within = omega arith; run = c.loop-at.invariant.run ∙ m }

pub returns-clause-value : goal.returns-clause-value
returns-clause-value c =
    let e = run_ends c.args.of c.args.rest.now c.loop-at.at c.loop-at-test.false in
    let i = c.loop-at.invariant.run in
    omega (arith, e, i)
