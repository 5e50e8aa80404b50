-- One more part of a string.
use Rattle.std.proofs.Common.{arith, ◌≡◌, ◌≤◌, ◌+◌, ◌++◌, ◌∙◌, length, drop, ap, sym, subst, Some}
use Rattle.std.specs.Option.{option_map}
use Rattle.std.specs.String.{string_bytes}
use Rattle.std.proofs.lemmas.List.{length-drop}
use Rattle.mt_chars.specs.Escapes.{cooked_from, part_of}
use Rattle.mt_chars.proofs.Parts.{cooked_more}
use Rattle.mt_chars.proofs.Rests.{slice_from}
use Rattle.mt_chars.proofs.cooking.inner_value.Goals as goal

pub loop-at-preserved : goal.loop-at-preserved
loop-at-preserved c =
    let body = c.args.body.now in
    let at = c.loop-at.at in
    let next = c.in-Some.next in
    let old = string_bytes c.loop-at.value in
    let p : Some next ≡ part_of (drop at body) = c.in-Some.ensures.value ∙ ap part_of (slice_from body at) in
    let w = c.in-Some.ensures.within in
    let some = w.0 in
    let few : next.len ≤ length (drop at body) + 4 = subst (λ xs. next.len ≤ length xs + 4) (slice_from body at) w.1 in
    let m = cooked_more body at old next c.loop-at-test.true p some in
    let d = length-drop at body in
    record {
      within = omega arith;
      answer = ap (λ s. option_map (λ v. s ++ v) (cooked_from 0 (drop (at + next.len) body))) c.in_ok-push_value.ensures.ok ∙ sym m ∙ c.loop-at.invariant.answer;
    }
