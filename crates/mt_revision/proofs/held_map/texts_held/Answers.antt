use Rattle.std.proofs.Common.{◌≡◌, ◌∙◌, ap}
use Rattle.std.specs.FinMap.{entries}
use Rattle.mt_revision.specs.Texts.{text_in}
use Rattle.mt_revision.proofs.TextsOf.{held_start, held_step, held_whole, sorted_next, sorted_start}
use Rattle.mt_revision.proofs.held_map.texts_held.Goals as goal

pub loop-number-init : goal.loop-number-init
loop-number-init c =
    let is : c.into_iter-number-iterator.result ≡ entries c.args.modules.now = c.into_iter-number-iterator.ensures.into_iter_gives.0 ∙ ap entries c.modules.view_is in
    record { left = λ n. held_start c.args.dev c.args.modules.now c.into_iter-number-iterator.result c.new-texts.result n is c.new-texts.ensures.empty; sorted = sorted_start c.args.modules.now c.into_iter-number-iterator.result is }

pub loop-number-preserved : goal.loop-number-preserved
loop-number-preserved c =
    let text : c.in_ok-text.text ≡ text_in c.args.dev c.in-Some.number.now c.in-Some.kept.now = c.in_ok-text.ensures.exact ∙ ap (text_in c.args.dev c.in-Some.number.now) c.deref.ensures.value in
    record {
      left = λ n.
          held_step c.args.dev c.loop-number.number-iterator c.next.new.self c.in-Some.number.now c.in-Some.kept.now c.loop-number.texts c.insert.new.self c.in_ok-text.text n c.in-Some.ensures.steps c.loop-number.invariant.sorted text c.in_ok-insert.ensures.ok
          ∙ c.loop-number.invariant.left n;
      sorted = sorted_next c.loop-number.number-iterator c.next.new.self c.in-Some.number.now c.in-Some.kept.now c.in-Some.ensures.steps c.loop-number.invariant.sorted;
    }

pub returns : goal.returns
returns c = record { exact = held_whole c.args.dev c.args.modules.now c.loop-number.number-iterator c.loop-number.texts c.in-None.ensures.steps.0 c.loop-number.invariant.left }
