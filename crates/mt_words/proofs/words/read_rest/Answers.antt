use Rattle.std.proofs.Common.{◌≡◌, ◌+◌, ◌∙◌, inr, sym, ap, refl, get_or, arith}
use Rattle.mt_words.specs.Words.{read_from}
use Rattle.mt_words.proofs.ReadFrom.{end_open, end_whole, read_bad, read_step, told_bad, told_ok}
use Rattle.mt_words.proofs.words.read_rest.Goals as goal

pub loop-word-init : goal.loop-word-init
loop-word-init c = (ap (λ f. read_from 2 f c.args.words.now) c.new-front.ensures.start, refl)

pub loop-word-preserved : goal.loop-word-preserved
loop-word-preserved c =
    let i = c.loop-word.word-index in
    let item : c.as_str.result.now ≡ get_or c.args.words.now i c.word-item.result = c.as_str.ensures.bytes ∙ c.word-item.is in
    let step = read_step (i + 2) (i + 1 + 2) i c.loop-word.front c.in-Some.next c.args.words.now c.as_str.result.now c.word-item.result (omega arith) c.loop-word-test.true item (sym c.in-Some.is ∙ c.in_ok-next.ensures.front) in
    (step ∙ c.loop-word.invariant.0, omega (arith, c.saturating_add-at.ensures, c.loop-word.invariant.1))

pub returns-in_default : goal.returns-in_default
returns-in_default c =
    let i = c.loop-word.word-index in
    let item : c.as_str.result.now ≡ get_or c.args.words.now i c.word-item.result = c.as_str.ensures.bytes ∙ c.word-item.is in
    let bad = read_bad (i + 2) i c.loop-word.front c.args.words.now c.as_str.result.now c.word-item.result c.loop-word-test.true item (sym c.in_default.is ∙ c.in_ok-next.ensures.front) in
    record { front = inr (told_bad c.loop-word.at (i + 2) _ c.loop-word.invariant.1 (bad ∙ c.loop-word.invariant.0)) }

pub returns-then-is_whole : goal.returns-then-is_whole
returns-then-is_whole c =
    let i = c.loop-word.word-index in
    let end = end_whole (i + 2) i c.loop-word.front c.args.words.now c.loop-word-test.false c.if-is_whole.ensures.whole in
    record { front = inr (told_ok c.loop-word.front _ (end ∙ c.loop-word.invariant.0)) }

pub returns-else-is_whole : goal.returns-else-is_whole
returns-else-is_whole c =
    let i = c.loop-word.word-index in
    let end = end_open (i + 2) i c.loop-word.front c.args.words.now c.loop-word-test.false c.if-is_whole.ensures.whole in
    record { front = inr (told_bad c.loop-word.at (i + 2) _ c.loop-word.invariant.1 (end ∙ c.loop-word.invariant.0)) }
