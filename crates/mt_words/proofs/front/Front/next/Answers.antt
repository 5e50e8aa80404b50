use Rattle.std.proofs.Common.{◌∙◌, sym}
use Rattle.std.proofs.lemmas.Result.{IfOk-weaker}
use Rattle.mt_words.proofs.Fronts.{next_plain, next_waiting}
use Rattle.mt_words.proofs.front.Front.next.Goals as goal

pub returns-in-Some : goal.returns-in-Some
returns-in-Some c = record { front = IfOk-weaker c.with_value.result _ _ (λ front e. e ∙ next_waiting c.args.self _ c.in-Some.name c.args.word.now c.in-Some.kind c.take_waiting-front.ensures.front (sym c.in-Some.is ∙ c.take_waiting-front.ensures.waiting)) c.with_value.ensures.front }

pub returns-in-None : goal.returns-in-None
returns-in-None c = record { front = IfOk-weaker c.with_word.result _ _ (λ front e. e ∙ next_plain c.args.self _ c.args.word.now c.take_waiting-front.ensures.front (sym c.in-None.is ∙ c.take_waiting-front.ensures.waiting)) c.with_word.ensures.front }
