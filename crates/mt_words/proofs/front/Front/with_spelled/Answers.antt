use Rattle.std.proofs.Common.{◌∙◌, lit<}
use Rattle.std.proofs.lemmas.Result.{IfOk-weaker}
use Rattle.mt_words.proofs.Fronts.{spelled_joined, spelled_bare}
use Rattle.mt_words.proofs.front.Front.with_spelled.Goals as goal

pub returns-in-Some : goal.returns-in-Some
returns-in-Some c =
    let parts = c.in-Some.ensures.byte (lit< tt) (λ w o h. h) in
    record { front = IfOk-weaker c.with_joined.result _ _ (λ front e. e ∙ spelled_joined c.args.self c.args.text.now c.in-Some.name.now c.in-Some.value.now parts.0 parts.1 parts.2) c.with_joined.ensures.front }

pub returns-in-None : goal.returns-in-None
returns-in-None c =
    let none = c.in-None.ensures.byte (lit< tt) (λ w o h. h) in
    record { front = IfOk-weaker c.with_bare.result _ _ (λ front e. e ∙ spelled_bare c.args.self c.args.text.now none) c.with_bare.ensures.front }
