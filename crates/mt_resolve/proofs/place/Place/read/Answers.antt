use Rattle.std.proofs.Common.{◌≡◌, ◌∙◌, Some, ap, sym, subst}
use Rattle.std.specs.Prelude.{IfSome}
use Rattle.std.specs.FinMap.{get, insert}
use Rattle.mt_resolve.specs.Searches.{answer_at}
use Rattle.mt_resolve.proofs.Answered.{all_put, answer_there, get_put}
use Rattle.mt_resolve.proofs.place.Place.read.Goals as goal

pub returns-clause-said : goal.returns-clause-said
returns-clause-said c =
    let options = c.args.self.now.options.now in
    let files = c.args.self.now.files.now in
    let a = answer_there options files c.args.file.now c.as_slice.result.now c.in_ok-answer.answer
    (ap Some (c.as_slice.ensures.bytes ∙ c.deref.ensures.value) ∙ c.in-Some.ensures.source) c.in_ok-answer.ensures.exact in
    ap (λ m. get m c.args.file.now) c.in_ok-insert.ensures.ok ∙ ap (λ k. get (insert c.args.packages.now k c.in_ok-answer.answer) c.args.file.now) c.in_ok-clone.ensures.cases
    ∙ get_put c.args.packages.now c.args.file.now c.in_ok-answer.answer ∙ sym a

pub returns-clause-read : goal.returns-clause-read
returns-clause-read c =
    let options = c.args.self.now.options.now in
    let files = c.args.self.now.files.now in
    let a = answer_there options files c.args.file.now c.as_slice.result.now c.in_ok-answer.answer
    (ap Some (c.as_slice.ensures.bytes ∙ c.deref.ensures.value) ∙ c.in-Some.ensures.source) c.in_ok-answer.ensures.exact in
    λ file.
    subst (λ m. IfSome (get m file) (λ answer. answer_at options files file ≡ Some answer))
    (sym (c.in_ok-insert.ensures.ok ∙ ap (λ k. insert c.args.packages.now k c.in_ok-answer.answer) c.in_ok-clone.ensures.cases))
    (all_put (λ k answer. answer_at options files k ≡ Some answer) c.args.packages.now c.args.file.now c.in_ok-answer.answer a c.requires.read file)
