use Rattle.std.proofs.Common.{◌∙◌, ap, sym, subst}
use Rattle.std.specs.FinMap.{insert}
use Rattle.mt_resolve.specs.Known.{AreKnown}
use Rattle.mt_resolve.proofs.Known.{known_more, known_there}
use Rattle.mt_resolve.proofs.answers.keep_answer.Goals as goal

pub returns-in_err-insert-2-clause-known : goal.returns-in_err-insert-2-clause-known
returns-in_err-insert-2-clause-known c = λ options files k t. subst (AreKnown options files) (sym c.in_err-insert-2.ensures.err) (c.take_names-names.ensures.rest options files k)

pub returns-clause-kept : goal.returns-clause-kept
returns-clause-kept c =
    known_there c.take_names-names.new.answers c.insert-2.new.self c.take_names-names.result c.insert.new.self c.args.folder.now c.args.name.now c.args.target.now
    (c.in_ok-insert.ensures.ok ∙ ap (λ n. insert c.take_names-names.result n c.in_ok-answer.answer) c.in_ok-text.ensures.cases ∙ ap (insert c.take_names-names.result c.args.name.now) c.in_ok-answer.ensures.cases)
    (c.in_ok-insert-2.ensures.ok ∙ ap (λ n. insert c.take_names-names.new.answers n c.insert.new.self) c.in_ok-key.ensures.cases)

pub returns-clause-known : goal.returns-clause-known
returns-clause-known c =
    λ options files k t.
    known_more options files c.take_names-names.new.answers c.insert-2.new.self c.take_names-names.result c.insert.new.self c.args.folder.now c.args.name.now c.args.target.now
    (c.in_ok-insert.ensures.ok ∙ ap (λ n. insert c.take_names-names.result n c.in_ok-answer.answer) c.in_ok-text.ensures.cases ∙ ap (insert c.take_names-names.result c.args.name.now) c.in_ok-answer.ensures.cases)
    (c.in_ok-insert-2.ensures.ok ∙ ap (λ n. insert c.take_names-names.new.answers n c.insert.new.self) c.in_ok-key.ensures.cases)
    (c.take_names-names.ensures.rest options files k) (c.take_names-names.ensures.names options files k) t
