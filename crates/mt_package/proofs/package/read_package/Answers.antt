use Rattle.std.proofs.Common.{◌≡◌, ◌∙◌, inr}
use Rattle.std.proofs.lemmas.Result.{err_from_is_err_and}
use Rattle.mt_package.proofs.Packages.{of_no_text, of_text}
use Rattle.mt_package.proofs.package.read_package.Goals as goal

pub returns-in_err-value-in-Ok-clause-err : goal.returns-in_err-value-in-Ok-clause-err
returns-in_err-value-in-Ok-clause-err c =
    let p = err_from_is_err_and c.from_residual.result c.from_residual.ensures.1 in
    let t = of_text c.args.bytes.now c.in-Ok.text.now c.in-Ok.ensures.cases.0 c.in-Ok.ensures.cases.1 in
    rw (p.1, p.2, t) c.in_err-value-in-Ok.ensures.err

pub returns-in_ok-value-in-Ok-clause-ok : goal.returns-in_ok-value-in-Ok-clause-ok
returns-in_ok-value-in-Ok-clause-ok c = of_text c.args.bytes.now c.in-Ok.text.now c.in-Ok.ensures.cases.0 c.in-Ok.ensures.cases.1 ∙ c.in_ok-value-in-Ok.ensures.ok

pub returns-in-Err-clause-err : goal.returns-in-Err-clause-err
returns-in-Err-clause-err c = inr (of_no_text c.args.bytes.now c.in-Err.ensures.cases.0)
