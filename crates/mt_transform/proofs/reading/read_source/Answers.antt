-- Each exit by the source's kind.
use Rattle.std.proofs.Common.{◌≡◌, ap, sym, subst, inl, inr, ◌∙◌, Ok, Err}
use Rattle.std.proofs.lemmas.Result.{IfErr-weaker, IfOk-weaker, err_from_is_err_and}
use Rattle.mt_tokens.specs.Tokens.{tokens_of}
use Rattle.mt_tokens.specs.Transform.{read_script}
use Rattle.mt_transform.specs.Readings.{made}
use Rattle.mt_transform.proofs.Transformed.{transformed-json_read, transformed-json_refused, transformed-not_utf8, transformed-script}
use Rattle.mt_transform.proofs.reading.read_source.Goals as goal

pub returns-in_err-text-clause-err : goal.returns-in_err-text-clause-err
returns-in_err-text-clause-err c =
    let p = err_from_is_err_and c.from_residual.result c.from_residual.ensures.1 in
    let e = c.in_err-text.ensures.err in
    rw (p.1, p.2) (inr (λ strip. transformed-not_utf8 strip c.args.kind c.args.source.now e.0 ∙ ap Err (sym e.1)))

pub returns-in-Script-clause-ok : goal.returns-in-Script-clause-ok
returns-in-Script-clause-ok c =
    let t = c.in_ok-text.ensures.ok in
    IfOk-weaker c.read_text.result _ _
    (λ reading h strip. transformed-script strip c.args.kind c.args.source.now c.in-Script.is t.1 ∙ subst (λ s. read_script strip s (tokens_of s) ≡ Ok (made strip s reading)) t.0 (h strip))
    c.read_text.ensures.ok

pub returns-in-Script-clause-err : goal.returns-in-Script-clause-err
returns-in-Script-clause-err c =
    let t = c.in_ok-text.ensures.ok in
    IfErr-weaker c.read_text.result _ _
    (λ e h. elim h [
      | inl memory ↦ inl memory
      | inr refused ↦ inr (λ strip. transformed-script strip c.args.kind c.args.source.now c.in-Script.is t.1 ∙ subst (λ s. read_script strip s (tokens_of s) ≡ Err e) t.0 (refused strip))
    ])
    c.read_text.ensures.err

pub returns-in-Json-clause-ok : goal.returns-in-Json-clause-ok
returns-in-Json-clause-ok c =
    let t = c.in_ok-text.ensures.ok in
    IfOk-weaker c.read_json.result _ _
    (λ reading h strip. transformed-json_read strip c.args.kind c.args.source.now _ reading c.in-Json.is t.0 t.1 h.0 h.1)
    c.read_json.ensures.ok

pub returns-in-Json-clause-err : goal.returns-in-Json-clause-err
returns-in-Json-clause-err c =
    let t = c.in_ok-text.ensures.ok in
    IfErr-weaker c.read_json.result _ _
    (λ e h. elim h [
      | inl memory ↦ inl memory
      | inr refused ↦ inr (λ strip. transformed-json_refused strip c.args.kind c.args.source.now _ c.in-Json.is t.0 t.1 refused.1 ∙ ap Err (sym refused.0))
    ])
    c.read_json.ensures.err
