use Rattle.std.proofs.Common.{◌∙◌, sym, ap}
use Rattle.std.proofs.lemmas.Result.{IfOk-weaker}
use Rattle.std.proofs.lemmas.Str.{is_utf8-from_IsUtf8}
use Rattle.mt_script.specs.Heads.{words_head}
use Rattle.mt_script.proofs.Heads.{other_head, utf8_head}
use Rattle.mt_script.proofs.command_head.head_in.Goals as goal

pub returns-in-Ok : goal.returns-in-Ok
returns-in-Ok c =
    let same = utf8_head c.args.line.now (is_utf8-from_IsUtf8 c.args.line.now c.in-Ok.ensures.cases.1) in
    record { head = IfOk-weaker c.words_in.result _ _ (λ head e. e ∙ ap words_head c.in-Ok.ensures.cases.0 ∙ sym same) c.words_in.ensures.head }

pub returns-in-Err : goal.returns-in-Err
returns-in-Err c = record { head = sym (other_head c.args.line.now c.in-Err.ensures.cases.0) }
