use Rattle.std.proofs.Common.{◌∙◌, sym, Some, None}
use Rattle.std.proofs.lemmas.Result.{IfOk-weaker}
use Rattle.mt_script.proofs.LastBlanks.{cut_last_blank}
use Rattle.mt_script.proofs.Heads.{put_none, put_parts}
use Rattle.mt_script.proofs.command_head.put_in.Goals as goal

pub returns-in-Some : goal.returns-in-Some
returns-in-Some c =
    let parts = cut_last_blank c.args.text.now (Some (c.in-Some.path, c.in-Some.size)) c.in-Some.ensures.cases in
    record { head = IfOk-weaker c.sized_put.result _ _ (λ head e. e ∙ sym (put_parts c.args.text.now c.in-Some.path.now c.in-Some.size.now parts)) c.sized_put.ensures.head }

pub returns-in-None : goal.returns-in-None
returns-in-None c = record { head = sym (put_none c.args.text.now (cut_last_blank c.args.text.now None c.in-None.ensures.cases)) }
