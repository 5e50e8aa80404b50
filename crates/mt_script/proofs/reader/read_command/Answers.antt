use Rattle.std.proofs.lemmas.Result.{IfErr-weaker, IfOk-weaker}
use Rattle.mt_io.specs.Told.{read_on}
use Rattle.mt_script.proofs.Advances.{advances_then}
use Rattle.mt_script.proofs.Finds.{head_failed, head_found, head_refused}
use Rattle.mt_script.proofs.reader.read_command.Goals as goal

pub returns-in-Ok-clause-source : goal.returns-in-Ok-clause-source
returns-in-Ok-clause-source g c = advances_then _ _ _ c.in-Ok.ensures.source c.carry_out.ensures.source

pub returns-in-Ok-clause-found : goal.returns-in-Ok-clause-found
returns-in-Ok-clause-found g c = λ r e.
    let h = c.in-Ok.ensures.found r e in
    IfOk-weaker c.carry_out.result _ _ (λ command k. head_found c.args.count r _ _ _ _ _ c.in-Ok.head command h k) (c.carry_out.ensures.found (read_on h.count r) h.now)

pub returns-in-Ok-clause-refused : goal.returns-in-Ok-clause-refused
returns-in-Ok-clause-refused g c = λ r e.
    let h = c.in-Ok.ensures.found r e in
    IfErr-weaker c.carry_out.result _ _ (λ fault k. head_refused c.args.count r _ _ _ c.in-Ok.head fault h k) (c.carry_out.ensures.refused (read_on h.count r) h.now)

pub returns-in-Ok-clause-interrupted : goal.returns-in-Ok-clause-interrupted
returns-in-Ok-clause-interrupted g c = λ r e failed.
    let h = c.in-Ok.ensures.found r e in
    head_failed c.args.count r _ _ _ _ c.in-Ok.head h (c.carry_out.ensures.interrupted (read_on h.count r) h.now failed)
