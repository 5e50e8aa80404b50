use Rattle.std.proofs.Common.{Err, ap, sym, ◌∙◌}
use Rattle.metro_program.proofs.HasDone.{own_word, script_word, turn_err, turn_on, turn_stopped}
use Rattle.metro_program.proofs.HasRead.{own_reason, stopped_reason, turn_read}
use Rattle.mt_report.specs.Outcomes.{status_of}
use Rattle.metro_program.proofs.replay.turn.Goals as goal

pub returns-in-Ok-clause-on : goal.returns-in-Ok-clause-on
returns-in-Ok-clause-on g c = λ sure start whole told done.
    turn_on start c.args.state.now c.args.reader.now (g.I.Source.seen c.args.script.now).told (g.O.Sink.seen c.args.out.now) done
    c.args.full c.carry_out.result c.in-Ok.command c.carry_out.new.state c.next.new.self (g.I.Source.seen c.next.new.source).told (g.O.Sink.seen c.carry_out.new.out) whole
    c.in-Ok.ensures.found c.in-Ok.ensures.count c.carry_out.ensures.goes (λ tree tells. c.carry_out.ensures.went sure tree (told ∙ tells))

pub returns-in-Ok-clause-ends : goal.returns-in-Ok-clause-ends
returns-in-Ok-clause-ends g c = λ sure start whole told faults done.
    turn_err start c.args.state.now c.args.reader.now (g.I.Source.seen c.args.script.now).told (g.O.Sink.seen c.args.out.now) done
    c.args.full c.carry_out.result c.in-Ok.command c.next.new.self.held (g.F.Folder.seen c.args.folder.now).faults
    (record { folder = g.F.Folder.seen c.carry_out.new.folder; script = g.I.Source.seen c.next.new.source; out = g.O.Sink.seen c.carry_out.new.out }) whole
    c.in-Ok.ensures.found faults (λ tree tells. c.carry_out.ensures.halted sure tree (told ∙ tells)) c.carry_out.ensures.read

pub returns-in-Err-clause-ends : goal.returns-in-Err-clause-ends
returns-in-Err-clause-ends g c = λ sure start whole told faults done.
    turn_stopped start c.args.state.now c.args.reader.now (g.I.Source.seen c.args.script.now).told (g.O.Sink.seen c.args.out.now) done
    c.in-Err.fault c.from.result
    (record { folder = g.F.Folder.seen c.args.folder.now; script = g.I.Source.seen c.next.new.source; out = g.O.Sink.seen c.args.out.now })
    c.from.ensures (λ i. g.O.Sink.seen c.args.out.now)
    (λ r is. c.in-Err.ensures.refused r is c.requires.going) (λ r is failed. c.in-Err.ensures.interrupted r is c.requires.going (ap Err failed))

pub returns-in-Ok-clause-has : goal.returns-in-Ok-clause-has
returns-in-Ok-clause-has g c = λ reading has.
    turn_read reading c.args.reader.now (g.I.Source.seen c.args.script.now).told has c.carry_out.result c.in-Ok.command c.next.new.self (g.I.Source.seen c.next.new.source).told c.in-Ok.ensures.found c.in-Ok.ensures.count c.carry_out.ensures.goes

pub returns-in-Ok-clause-reason : goal.returns-in-Ok-clause-reason
returns-in-Ok-clause-reason g c = λ reading has. own_reason reading c.carry_out.result c.carry_out.ensures.own

pub returns-in-Err-clause-reason : goal.returns-in-Err-clause-reason
returns-in-Err-clause-reason g c = λ reading has.
    stopped_reason reading c.args.reader.now (g.I.Source.seen c.args.script.now).told has c.in-Err.fault c.from.result c.from.ensures (λ r is. c.in-Err.ensures.refused r is c.requires.going)

pub returns-in-Ok-clause-word : goal.returns-in-Ok-clause-word
returns-in-Ok-clause-word g c = own_word c.carry_out.result c.carry_out.ensures.own

pub returns-in-Err-clause-word : goal.returns-in-Err-clause-word
returns-in-Err-clause-word g c = λ two. script_word c.in-Err.fault (sym (ap status_of c.from.ensures) ∙ two)
