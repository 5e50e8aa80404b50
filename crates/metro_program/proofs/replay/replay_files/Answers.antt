use Rattle.std.proofs.Common.{ap, sym, subst, ◌∙◌}
use Rattle.mt_io.specs.Seen.{Stopped, Wrote}
use Rattle.metro_program.specs.Builds.{asked_step}
use Rattle.metro_program.specs.Replay.{lines_after}
use Rattle.metro_program.proofs.HasDone.{opened_begun, opened_fault, trouble_word}
use Rattle.metro_program.proofs.HasRead.{trouble_reason}
use Rattle.mt_report.specs.Outcomes.{status_of}
use Rattle.metro_program.proofs.Writes.{lacks_apart}
use Rattle.metro_program.proofs.replay.replay_files.Goals as goal

pub returns-in-Ok-clause-ends : goal.returns-in-Ok-clause-ends
returns-in-Ok-clause-ends g c = λ sure start is.
    c.run_script.ensures.ends (c.build.ensures.kept sure) start
    (opened_begun start c.args.full c.args.ask c.args.files (record { folder = g.F.Folder.seen c.args.folder.now; script = g.I.Source.seen c.args.script.now; out = g.O.Sink.seen c.args.out.now }) c.build.new.state (g.O.Sink.seen c.build.new.out) is
    (c.in-Ok.ensures.state sure ∙ ap (λ s. (asked_step s).state) c.new-state.ensures.opened)
    (subst (λ s. Wrote (g.O.Sink.seen c.args.out.now) (g.O.Sink.seen c.build.new.out) (lines_after c.args.full s.latest (asked_step s).answers)) c.new-state.ensures.opened (c.in-Ok.ensures.writes sure).all))

pub returns-in-Err-clause-ends : goal.returns-in-Err-clause-ends
returns-in-Err-clause-ends g c = λ sure start is.
    opened_fault start c.args.full c.args.ask c.args.files (record { folder = g.F.Folder.seen c.args.folder.now; script = g.I.Source.seen c.args.script.now; out = g.O.Sink.seen c.args.out.now }) c.in-Err.trouble c.from.result
    (record { folder = g.F.Folder.seen c.args.folder.now; script = g.I.Source.seen c.args.script.now; out = g.O.Sink.seen c.build.new.out }) is c.from.ensures
    (subst (λ s. Stopped (g.O.Sink.seen c.args.out.now) (g.O.Sink.seen c.build.new.out) (lines_after c.args.full s.latest (asked_step s).answers)) c.new-state.ensures.opened (c.in-Err.ensures.writes sure).stop)

pub returns-in-Ok-clause-out_apart : goal.returns-in-Ok-clause-out_apart
returns-in-Ok-clause-out_apart g c = c.run_script.ensures.out_apart ∙ lacks_apart (g.O.Sink.seen c.args.out.now) (g.O.Sink.seen c.build.new.out) c.build.ensures.line.0 c.build.result c.build.ensures.line.1

pub returns-in-Err-clause-out_apart : goal.returns-in-Err-clause-out_apart
returns-in-Err-clause-out_apart g c = lacks_apart (g.O.Sink.seen c.args.out.now) (g.O.Sink.seen c.build.new.out) c.build.ensures.line.0 c.build.result c.build.ensures.line.1

pub returns-in-Err-clause-word : goal.returns-in-Err-clause-word
returns-in-Err-clause-word g c = λ two. trouble_word c.in-Err.trouble (sym (ap status_of c.from.ensures) ∙ two)

pub returns-in-Ok-clause-reason : goal.returns-in-Ok-clause-reason
returns-in-Ok-clause-reason g c = c.run_script.ensures.reason

pub returns-in-Err-clause-reason : goal.returns-in-Err-clause-reason
returns-in-Err-clause-reason g c = λ reading tells. trouble_reason reading c.in-Err.trouble c.from.result c.from.ensures
