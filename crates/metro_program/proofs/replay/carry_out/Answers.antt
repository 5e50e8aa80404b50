use Rattle.std.proofs.Common.{sym, subst}
use Rattle.std.specs.Prelude.{IfErr, OnOk}
use Rattle.mt_files.specs.Crawl.{entry_of}
use Rattle.mt_files.specs.Rescans.{rescanned}
use Rattle.mt_files.specs.declared.change.Change.TheVariants as change
use Rattle.metro_program.specs.Commands.{changed, moved, rescanned_by}
use Rattle.metro_program.specs.Progress.{Halted, Went}
use Rattle.mt_io.proofs.Seen.{wrote_none}
use Rattle.metro_program.proofs.Writes.{lacks_apart}
use Rattle.metro_program.proofs.Moves.{halted_rescan, halted_silent, went_rescan, went_silent}
use Rattle.metro_program.proofs.replay.carry_out.Goals as goal

pub returns-in-Put-clause-went : goal.returns-in-Put-clause-went
returns-in-Put-clause-went g c = λ sure tree told.
    subst (λ command. OnOk c.put.result (Went c.args.full (moved tree c.args.state.now command) c.args.state.now c.put.new.self (g.O.Sink.seen c.args.out.now) (g.O.Sink.seen c.args.out.now))) (sym c.in-Put.is)
    (went_silent c.args.full (changed c.args.state.now (change.Put c.in-Put.path (entry_of c.in-Put.path c.in-Put.bytes))) c.args.state.now c.put.new.self (g.O.Sink.seen c.args.out.now) c.put.result c.put.ensures.exact)

pub returns-in-Put-clause-halted : goal.returns-in-Put-clause-halted
returns-in-Put-clause-halted g c = λ sure tree told.
    subst (λ command. IfErr c.put.result (λ outcome. Halted c.args.full (moved tree c.args.state.now command) c.args.state.now outcome (g.O.Sink.seen c.args.out.now) (g.O.Sink.seen c.args.out.now))) (sym c.in-Put.is)
    (halted_silent c.args.full (changed c.args.state.now (change.Put c.in-Put.path (entry_of c.in-Put.path c.in-Put.bytes))) c.args.state.now c.put.new.self (g.O.Sink.seen c.args.out.now) c.put.result c.put.ensures.exact)

pub returns-in-Del-clause-went : goal.returns-in-Del-clause-went
returns-in-Del-clause-went g c = λ sure tree told.
    subst (λ command. OnOk c.change.result (Went c.args.full (moved tree c.args.state.now command) c.args.state.now c.change.new.self (g.O.Sink.seen c.args.out.now) (g.O.Sink.seen c.args.out.now))) (sym c.in-Del.is)
    (went_silent c.args.full (changed c.args.state.now (change.Del c.in-Del.path)) c.args.state.now c.change.new.self (g.O.Sink.seen c.args.out.now) c.change.result c.change.ensures.exact)

pub returns-in-Del-clause-halted : goal.returns-in-Del-clause-halted
returns-in-Del-clause-halted g c = λ sure tree told.
    subst (λ command. IfErr c.change.result (λ outcome. Halted c.args.full (moved tree c.args.state.now command) c.args.state.now outcome (g.O.Sink.seen c.args.out.now) (g.O.Sink.seen c.args.out.now))) (sym c.in-Del.is)
    (halted_silent c.args.full (changed c.args.state.now (change.Del c.in-Del.path)) c.args.state.now c.change.new.self (g.O.Sink.seen c.args.out.now) c.change.result c.change.ensures.exact)

pub returns-in-Rescan-clause-went : goal.returns-in-Rescan-clause-went
returns-in-Rescan-clause-went g c = λ sure tree told.
    subst (λ command. OnOk c.rescan.result (Went c.args.full (moved tree c.args.state.now command) c.args.state.now c.rescan.new.self (g.O.Sink.seen c.args.out.now) (g.O.Sink.seen c.args.out.now))) (sym c.in-Rescan.is)
    (went_rescan c.args.full (rescanned_by c.args.state.now (rescanned c.args.state.now.files tree)) c.args.state.now c.rescan.new.self (g.O.Sink.seen c.args.out.now) c.rescan.result (c.rescan.ensures.exact tree told))

pub returns-in-Rescan-clause-halted : goal.returns-in-Rescan-clause-halted
returns-in-Rescan-clause-halted g c = λ sure tree told.
    subst (λ command. IfErr c.rescan.result (λ outcome. Halted c.args.full (moved tree c.args.state.now command) c.args.state.now outcome (g.O.Sink.seen c.args.out.now) (g.O.Sink.seen c.args.out.now))) (sym c.in-Rescan.is)
    (halted_rescan c.args.full (rescanned_by c.args.state.now (rescanned c.args.state.now.files tree)) c.args.state.now c.rescan.new.self (g.O.Sink.seen c.args.out.now) c.rescan.result (c.rescan.ensures.exact tree told))

pub returns-in-Build-clause-out_apart : goal.returns-in-Build-clause-out_apart
returns-in-Build-clause-out_apart g c = lacks_apart (g.O.Sink.seen c.args.out.now) (g.O.Sink.seen c.build.new.out) c.build.ensures.line.0 c.build.result c.build.ensures.line.1

pub returns-in-End-clause-halted : goal.returns-in-End-clause-halted
returns-in-End-clause-halted g c = λ sure tree told.
    subst (λ command. Halted c.args.full (moved tree c.args.state.now command) c.args.state.now c.end.result (g.O.Sink.seen c.args.out.now) (g.O.Sink.seen c.args.out.now)) (sym c.in-End.is)
    (λ planned. c.end.ensures.exact, wrote_none (g.O.Sink.seen c.args.out.now))
