use Rattle.std.proofs.Common.{refl, true, ap, sym, ◌∙◌}
use Rattle.metro_program.proofs.Owes.{crawl_causes, crawl_looks, crawl_own, crawl_owes, crawl_reads, crawl_reason, crawl_takes, replay_causes, replay_owes, replay_reads}
use Rattle.mt_report.specs.Outcomes.{status_of}
use Rattle.metro_program.specs.Replay.{files_plan, replay_plan}
use Rattle.metro_program.proofs.replay.run_replay.Goals as goal

pub returns-in-Ok-clause-owes : goal.returns-in-Ok-clause-owes
returns-in-Ok-clause-owes g c = λ sure.
    replay_owes c.args.full c.args.ask c.in-Ok.files
    (record { folder = g.F.Folder.seen c.args.folder.now; script = g.I.Source.seen c.args.script.now; out = g.O.Sink.seen c.args.out.now })
    (record { folder = g.F.Folder.seen c.crawl.new.folder; script = g.I.Source.seen c.args.script.now; out = g.O.Sink.seen c.args.out.now })
    (record { folder = g.F.Folder.seen c.replay_files.new.folder; script = g.I.Source.seen c.replay_files.new.script; out = g.O.Sink.seen c.replay_files.new.out })
    c.replay_files.result (λ tree tells. crawl_takes tree c.in-Ok.files (c.in-Ok.ensures.exact tree tells)) c.crawl.ensures.looks.same c.crawl.ensures.looks.later refl refl (c.replay_files.ensures.ends sure)

pub returns-in-Ok-clause-causes : goal.returns-in-Ok-clause-causes
returns-in-Ok-clause-causes g c =
    replay_causes
    (record { folder = g.F.Folder.seen c.args.folder.now; script = g.I.Source.seen c.args.script.now; out = g.O.Sink.seen c.args.out.now })
    (record { folder = g.F.Folder.seen c.crawl.new.folder; script = g.I.Source.seen c.args.script.now; out = g.O.Sink.seen c.args.out.now })
    (record { folder = g.F.Folder.seen c.replay_files.new.folder; script = g.I.Source.seen c.replay_files.new.script; out = g.O.Sink.seen c.replay_files.new.out })
    c.replay_files.result c.crawl.ensures.looks.same c.crawl.ensures.looks.later refl refl
    c.replay_files.ensures.read c.replay_files.ensures.write c.replay_files.ensures.folder.same c.crawl.ensures.looks.apart c.replay_files.ensures.folder.apart c.replay_files.ensures.script_apart c.replay_files.ensures.out_apart

pub returns-in-Ok-clause-reason : goal.returns-in-Ok-clause-reason
returns-in-Ok-clause-reason g c = c.replay_files.ensures.reason

pub returns-in-Ok-clause-script : goal.returns-in-Ok-clause-script
returns-in-Ok-clause-script g c = λ sure.
    replay_reads c.args.full c.args.ask c.in-Ok.files
    (record { folder = g.F.Folder.seen c.args.folder.now; script = g.I.Source.seen c.args.script.now; out = g.O.Sink.seen c.args.out.now })
    (record { folder = g.F.Folder.seen c.crawl.new.folder; script = g.I.Source.seen c.args.script.now; out = g.O.Sink.seen c.args.out.now })
    (record { folder = g.F.Folder.seen c.replay_files.new.folder; script = g.I.Source.seen c.replay_files.new.script; out = g.O.Sink.seen c.replay_files.new.out })
    c.replay_files.result (λ tree tells. crawl_takes tree c.in-Ok.files (c.in-Ok.ensures.exact tree tells)) c.crawl.ensures.looks.same c.crawl.ensures.looks.later refl refl (c.replay_files.ensures.ends sure)

pub returns-in-Err-clause-owes : goal.returns-in-Err-clause-owes
returns-in-Err-clause-owes g c = λ sure.
    crawl_owes
    (record { folder = g.F.Folder.seen c.args.folder.now; script = g.I.Source.seen c.args.script.now; out = g.O.Sink.seen c.args.out.now })
    (record { folder = g.F.Folder.seen c.crawl.new.folder; script = g.I.Source.seen c.args.script.now; out = g.O.Sink.seen c.args.out.now })
    c.in-Err.fault c.from.result c.from.ensures c.in-Err.ensures.exact (crawl_looks _ _ c.in-Err.fault c.crawl.result c.in-Err.is c.crawl.ensures.looks) refl refl
    (replay_plan c.args.full c.args.ask) true (λ tree bytes found. files_plan c.args.full tree c.args.ask bytes found) (λ tree bytes f. refl) (λ tree bytes. refl)

pub returns-in-Err-clause-script : goal.returns-in-Err-clause-script
returns-in-Err-clause-script g c = λ sure.
    crawl_reads
    (record { folder = g.F.Folder.seen c.args.folder.now; script = g.I.Source.seen c.args.script.now; out = g.O.Sink.seen c.args.out.now })
    (record { folder = g.F.Folder.seen c.crawl.new.folder; script = g.I.Source.seen c.args.script.now; out = g.O.Sink.seen c.args.out.now })
    c.in-Err.fault c.from.result c.from.ensures c.in-Err.ensures.exact (crawl_looks _ _ c.in-Err.fault c.crawl.result c.in-Err.is c.crawl.ensures.looks) refl refl c.args.full c.args.ask

pub returns-in-Err-clause-word : goal.returns-in-Err-clause-word
returns-in-Err-clause-word g c = λ two. (crawl_own c.in-Err.fault).0 (sym (ap status_of c.from.ensures) ∙ two)

pub returns-in-Err-clause-causes : goal.returns-in-Err-clause-causes
returns-in-Err-clause-causes g c =
    crawl_causes
    (record { folder = g.F.Folder.seen c.args.folder.now; script = g.I.Source.seen c.args.script.now; out = g.O.Sink.seen c.args.out.now })
    (record { folder = g.F.Folder.seen c.crawl.new.folder; script = g.I.Source.seen c.args.script.now; out = g.O.Sink.seen c.args.out.now })
    c.in-Err.fault c.from.result c.from.ensures c.in-Err.ensures.exact (crawl_looks _ _ c.in-Err.fault c.crawl.result c.in-Err.is c.crawl.ensures.looks) refl refl true

pub returns-in-Err-clause-reason : goal.returns-in-Err-clause-reason
returns-in-Err-clause-reason g c = λ reading tells. crawl_reason c.in-Err.fault c.from.result c.from.ensures reading
