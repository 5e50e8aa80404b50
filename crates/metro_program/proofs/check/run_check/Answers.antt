use Rattle.std.proofs.Common.{false, refl, subst, sym}
use Rattle.metro_program.specs.Check.{checked_plan}
use Rattle.metro_program.specs.Progress.{IsOwn}
use Rattle.metro_program.proofs.Owes.{crawl_causes, crawl_looks, crawl_own, crawl_takes, files_causes, files_owes, untaken_owes}
use Rattle.metro_program.proofs.check.run_check.Goals as goal

pub returns-in-Ok-clause-owes : goal.returns-in-Ok-clause-owes
returns-in-Ok-clause-owes g c = λ script.
    files_owes (checked_plan c.args.ask) c.in-Ok.files
    (record { folder = g.F.Folder.seen c.args.folder.now; script = script; out = g.O.Sink.seen c.args.out.now })
    (record { folder = g.F.Folder.seen c.crawl.new.folder; script = script; out = g.O.Sink.seen c.check_files.new.out })
    c.check_files.result (λ tree tells. crawl_takes tree c.in-Ok.files (c.in-Ok.ensures.exact tree tells)) c.check_files.ensures.fulfils.keeps

pub returns-in-Ok-clause-causes : goal.returns-in-Ok-clause-causes
returns-in-Ok-clause-causes g c = λ script.
    files_causes
    (record { folder = g.F.Folder.seen c.args.folder.now; script = script; out = g.O.Sink.seen c.args.out.now })
    (record { folder = g.F.Folder.seen c.crawl.new.folder; script = script; out = g.O.Sink.seen c.check_files.new.out })
    c.check_files.result c.check_files.ensures.fulfils.only c.crawl.ensures.looks.same c.crawl.ensures.looks.apart refl

pub returns-in-Ok-clause-own : goal.returns-in-Ok-clause-own
returns-in-Ok-clause-own g c = c.check_files.ensures.fulfils.only.own

pub returns-clause-owes : goal.returns-clause-owes
returns-clause-owes g c = λ script.
    untaken_owes
    (record { folder = g.F.Folder.seen c.args.folder.now; script = script; out = g.O.Sink.seen c.args.out.now })
    (record { folder = g.F.Folder.seen c.crawl.new.folder; script = script; out = g.O.Sink.seen c.args.out.now })
    c.in-Err.fault c.from.result c.from.ensures c.in-Err.ensures.exact (crawl_looks _ _ c.in-Err.fault c.crawl.result c.in-Err.is c.crawl.ensures.looks) refl refl (checked_plan c.args.ask)

pub returns-clause-causes : goal.returns-clause-causes
returns-clause-causes g c = λ script.
    crawl_causes
    (record { folder = g.F.Folder.seen c.args.folder.now; script = script; out = g.O.Sink.seen c.args.out.now })
    (record { folder = g.F.Folder.seen c.crawl.new.folder; script = script; out = g.O.Sink.seen c.args.out.now })
    c.in-Err.fault c.from.result c.from.ensures c.in-Err.ensures.exact (crawl_looks _ _ c.in-Err.fault c.crawl.result c.in-Err.is c.crawl.ensures.looks) refl refl false

pub returns-clause-own : goal.returns-clause-own
returns-clause-own g c = subst IsOwn (sym c.from.ensures) (crawl_own c.in-Err.fault)
