use Rattle.std.proofs.Common.{false, refl, subst, sym}
use Rattle.mt_revision.specs.Revisions.{bundle_of}
use Rattle.metro_program.specs.First.{snapshot_plan}
use Rattle.metro_program.specs.Progress.{IsOwn}
use Rattle.metro_program.proofs.Owes.{crawl_causes, crawl_looks, crawl_own, crawl_takes, files_causes, files_owes, untaken_owes}
use Rattle.metro_program.proofs.bundle.run_bundle.Goals as goal

pub returns-in-Ok-clause-owes : goal.returns-in-Ok-clause-owes
returns-in-Ok-clause-owes g c = λ sure script.
    files_owes (snapshot_plan bundle_of c.args.ask) c.in-Ok.files
    (record { folder = g.F.Folder.seen c.args.folder.now; script = script; out = g.O.Sink.seen c.args.out.now })
    (record { folder = g.F.Folder.seen c.crawl.new.folder; script = script; out = g.O.Sink.seen c.bundle_files.new.out })
    c.bundle_files.result (λ tree tells. crawl_takes tree c.in-Ok.files (c.in-Ok.ensures.exact tree tells)) (c.bundle_files.ensures.keeps sure)

pub returns-in-Ok-clause-causes : goal.returns-in-Ok-clause-causes
returns-in-Ok-clause-causes g c = λ script.
    files_causes
    (record { folder = g.F.Folder.seen c.args.folder.now; script = script; out = g.O.Sink.seen c.args.out.now })
    (record { folder = g.F.Folder.seen c.crawl.new.folder; script = script; out = g.O.Sink.seen c.bundle_files.new.out })
    c.bundle_files.result c.bundle_files.ensures.only c.crawl.ensures.looks.same c.crawl.ensures.looks.apart refl

pub returns-in-Ok-clause-own : goal.returns-in-Ok-clause-own
returns-in-Ok-clause-own g c = c.bundle_files.ensures.only.own

pub returns-in-Err-clause-owes : goal.returns-in-Err-clause-owes
returns-in-Err-clause-owes g c = λ sure script.
    untaken_owes
    (record { folder = g.F.Folder.seen c.args.folder.now; script = script; out = g.O.Sink.seen c.args.out.now })
    (record { folder = g.F.Folder.seen c.crawl.new.folder; script = script; out = g.O.Sink.seen c.args.out.now })
    c.in-Err.fault c.from.result c.from.ensures c.in-Err.ensures.exact (crawl_looks _ _ c.in-Err.fault c.crawl.result c.in-Err.is c.crawl.ensures.looks) refl refl (snapshot_plan bundle_of c.args.ask)

pub returns-in-Err-clause-causes : goal.returns-in-Err-clause-causes
returns-in-Err-clause-causes g c = λ script.
    crawl_causes
    (record { folder = g.F.Folder.seen c.args.folder.now; script = script; out = g.O.Sink.seen c.args.out.now })
    (record { folder = g.F.Folder.seen c.crawl.new.folder; script = script; out = g.O.Sink.seen c.args.out.now })
    c.in-Err.fault c.from.result c.from.ensures c.in-Err.ensures.exact (crawl_looks _ _ c.in-Err.fault c.crawl.result c.in-Err.is c.crawl.ensures.looks) refl refl false

pub returns-in-Err-clause-own : goal.returns-in-Err-clause-own
returns-in-Err-clause-own g c = subst IsOwn (sym c.from.ensures) (crawl_own c.in-Err.fault)
