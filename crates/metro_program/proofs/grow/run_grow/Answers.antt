use Rattle.std.proofs.Common.{refl, sym, subst, ◌∙◌}
use Rattle.mt_files.specs.Crawl.{crawled}
use Rattle.mt_report.specs.declared.outcome.Outcome.TheVariants.{NoMemory}
use Rattle.metro_program.specs.Grow.{edited_plan, grow_plan}
use Rattle.metro_program.specs.Plans.{taken_plan}
use Rattle.metro_program.specs.Progress.{Keeps}
use Rattle.metro_program.proofs.Grown.{memory_keeps}
use Rattle.metro_program.proofs.Owes.{unsnapped}
use Rattle.metro_program.proofs.grow.run_grow.Goals as goal

pub returns-in_default-clause-keeps : goal.returns-in_default-clause-keeps
returns-in_default-clause-keeps g c = λ sure. memory_keeps (grow_plan c.args.ask c.args.growth) NoMemory (g.O.Sink.seen c.args.out.now) refl

pub returns-in-Err-clause-keeps : goal.returns-in-Err-clause-keeps
returns-in-Err-clause-keeps g c = λ sure.
    let plan = taken_plan (edited_plan c.args.ask c.args.growth) in
    subst (λ files. Keeps (plan (crawled files)) c.from.result (g.O.Sink.seen c.args.out.now) (g.O.Sink.seen c.args.out.now)) (c.new.ensures.files ∙ c.in-Ok.ensures.files)
    (subst (λ found. Keeps (plan (crawled c.new.result)) found (g.O.Sink.seen c.args.out.now) (g.O.Sink.seen c.args.out.now)) (sym c.from.ensures)
    (unsnapped plan (λ fault. refl) c.new.result c.in-Err.fault (g.O.Sink.seen c.args.out.now) (c.in-Err.ensures.exact c.new.result refl)))
