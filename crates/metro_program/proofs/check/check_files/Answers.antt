use Rattle.std.proofs.Common.{subst}
use Rattle.metro_program.specs.Check.{checked_plan}
use Rattle.metro_program.specs.Progress.{Fulfils}
use Rattle.metro_program.proofs.Checks.{found_as}
use Rattle.metro_program.proofs.Fulfils.{fulfils_memory}
use Rattle.metro_program.proofs.check.check_files.Goals as goal

pub returns-in-Ok : goal.returns-in-Ok
returns-in-Ok g c = record {
  fulfils =
      subst (λ plan. Fulfils plan c.list_faults.result (g.O.Sink.seen c.args.out.now) (g.O.Sink.seen c.list_faults.new.out)) (found_as c.args.ask.now c.args.files.now c.in-Ok.found c.in-Ok.ensures.exact)
      c.list_faults.ensures.fulfils;
}

pub returns-in-Err : goal.returns-in-Err
returns-in-Err g c = record { fulfils = fulfils_memory (checked_plan c.args.ask.now c.args.files.now) (g.O.Sink.seen c.args.out.now) }
