use Rattle.mt_report.specs.Listings.{graph_lines}
use Rattle.metro_program.specs.States.{opened}
use Rattle.metro_program.proofs.First.{keeps_built, keeps_refused}
use Rattle.metro_program.proofs.Fulfils.{only_refused}
use Rattle.metro_program.proofs.deps.list_files.Goals as goal

pub returns-in-Ok : goal.returns-in-Ok
returns-in-Ok g c = record {
  keeps = λ sure. keeps_built graph_lines (opened c.args.ask c.args.files) c.in-Ok.build c.list_build.result _ _ (c.in-Ok.ensures.exact sure) c.list_build.ensures.fulfils.keeps;
  only = c.list_build.ensures.fulfils.only;
  kept = c.first_build.ensures.kept;
}

pub returns-in-Err : goal.returns-in-Err
returns-in-Err g c = record {
  keeps = λ sure. keeps_refused graph_lines (opened c.args.ask c.args.files) c.in-Err.fault c.from.result (g.O.Sink.seen c.args.out.now) c.from.ensures (c.in-Err.ensures.exact sure);
  only = only_refused c.in-Err.fault c.from.result (g.O.Sink.seen c.args.out.now) c.from.ensures;
  kept = c.first_build.ensures.kept;
}
