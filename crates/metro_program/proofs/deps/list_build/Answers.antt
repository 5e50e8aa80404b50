use Rattle.std.proofs.Common.{Ok, sym, subst, arith}
use Rattle.mt_report.specs.Listings.{graph_lines}
use Rattle.metro_program.specs.First.{built_plan}
use Rattle.metro_program.specs.Progress.{Fulfils}
use Rattle.metro_program.proofs.Fulfils.{fulfils_sent}
use Rattle.metro_program.proofs.deps.list_build.Goals as goal

pub returns : goal.returns
returns g c = record {
  fulfils =
      subst (λ found. Fulfils (built_plan graph_lines (Ok c.args.build.now)) found (g.O.Sink.seen c.args.out.now) (g.O.Sink.seen c.write_graph.new.sink)) (sym c.sent.ensures.exact)
      (fulfils_sent (built_plan graph_lines (Ok c.args.build.now)) (g.O.Sink.seen c.args.out.now) (g.O.Sink.seen c.write_graph.new.sink) c.write_graph.result (omega arith) c.write_graph.ensures);
}
