use Rattle.std.proofs.Common.{Ok, ap, sym, subst, ◌∙◌}
use Rattle.metro_program.specs.Grow.{end_plan}
use Rattle.metro_program.specs.Plans.{sent_outcome}
use Rattle.metro_program.specs.Progress.{Fulfils}
use Rattle.metro_program.proofs.Fulfils.{fulfils_sent}
use Rattle.metro_program.proofs.Grown.{ends_early}
use Rattle.metro_program.proofs.grow.end_grown.Goals as goal

pub returns : goal.returns
returns g c = record {
  fulfils =
      subst (λ found. Fulfils (end_plan c.args.growth (Ok c.args.state)) found (g.O.Sink.seen c.args.out.now) (g.O.Sink.seen c.write_line-written.new.out))
      (ap (λ x. sent_outcome x c.write_line-written.result) (sym c.end.ensures.exact) ∙ sym c.sent.ensures.exact)
      (fulfils_sent (end_plan c.args.growth (Ok c.args.state)) (g.O.Sink.seen c.args.out.now) (g.O.Sink.seen c.write_line-written.new.out) c.write_line-written.result (ends_early c.args.state) c.write_line-written.ensures.writes);
}
