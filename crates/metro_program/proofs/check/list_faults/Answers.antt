use Rattle.std.proofs.Common.{rules, ◌≡◌, [], subst}
use Rattle.std.proofs.lemmas.Bool.{false≢true}
use Rattle.mt_io.specs.Seen.{WritesOrLacks}
use Rattle.mt_report.specs.Listings.{fault_lines, ok_line}
use Rattle.metro_program.proofs.Checks.{fulfils_clean, fulfils_faulty}
use Rattle.metro_program.proofs.check.list_faults.Goals as goal

pub returns-then-is_empty : goal.returns-then-is_empty
returns-then-is_empty g c =
    let none : c.args.found.now.list ≡ [] = search rules in
    record { fulfils = fulfils_clean (ok_line c.args.found.now.modules c.args.found.now.calls) c.args.found.now.list (g.O.Sink.seen c.args.out.now) (g.O.Sink.seen c.write_ok.new.sink) c.write_ok.result c.sent.result none c.sent.ensures.exact c.write_ok.ensures }

pub returns : goal.returns
returns g c = record {
  fulfils =
      fulfils_faulty (ok_line c.args.found.now.modules c.args.found.now.calls) c.args.found.now.list (g.O.Sink.seen c.args.out.now) (g.O.Sink.seen c.write_faults.new.sink) c.write_faults.result c.sent-2.result (λ e. false≢true (c.if-is_empty.ensures.empty.1 e)) c.sent-2.ensures.exact
      (subst (λ l. WritesOrLacks (g.O.Sink.seen c.args.out.now) (g.O.Sink.seen c.write_faults.new.sink) (fault_lines l) c.write_faults.result) c.as_slice.ensures.items c.write_faults.ensures);
}
