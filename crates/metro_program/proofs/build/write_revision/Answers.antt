use Rattle.std.proofs.Common.{rules, ◌≡◌, subst}
use Rattle.std.specs.Option.{option_copied}
use Rattle.mt_io.specs.Seen.{Stopped}
use Rattle.mt_io.proofs.KeepsOthers.{on_err}
use Rattle.mt_io.proofs.Seen.{stopped_more}
use Rattle.mt_report.specs.Reports.{revision_line}
use Rattle.metro_program.specs.Replay.{whole_after}
use Rattle.metro_program.proofs.build.write_revision.Goals as goal

pub returns-in_err-send_all : goal.returns-in_err-send_all
returns-in_err-send_all g c =
    let same : c.as_bytes.result.now ≡ revision_line (option_copied c.args.before) c.args.revision.now = search rules in
    record {
      writes = record {
        all = search rules;
        stop = on_err _ (stopped_more (g.O.Sink.seen c.args.out.now) (g.O.Sink.seen c.send_all.new.sink) (revision_line (option_copied c.args.before) c.args.revision.now) (whole_after c.args.full c.args.revision.now)
            (subst (Stopped (g.O.Sink.seen c.args.out.now) (g.O.Sink.seen c.send_all.new.sink)) same c.in_err-send_all.ensures.stop));
        cause = search rules;
        later = search rules;
      };
    }
