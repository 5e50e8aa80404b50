use Rattle.std.proofs.Common.{◌≤◌}
use Rattle.std.specs.List.{flat_map}
use Rattle.mt_revision.proofs.Writes.{IsWritten}
use Rattle.mt_report.specs.Listings.{graph_lines, module_line}
use Rattle.mt_report.proofs.listing.write_graph.Given as goal

abbrev pub invariant-loop-number : goal.invariant-loop-number
invariant-loop-number g l = record {
  written : IsWritten (g.S.Sink.seen l.initial.sink) (g.S.Sink.seen l.sink) (flat_map (λ e. module_line e.0 e.1) l.number-iterator) (graph_lines l.revision);
  later : (g.S.Sink.seen l.initial.sink).faults ≤ (g.S.Sink.seen l.sink).faults;
}
