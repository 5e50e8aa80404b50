use Rattle.std.proofs.Common.{◌∙◌, ap, sym, subst}
use Rattle.std.specs.FinMap.{keys}
use Rattle.std.specs.List.Sorted.{IsStrictlySortedBy}
use Rattle.std.specs.Ordering.{nat_cmp}
use Rattle.mt_containers.proofs.Tables.{keys_sorted}
use Rattle.mt_refs.specs.Graphs.{Graph}
use Rattle.mt_refs.specs.Patches.{nodes_of}
use Rattle.checks_live.proofs.Shapes.{closed_overlaid, edges_overlaid, few_overlaid}
use Rattle.checks_live.proofs.common.overlay_of.Goals as goal

pub overlay-requires-clause-ascending : goal.overlay-requires-clause-ascending
overlay-requires-clause-ascending g c = subst (IsStrictlySortedBy nat_cmp) (sym (ap nodes_of c.in_ok-rows.ensures.rows)) (keys_sorted nat_cmp c.args.change.now)

pub overlay-requires-clause-pins : goal.overlay-requires-clause-pins
overlay-requires-clause-pins g c = subst (IsStrictlySortedBy nat_cmp) (sym c.in_ok-numbers.ensures.numbers) (keys_sorted nat_cmp c.args.shape.now.pins)

pub overlay-requires-clause-closed : goal.overlay-requires-clause-closed
overlay-requires-clause-closed g c =
    closed_overlaid c.args.graph.now c.args.shape.now.edges c.args.change.now c.in_ok-rows.field-0 c.in_ok-numbers.field-0 (keys c.args.shape.now.pins)
    c.requires.merged c.in_ok-rows.ensures.rows c.in_ok-numbers.ensures.numbers (c.is_closed.ensures.closed c.if-not-is_closed.false)

pub overlay-requires-clause-few : goal.overlay-requires-clause-few
overlay-requires-clause-few g c =
    few_overlaid c.args.graph.now c.args.shape.now.edges c.args.change.now c.in_ok-rows.field-0 c.in_ok-numbers.field-0
    c.requires.merged c.in_ok-rows.ensures.rows (c.is_few.ensures.few c.if-not-is_few.false)

pub returns-clause-edges : goal.returns-clause-edges
returns-clause-edges g c =
    ap (λ (x : Graph). x.edges) c.in_ok-overlay.ensures.graph
    ∙ edges_overlaid c.args.shape.now.edges c.args.change.now c.args.graph.now.edges c.in_ok-rows.field-0 c.requires.merged c.in_ok-rows.ensures.rows
