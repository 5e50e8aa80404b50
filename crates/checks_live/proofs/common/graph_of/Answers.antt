use Rattle.std.proofs.Common.{◌∙◌, ap, sym, subst}
use Rattle.std.specs.FinMap.{keys}
use Rattle.std.specs.List.Sorted.{IsStrictlySortedBy}
use Rattle.std.specs.Ordering.{nat_cmp}
use Rattle.mt_containers.proofs.Tables.{keys_sorted}
use Rattle.mt_refs.specs.Graphs.{Graph}
use Rattle.mt_refs.specs.Patches.{nodes_of}
use Rattle.checks_live.proofs.Shapes.{closed_committed, edges_committed, few_committed}
use Rattle.checks_live.proofs.common.graph_of.Goals as goal

pub commit-requires-clause-ascending : goal.commit-requires-clause-ascending
commit-requires-clause-ascending c = subst (IsStrictlySortedBy nat_cmp) (sym (ap nodes_of c.in_ok-rows.ensures.rows)) (keys_sorted nat_cmp c.args.shape.now.edges)

pub commit-requires-clause-pins : goal.commit-requires-clause-pins
commit-requires-clause-pins c = subst (IsStrictlySortedBy nat_cmp) (sym c.in_ok-numbers.ensures.numbers) (keys_sorted nat_cmp c.args.shape.now.pins)

pub commit-requires-clause-closed : goal.commit-requires-clause-closed
commit-requires-clause-closed c =
    closed_committed c.reserve.new.self c.args.shape.now.edges c.in_ok-rows.field-0 c.in_ok-numbers.field-0 (keys c.args.shape.now.pins) c.new-2.result
    (c.reserve.ensures.edges ∙ ap (λ (g : Graph). g.edges) c.new-graph.ensures.empty) c.in_ok-rows.ensures.rows c.new-2.ensures.empty c.in_ok-numbers.ensures.numbers
    (c.is_closed.ensures.closed c.if-not-is_closed.false)

pub commit-requires-clause-few : goal.commit-requires-clause-few
commit-requires-clause-few c =
    few_committed c.reserve.new.self c.args.shape.now.edges c.in_ok-rows.field-0 c.in_ok-numbers.field-0 c.new-2.result
    (c.reserve.ensures.edges ∙ ap (λ (g : Graph). g.edges) c.new-graph.ensures.empty) c.in_ok-rows.ensures.rows c.new-2.ensures.empty
    (c.is_few.ensures.few c.if-not-is_few.false)

pub returns : goal.returns
returns c = record {
  edges =
      ap (λ (g : Graph). g.edges) c.commit.ensures.graph
      ∙ edges_committed c.args.shape.now.edges c.reserve.new.self.edges c.in_ok-rows.field-0 c.new-2.result
      (c.reserve.ensures.edges ∙ ap (λ (g : Graph). g.edges) c.new-graph.ensures.empty) c.in_ok-rows.ensures.rows c.new-2.ensures.empty;
}
