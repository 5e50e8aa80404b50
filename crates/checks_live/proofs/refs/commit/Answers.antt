use Rattle.std.proofs.Common.{ap, sym, subst}
use Rattle.std.specs.FinMap.{keys}
use Rattle.std.specs.List.Sorted.{IsStrictlySortedBy}
use Rattle.std.specs.Ordering.{nat_cmp}
use Rattle.mt_containers.proofs.Tables.{keys_sorted}
use Rattle.mt_refs.specs.Patches.{nodes_of}
use Rattle.checks_live.proofs.Shapes.{closed_changed, few_changed, live_after}
use Rattle.checks_live.proofs.refs.commit.Goals as goal

pub commit-requires-clause-ascending : goal.commit-requires-clause-ascending
commit-requires-clause-ascending c = subst (IsStrictlySortedBy nat_cmp) (sym (ap nodes_of c.in_ok-rows.ensures.rows)) (keys_sorted nat_cmp c.args.change.now)

pub commit-requires-clause-pins : goal.commit-requires-clause-pins
commit-requires-clause-pins c = subst (IsStrictlySortedBy nat_cmp) (sym c.in_ok-numbers.ensures.numbers) (keys_sorted nat_cmp c.args.after.now.pins)

pub commit-requires-clause-dead : goal.commit-requires-clause-dead
commit-requires-clause-dead c = live_after c.args.graph.now c.reserve.new.self c.args.dead.now c.in_ok-list.field-0 c.reserve.ensures.edges c.in_ok-list.ensures.same c.requires.live

pub commit-requires-clause-closed : goal.commit-requires-clause-closed
commit-requires-clause-closed c =
    closed_changed c.args.graph.now c.reserve.new.self c.args.after.now.edges c.args.change.now c.in_ok-rows.field-0 c.in_ok-numbers.field-0 (keys c.args.after.now.pins) c.args.dead.now c.in_ok-list.field-0
    c.reserve.ensures.edges c.in_ok-list.ensures.same c.requires.merged c.in_ok-rows.ensures.rows c.in_ok-numbers.ensures.numbers (c.is_closed.ensures.closed c.if-not-is_closed.false)

pub commit-requires-clause-few : goal.commit-requires-clause-few
commit-requires-clause-few c =
    few_changed c.args.graph.now c.reserve.new.self c.args.after.now.edges c.args.change.now c.in_ok-rows.field-0 c.in_ok-numbers.field-0 c.args.dead.now c.in_ok-list.field-0
    c.reserve.ensures.edges c.in_ok-list.ensures.same c.requires.merged c.in_ok-rows.ensures.rows (c.is_few.ensures.few c.if-not-is_few.false)
