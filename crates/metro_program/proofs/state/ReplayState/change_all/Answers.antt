use Rattle.std.proofs.Common.{◌≡◌, ◌∷◌, Ok, Err, sym, subst, ap, ◌∙◌}
use Rattle.std.specs.List.{All, fold}
use Rattle.std.specs.Vec.Iter.{into_iter_items}
use Rattle.std.proofs.lemmas.List.Elements.{All-tail}
use Rattle.mt_files.specs.Changes.{IsChange}
use Rattle.metro_program.specs.Commands.{changed_by, then_changed}
use Rattle.metro_program.proofs.Moves.{change_ends, change_leads, Changes}
use Rattle.metro_program.proofs.state.ReplayState.change_all.Goals as goal

pub returns-in-Err-clause-exact : goal.returns-in-Err-clause-exact
returns-in-Err-clause-exact c =
    let whole : fold then_changed (Ok c.loop-change.self) (c.in-Some.change ∷ into_iter_items c.next.new.self) ≡ changed_by c.args.self.now c.args.changes =
    ap (fold then_changed (Ok c.loop-change.self)) (sym c.in-Some.ensures.steps.0) ∙ c.loop-change.invariant.3 ∙ ap (fold then_changed (Ok c.args.self.now)) (c.into_iter-change-iterator.ensures.into_iter_gives.0 ∙ c.into_vec-change-items.ensures.items) in
    subst (λ m. Changes m c.change.new.self (Err c.in-Err.outcome)) whole
    (change_ends c.loop-change.self c.change.new.self c.change.new.self c.in-Some.change (into_iter_items c.next.new.self) c.in-Err.outcome c.in-Err.ensures.exact)

pub loop-change-preserved : goal.loop-change-preserved
loop-change-preserved c = (
  tt,
  tt,
  All-tail IsChange c.in-Some.change (into_iter_items c.next.new.self) (subst (All IsChange) c.in-Some.ensures.steps.0 c.loop-change.invariant.2),
  change_leads c.loop-change.self c.change.new.self c.in-Some.change (into_iter_items c.next.new.self) c.in_default.ensures.exact
      ∙ ap (fold then_changed (Ok c.loop-change.self)) (sym c.in-Some.ensures.steps.0)
      ∙ c.loop-change.invariant.3,
)
