use Rattle.std.proofs.Common.{◌≡◌, ◌∷◌, Ok, Err, sym, subst, ap, ◌∙◌}
use Rattle.std.specs.List.{All, fold}
use Rattle.std.specs.Vec.Iter.{into_iter_items}
use Rattle.std.proofs.lemmas.List.Elements.{All-tail}
use Rattle.mt_script.specs.Commands.{IsCommand}
use Rattle.metro_program.specs.Grow.{state_after, then_state}
use Rattle.metro_program.proofs.Grown.{state_ends, state_leads}
use Rattle.metro_program.proofs.Moves.{Changes}
use Rattle.metro_program.proofs.grow.carry_out_all.Goals as goal

pub returns-in-Err-clause-exact : goal.returns-in-Err-clause-exact
returns-in-Err-clause-exact g c = λ sure.
    let whole : fold then_state (Ok c.loop-command.state) (c.in-Some.command ∷ into_iter_items c.next.new.self) ≡ state_after c.args.state.now c.args.commands =
    ap (fold then_state (Ok c.loop-command.state)) (sym c.in-Some.ensures.steps.0) ∙ c.loop-command.invariant.4 sure ∙ ap (fold then_state (Ok c.args.state.now)) (c.into_iter-command-iterator.ensures.into_iter_gives.0 ∙ c.into_vec-command-items.ensures.items) in
    subst (λ m. Changes m c.carry_out.new.state (Err c.in-Err.outcome)) whole
    (state_ends c.loop-command.state c.carry_out.new.state c.carry_out.new.state c.in-Some.command (into_iter_items c.next.new.self) c.in-Err.outcome (c.in-Err.ensures.exact (c.loop-command.invariant.3 sure)))

pub returns-in-Err-clause-kept : goal.returns-in-Err-clause-kept
returns-in-Err-clause-kept g c = λ sure. c.carry_out.ensures.kept (c.loop-command.invariant.3 sure)

pub loop-command-preserved : goal.loop-command-preserved
loop-command-preserved g c = (
  tt,
  tt,
  All-tail IsCommand c.in-Some.command (into_iter_items c.next.new.self) (subst (All IsCommand) c.in-Some.ensures.steps.0 c.loop-command.invariant.2),
  λ sure. c.carry_out.ensures.kept (c.loop-command.invariant.3 sure),
  λ sure.
      state_leads c.loop-command.state c.carry_out.new.state c.in-Some.command (into_iter_items c.next.new.self) (c.in_default.ensures.exact (c.loop-command.invariant.3 sure))
      ∙ ap (fold then_state (Ok c.loop-command.state)) (sym c.in-Some.ensures.steps.0)
      ∙ c.loop-command.invariant.4 sure,
)
