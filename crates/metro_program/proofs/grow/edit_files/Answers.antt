use Rattle.std.proofs.Common.{ap, sym, subst, ◌∙◌}
use Rattle.metro_program.specs.Grow.{edited_plan, end_plan, state_after}
use Rattle.metro_program.specs.Progress.{Keeps}
use Rattle.metro_program.proofs.Grown.{edited_from, ended_keeps, led_all, memory_keeps, rebuilt}
use Rattle.metro_program.proofs.grow.edit_files.Goals as goal

pub returns-in-Err-clause-keeps : goal.returns-in-Err-clause-keeps
returns-in-Err-clause-keeps g c = λ sure. memory_keeps (edited_plan c.args.ask c.args.growth c.args.files) c.in-Err.outcome (g.O.Sink.seen c.args.out.now) c.in-Err.ensures.lacks

pub returns-in-Ok-clause-keeps : goal.returns-in-Ok-clause-keeps
returns-in-Ok-clause-keeps g c = λ sure.
    let from = edited_from c.args.ask c.args.growth c.args.files c.args.commands c.new-state.result c.rebuild.new.state c.new-state.ensures.opened c.requires.grown (rebuilt c.new-state.result c.rebuild.new.state (c.in_default.ensures.exact sure)) in
    let led = led_all (state_after c.rebuild.new.state c.args.commands) c.carry_out_all.new.state (c.in-Ok.ensures.exact (c.rebuild.ensures.kept sure)) in
    subst (λ plan. Keeps plan c.end_grown.result (g.O.Sink.seen c.args.out.now) (g.O.Sink.seen c.end_grown.new.out)) (ap (end_plan c.args.growth) (sym led) ∙ sym from) c.end_grown.ensures.fulfils.keeps

pub returns-in-Err-carry_out_all-clause-keeps : goal.returns-in-Err-carry_out_all-clause-keeps
returns-in-Err-carry_out_all-clause-keeps g c = λ sure.
    let from = edited_from c.args.ask c.args.growth c.args.files c.args.commands c.new-state.result c.rebuild.new.state c.new-state.ensures.opened c.requires.grown (rebuilt c.new-state.result c.rebuild.new.state (c.in_default.ensures.exact sure)) in
    subst (λ plan. Keeps plan c.in-Err-carry_out_all.outcome (g.O.Sink.seen c.args.out.now) (g.O.Sink.seen c.args.out.now)) (sym from)
    (ended_keeps c.args.growth (state_after c.rebuild.new.state c.args.commands) c.carry_out_all.new.state c.in-Err-carry_out_all.outcome (g.O.Sink.seen c.args.out.now) (c.in-Err-carry_out_all.ensures.exact (c.rebuild.ensures.kept sure)))
