use Rattle.metro_program.proofs.Bounded.{bounded_new}
use Rattle.metro_program.proofs.state.ReplayState.new.Goals as goal

pub invariant_of-result : goal.invariant_of-result
invariant_of-result c = bounded_new c.args.ask c.args.files _ _ c.requires.few c.new.ensures.empty c.new-2.ensures.empty
