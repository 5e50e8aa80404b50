use Rattle.std.specs.FinMap.{keys}
use Rattle.checks_live.proofs.Shapes.{covered_dead}
use Rattle.checks_live.proofs.trial.dead_in.Goals as goal

pub dead-requires-clause-cover : goal.dead-requires-clause-cover
dead-requires-clause-cover g c = covered_dead c.args.overlay.now c.args.shape.now.edges (keys c.args.shape.now.pins) c.args.candidates.now c.requires.edges c.requires.pins (c.in_ok-covered.ensures.covered c.if-not-covered.false)
