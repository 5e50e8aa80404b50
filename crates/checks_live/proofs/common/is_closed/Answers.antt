use Rattle.std.specs.FinMap.{keys}
use Rattle.checks_live.proofs.Shapes.{closed_shown}
use Rattle.checks_live.proofs.common.is_closed.Goals as goal

pub returns : goal.returns
returns c = record { closed = λ t spare. closed_shown c.args.shape.now.edges (keys c.args.shape.now.pins) spare (c.are_lists_inside.ensures.inside c.if-not-are_lists_inside.false) (c.are_pins_inside.ensures.inside t) }
