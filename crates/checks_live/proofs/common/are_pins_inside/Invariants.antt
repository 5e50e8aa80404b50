use Rattle.std.specs.FinMap.{keys}
use Rattle.checks_live.specs.Shapes.{AreInside}
use Rattle.checks_live.proofs.common.are_pins_inside.Given as goal

abbrev pub invariant-loop-pin : goal.invariant-loop-pin
invariant-loop-pin l = AreInside l.edges l.pin-iterator → AreInside l.edges (keys l.pins)
