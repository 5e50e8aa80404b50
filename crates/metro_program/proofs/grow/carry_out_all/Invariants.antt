use Rattle.std.proofs.Common.{◌≡◌, Ok}
use Rattle.std.specs.List.{All, fold}
use Rattle.std.specs.Vec.Iter.{into_iter_items}
use Rattle.mt_script.specs.Commands.{IsCommand}
use Rattle.metro_program.specs.Grow.{then_state}
use Rattle.metro_program.proofs.grow.carry_out_all.Given as goal

abbrev pub invariant-loop-command : goal.invariant-loop-command
invariant-loop-command g l =
    (goal.iterator-loop-command g).can_next l.command-iterator ×
    (goal.iterator-loop-command g).is_finite l.command-iterator ×
    All IsCommand (into_iter_items l.command-iterator) ×
    (g.X.Explorer.sure l.initial.explorer → g.X.Explorer.sure l.explorer) ×
    (g.X.Explorer.sure l.initial.explorer → fold then_state (Ok l.state) (into_iter_items l.command-iterator) ≡ fold then_state (Ok l.initial.state) (into_iter_items l.initial.command-iterator))
