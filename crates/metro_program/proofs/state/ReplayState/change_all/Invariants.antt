use Rattle.std.proofs.Common.{◌≡◌, Ok}
use Rattle.std.specs.List.{All, fold}
use Rattle.std.specs.Vec.Iter.{into_iter_items}
use Rattle.mt_files.specs.Changes.{IsChange}
use Rattle.metro_program.specs.Commands.{then_changed}
use Rattle.metro_program.proofs.state.ReplayState.change_all.Given as goal

abbrev pub invariant-loop-change : goal.invariant-loop-change
invariant-loop-change l =
    (goal.iterator-loop-change).can_next l.change-iterator ×
    (goal.iterator-loop-change).is_finite l.change-iterator ×
    All IsChange (into_iter_items l.change-iterator) ×
    (fold then_changed (Ok l.self) (into_iter_items l.change-iterator) ≡ fold then_changed (Ok l.initial.self) (into_iter_items l.initial.change-iterator))
