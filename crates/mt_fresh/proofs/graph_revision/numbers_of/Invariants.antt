use Rattle.std.proofs.Common.{◌≡◌, map, take}
use Rattle.mt_revision.specs.Numberings.{number_in}
use Rattle.mt_fresh.proofs.graph_revision.numbers_of.Given as goal

abbrev pub invariant-loop-path : goal.invariant-loop-path
invariant-loop-path l = l.numbers ≡ map (number_in l.numbering) (take l.path-index l.paths)
