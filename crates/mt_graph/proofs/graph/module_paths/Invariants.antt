use Rattle.std.proofs.Common.{◌≡◌, ◌++◌}
use Rattle.std.specs.FinMap as map
use Rattle.mt_graph.proofs.graph.module_paths.Given as goal

abbrev pub invariant-loop-path : goal.invariant-loop-path
invariant-loop-path l = l.paths ++ l.path-iterator ≡ map.keys l.graph
