use Rattle.std.proofs.Common.{◌≡◌}
use Rattle.std.specs.FinMap.{empty, entries}
use Rattle.mt_graph.specs.Members.{settled}
use Rattle.mt_graph.proofs.judgement.settle.Given as goal

abbrev pub invariant-loop-path : goal.invariant-loop-path
invariant-loop-path l = settled l.graph l.path-iterator ≡ settled empty (entries l.fn.members)
