use Rattle.std.proofs.Common.{◌≡◌, ◌++◌}
use Rattle.std.specs.FinMap.{entries}
use Rattle.mt_graph.specs.Members.{faults_of_all}
use Rattle.mt_graph.proofs.judgement.faults_of_members.Given as goal

abbrev pub invariant-loop-path : goal.invariant-loop-path
invariant-loop-path l = l.faults ++ faults_of_all l.path-iterator ≡ faults_of_all (entries l.members)
