use Rattle.std.proofs.Common.{◌≡◌, ◌++◌}
use Rattle.mt_graph.specs.Judged.{link_faults}
use Rattle.mt_graph.proofs.LinkFaults.{faults_from}
use Rattle.mt_graph.proofs.judgement.faults_of_links.Given as goal

abbrev pub invariant-loop-i : goal.invariant-loop-i
invariant-loop-i l = l.faults ++ faults_from l.path l.output l.links l.i ≡ link_faults l.path l.output l.links
