use Rattle.mt_graph.proofs.Graphs.{fresh_edges}
use Rattle.mt_graph.proofs.law.law_of_graphs.Goals as goal

pub returns : goal.returns
returns c = record { edges = fresh_edges }
