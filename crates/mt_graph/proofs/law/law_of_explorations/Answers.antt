use Rattle.mt_graph.proofs.Explored.{each_seed, explored_whole}
use Rattle.mt_graph.proofs.Judged.{explored_faults, explored_graph}
use Rattle.mt_graph.proofs.law.law_of_explorations.Goals as goal

pub returns : goal.returns
returns c = record { whole = λ options files seeds known sources. explored_whole options files known seeds (each_seed files seeds sources); graph = explored_graph; faults = explored_faults }
