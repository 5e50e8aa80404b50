use Rattle.mt_revision.proofs.Contents.{content_edges, content_names, content_path}
use Rattle.mt_revision.proofs.EdgesNamed.{content_graph}
use Rattle.mt_revision.proofs.law.law_of_slots.Goals as goal

pub returns : goal.returns
returns c = record { graph = content_graph; path = content_path; edges = content_edges; names = content_names }
