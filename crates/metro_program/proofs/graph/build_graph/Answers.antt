use Rattle.metro_program.proofs.Traverses.{judged_as, traverses_as}
use Rattle.metro_program.proofs.graph.build_graph.Goals as goal

pub returns : goal.returns
returns g c = record {
  exact = λ sure. traverses_as c.args.ask.now c.options.result.now c.entries.result.now c.args.files.now c.traverse_by.result c.options.ensures.options c.entries.ensures.entries (c.traverse_by.ensures.exact sure);
  graph = judged_as c.args.ask.now c.options.result.now c.entries.result.now c.args.files.now c.traverse_by.result c.options.ensures.options c.entries.ensures.entries c.traverse_by.ensures.graph;
  entries = c.entries.ensures.are;
  kept = c.traverse_by.ensures.kept;
}
