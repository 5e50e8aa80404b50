use Rattle.std.proofs.Common.{◌≡◌, ◌⊎◌, Err, subst}
use Rattle.mt_files.specs.declared.build_fault.BuildFault.TheVariants.{NoMemory}
use Rattle.mt_fresh.proofs.FreshGraph.{founds_graph}
use Rattle.mt_fresh.proofs.JudgedGraphs.{graph_judged}
use Rattle.mt_fresh.proofs.fresh.traverse_by.Goals as goal

pub judge-requires : goal.judge-requires
judge-requires g c = record { ascending = c.in_ok-founds.ensures.whole.ascending }

pub returns : goal.returns
returns g c = record {
  exact = λ sure. subst (λ r. (c.judge.result ≡ Err NoMemory) ⊎ (c.judge.result ≡ r)) (founds_graph (record { options = c.args.options.now; entries = c.args.entries.now }) c.args.files.now c.in_ok-founds.founds (c.in_ok-founds.ensures.exact sure)) c.judge.ensures.exact;
  graph = graph_judged (record { options = c.args.options.now; entries = c.args.entries.now }) c.args.files.now c.in_ok-founds.founds c.in_ok-founds.ensures.whole c.judge.result c.judge.ensures.exact;
  kept = λ sure. c.in_ok-founds.ensures.kept sure;
}
