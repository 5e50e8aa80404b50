use Rattle.std.proofs.Common.{◌∙◌, map, ap, sym, subst}
use Rattle.std.specs.FinMap.{entries}
use Rattle.std.proofs.lemmas.Result.{IfOk-weaker}
use Rattle.mt_graph.specs.Explored.{IsExploration}
use Rattle.mt_graph.proofs.Explored.{each_seed, explored_whole}
use Rattle.mt_fresh.specs.Visits.{found_of}
use Rattle.mt_fresh.proofs.Visits.{visits_found}
use Rattle.mt_fresh.proofs.traversal.TraversalExplorer.explore.Goals as goal

pub returns-clause-whole : goal.returns-clause-whole
returns-clause-whole c =
    let sources = each_seed c.args.files.now c.args.seeds.now c.requires.sources in
    IfOk-weaker c.founds_of.result _ _ (λ founds h.
    subst (IsExploration c.args.options.now c.args.files.now c.args.seeds.now c.args.known.now)
    (sym (h ∙ ap (λ visits. map found_of (entries visits)) c.in_ok-visit_all.ensures.exact ∙ visits_found c.args.options.now c.args.files.now c.args.seeds.now c.args.known.now sources))
    (explored_whole c.args.options.now c.args.files.now c.args.known.now c.args.seeds.now sources))
    c.founds_of.ensures.exact

pub returns-clause-exact : goal.returns-clause-exact
returns-clause-exact c =
    let sources = each_seed c.args.files.now c.args.seeds.now c.requires.sources in
    IfOk-weaker c.founds_of.result _ _ (λ founds h sure.
    h ∙ ap (λ visits. map found_of (entries visits)) c.in_ok-visit_all.ensures.exact ∙ visits_found c.args.options.now c.args.files.now c.args.seeds.now c.args.known.now sources)
    c.founds_of.ensures.exact
