use Rattle.std.proofs.Common.{◌∙◌, ap, subst}
use Rattle.std.specs.FinMap.{empty}
use Rattle.std.proofs.lemmas.Result.{IfOk-weaker}
use Rattle.mt_graph.specs.Explored.{IsExploration, explored}
use Rattle.mt_fresh.proofs.FreshGraph.{seeds_are_sources}
use Rattle.mt_fresh.proofs.fresh.explore_entries.Goals as goal

pub explore-requires : goal.explore-requires
explore-requires g c = record { sources = seeds_are_sources c.args.files.now c.args.entries.now c.as_slice.result.now (c.as_slice.ensures.items ∙ c.in_ok-sources.ensures.exact) }

pub returns-clause-exact : goal.returns-clause-exact
returns-clause-exact g c = λ sure.
    IfOk-weaker c.explore-2.result _ _ (λ founds h.
    h sure ∙ ap (λ seeds. explored c.args.options.now c.args.files.now seeds c.new.result) (c.as_slice.ensures.items ∙ c.in_ok-sources.ensures.exact) ∙ ap (explored c.args.options.now c.args.files.now _) c.new.ensures.empty)
    c.explore-2.ensures.exact

pub returns-clause-whole : goal.returns-clause-whole
returns-clause-whole g c =
    IfOk-weaker c.explore-2.result _ _ (λ founds h.
    subst (λ seeds. IsExploration c.args.options.now c.args.files.now seeds empty founds) (c.as_slice.ensures.items ∙ c.in_ok-sources.ensures.exact)
    (subst (λ known. IsExploration c.args.options.now c.args.files.now c.as_slice.result.now known founds) c.new.ensures.empty h))
    c.explore-2.ensures.whole
