use Rattle.std.proofs.Common.{rules, ◌≡◌, Ok, option_copied, ap, sym, subst, ◌∙◌}
use Rattle.std.specs.FinMap.{keys}
use Rattle.mt_graph.specs.Graphs.{fresh_graph}
use Rattle.mt_fresh.specs.GraphRevisions.{modules_of_graph}
use Rattle.mt_fresh.specs.JudgedGraphs.{IsGraphOf}
use Rattle.mt_revision.specs.Numberings.{extended}
use Rattle.metro_program.specs.Builds.{IsNext, next_build, numbering_after}
use Rattle.metro_program.specs.States.{State}
use Rattle.metro_program.proofs.NextBuild.{all_have, build_is, few_numbers, few_paths, next_is, numbering_is}
use Rattle.metro_program.proofs.state.ReplayState.build_of.Goals as goal

pub extend-requires-clause-few : goal.extend-requires-clause-few
extend-requires-clause-few c =
    let s : State = record { ask = c.self.inside.ask; files = c.self.inside.files; journal = c.self.inside.journal; numbering = c.self.inside.numbering; latest = c.self.inside.latest; refusal = c.self.inside.refusal } in
    let e : s ≡ c.args.self.now = c.self.view_is in
    few_paths s c.self.invariant c.args.graph (subst (λ x. IsGraphOf x.ask x.files c.args.graph) (sym e) c.requires.graph) c.len-changes.ensures.few c.entries.result.now c.entries.ensures.are c.entries.ensures.entries

pub revision_of_graph-requires-clause-few : goal.revision_of_graph-requires-clause-few
revision_of_graph-requires-clause-few c =
    let s : State = record { ask = c.self.inside.ask; files = c.self.inside.files; journal = c.self.inside.journal; numbering = c.self.inside.numbering; latest = c.self.inside.latest; refusal = c.self.inside.refusal } in
    let e : s ≡ c.args.self.now = c.self.view_is in
    let is : IsGraphOf s.ask s.files c.args.graph = subst (λ x. IsGraphOf x.ask x.files c.args.graph) (sym e) c.requires.graph in
    few_numbers s c.self.invariant c.args.graph is c.len-changes.ensures.few c.in_ok-numbering.numbering c.entries.ensures.are
    (c.in_ok-numbering.ensures.exact ∙ ap (λ x. extended s.numbering x (keys c.args.graph)) c.entries.ensures.entries)

pub returns : goal.returns
returns c =
    let s : State = record { ask = c.self.inside.ask; files = c.self.inside.files; journal = c.self.inside.journal; numbering = c.self.inside.numbering; latest = c.self.inside.latest; refusal = c.self.inside.refusal } in
    let e : s ≡ c.args.self.now = c.self.view_is in
    let is : IsGraphOf s.ask s.files c.args.graph = subst (λ x. IsGraphOf x.ask x.files c.args.graph) (sym e) c.requires.graph in
    let numbers : c.in_ok-numbering.numbering ≡ extended s.numbering s.ask.entries (keys c.args.graph) = c.in_ok-numbering.ensures.exact ∙ ap (λ x. extended s.numbering x (keys c.args.graph)) c.entries.ensures.entries in
    let latest : option_copied c.as_ref.result ≡ s.latest = search rules in
    let changes : c.len-changes.result ≡ _ = c.len-changes.ensures.len in
    let ask : s.ask ≡ record { options = c.options.result.now; entries = c.entries-2.result.now } = ap (λ o. record { options = o; entries = s.ask.entries }) (sym c.options.ensures.options) ∙ ap (λ es. record { options = c.options.result.now; entries = es }) (sym c.entries-2.ensures.entries) in
    record {
      next =
          subst (λ x. IsNext x (record { numbering = c.in_ok-numbering.numbering; revision = c.in_ok-revision.revision })) e
          (next_is s c.self.invariant c.args.graph is c.len-changes.ensures.few c.in_ok-numbering.numbering c.entries-2.result.now c.options.result.now (modules_of_graph c.in_ok-numbering.numbering c.args.graph) c.in_ok-revision.revision
          (option_copied c.as_ref.result) c.len-changes.result c.entries.ensures.are numbers latest changes c.options.ensures.options c.entries-2.ensures.entries c.in_ok-revision.ensures.made c.in_ok-revision.ensures.exact);
      exact = λ graph_is.
          let fresh : fresh_graph s.ask s.files ≡ Ok c.args.graph = subst (λ x. fresh_graph x.ask x.files ≡ Ok c.args.graph) (sym e) graph_is in
          let after : c.in_ok-numbering.numbering ≡ numbering_after s = numbering_is s c.args.graph c.in_ok-numbering.numbering fresh numbers in
          build_is s c.in_ok-numbering.numbering c.in_ok-revision.revision (option_copied c.as_ref.result) c.len-changes.result after latest changes
          (c.in_ok-revision.ensures.fresh s.ask s.files ask fresh (all_have s c.in_ok-numbering.numbering after))
          ∙ ap next_build e;
    }
