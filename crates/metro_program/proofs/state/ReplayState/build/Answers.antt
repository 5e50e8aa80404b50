use Rattle.std.proofs.Common.{◌≡◌, ◌∙◌, Ok, Err, ap, sym, subst}
use Rattle.mt_graph.specs.Graphs.{fresh_graph}
use Rattle.mt_fresh.specs.JudgedGraphs.{IsGraphOf}
use Rattle.metro_program.specs.Builds.{next_build}
use Rattle.metro_program.specs.States.{State}
use Rattle.metro_program.proofs.NextBuild.{IsBuild, graph_build, graph_fault}
use Rattle.metro_program.proofs.state.ReplayState.build.Goals as goal

pub build_of-requires-clause-graph : goal.build_of-requires-clause-graph
build_of-requires-clause-graph g c =
    let s : State = record { ask = c.self.inside.ask; files = c.self.inside.files; journal = c.self.inside.journal; numbering = c.self.inside.numbering; latest = c.self.inside.latest; refusal = c.self.inside.refusal } in
    let e : s ≡ c.args.self.now = c.self.view_is in
    subst (λ x. IsGraphOf x.ask x.files c.in-Ok.graph) e c.in-Ok.ensures.graph

pub returns-in_ok-build_of-in-Ok : goal.returns-in_ok-build_of-in-Ok
returns-in_ok-build_of-in-Ok g c =
    let s : State = record { ask = c.self.inside.ask; files = c.self.inside.files; journal = c.self.inside.journal; numbering = c.self.inside.numbering; latest = c.self.inside.latest; refusal = c.self.inside.refusal } in
    let e : s ≡ c.args.self.now = c.self.view_is in
    record {
      exact = λ sure.
          subst (λ x. IsBuild x (Ok c.in_ok-build_of-in-Ok.field-0)) e
          (graph_build s c.in-Ok.graph c.in_ok-build_of-in-Ok.field-0 (c.in-Ok.ensures.exact sure) (λ fresh. c.in_ok-build_of-in-Ok.ensures.exact (subst (λ x. fresh_graph x.ask x.files ≡ Ok c.in-Ok.graph) e fresh) ∙ ap next_build (sym e)));
      next = c.in_ok-build_of-in-Ok.ensures.next;
      kept = c.build_graph.ensures.kept;
    }

pub returns-in-Err : goal.returns-in-Err
returns-in-Err g c =
    let s : State = record { ask = c.self.inside.ask; files = c.self.inside.files; journal = c.self.inside.journal; numbering = c.self.inside.numbering; latest = c.self.inside.latest; refusal = c.self.inside.refusal } in
    let e : s ≡ c.args.self.now = c.self.view_is in
    record {
      exact = λ sure. subst (λ x. IsBuild x (Err c.in-Err.fault)) e (graph_fault s c.in-Err.fault (c.in-Err.ensures.exact sure));
      next = tt;
      kept = c.build_graph.ensures.kept;
    }
