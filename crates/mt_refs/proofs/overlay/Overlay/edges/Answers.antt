use Rattle.std.proofs.Common.{◌≡◌, Some, None, sym, subst, ap, ◌∙◌}
use Rattle.std.specs.List.{All}
use Rattle.mt_refs.specs.Graphs.{IsClosed, IsLive, edges_from}
use Rattle.mt_refs.proofs.Laid.{list_laid}
use Rattle.mt_refs.proofs.overlay.Overlay.edges.Goals as goal

pub returns-in-Some-clause-edges : goal.returns-in-Some-clause-edges
returns-in-Some-clause-edges g c =
    c.read.ensures.same ∙ c.as_slice.ensures.items
    ∙ sym (list_laid c.self.inside.lists c.self.inside.table.now.edges c.args.node (Some c.in-Some.list.now) c.in-Some.ensures.found)
    ∙ ap (λ a. edges_from a c.args.node) c.self.view_is

pub returns-in-Some-clause-closed : goal.returns-in-Some-clause-closed
returns-in-Some-clause-closed g c =
    let is : c.read.result.now ≡ edges_from c.args.self.now c.args.node =
    c.read.ensures.same ∙ c.as_slice.ensures.items
    ∙ sym (list_laid c.self.inside.lists c.self.inside.table.now.edges c.args.node (Some c.in-Some.list.now) c.in-Some.ensures.found)
    ∙ ap (λ a. edges_from a c.args.node) c.self.view_is in
    let closed : IsClosed c.args.self.now = subst IsClosed c.self.view_is c.self.invariant.closed in
    subst (All (IsLive c.args.self.now)) (sym is) (closed.edges c.args.node)

pub returns-in-None-clause-edges : goal.returns-in-None-clause-edges
returns-in-None-clause-edges g c =
    c.edges.ensures.edges
    ∙ sym (list_laid c.self.inside.lists c.self.inside.table.now.edges c.args.node None c.in-None.ensures.found)
    ∙ ap (λ a. edges_from a c.args.node) c.self.view_is

pub returns-in-None-clause-closed : goal.returns-in-None-clause-closed
returns-in-None-clause-closed g c =
    let is : c.edges.result.now ≡ edges_from c.args.self.now c.args.node =
    c.edges.ensures.edges
    ∙ sym (list_laid c.self.inside.lists c.self.inside.table.now.edges c.args.node None c.in-None.ensures.found)
    ∙ ap (λ a. edges_from a c.args.node) c.self.view_is in
    let closed : IsClosed c.args.self.now = subst IsClosed c.self.view_is c.self.invariant.closed in
    subst (All (IsLive c.args.self.now)) (sym is) (closed.edges c.args.node)
