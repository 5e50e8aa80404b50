use Rattle.std.proofs.Common.{Result, Ok, Err, ap, ◌∙◌}
use Rattle.std.specs.Prelude.{OnErr}
use Rattle.mt_refs.proofs.Rows.{same_edges}
use Rattle.mt_refs.proofs.table.Table.reserve.Goals as goal

on_err : {X E : Type 0} (P : Type 0) (r : Result X E) → P → OnErr r P
on_err P (Ok x) p = tt
on_err P (Err e) p = p

pub returns-in_err-grow-clause-edges : goal.returns-in_err-grow-clause-edges
returns-in_err-grow-clause-edges c = same_edges c.self.inside.lists.items c.grow.new.lists.items c.in_err-grow.ensures.lists ∙ ap (λ a. a.edges) c.self.view_is

pub returns-in_err-grow-clause-err : goal.returns-in_err-grow-clause-err
returns-in_err-grow-clause-err c = on_err _ c.from_residual.result
    (ap (λ m. record { edges = m; pins = c.self.inside.pins; spare = c.self.inside.spare }) (same_edges c.self.inside.lists.items c.grow.new.lists.items c.in_err-grow.ensures.lists) ∙ c.self.view_is)

pub returns-clause-edges : goal.returns-clause-edges
returns-clause-edges c = same_edges c.self.inside.lists.items c.grow.new.lists.items c.in_ok-grow.ensures.lists ∙ ap (λ a. a.edges) c.self.view_is
