use Rattle.std.proofs.Common.{◌||◌, sym, ap, ◌∙◌}
use Rattle.std.specs.FinMap.{contains_key}
use Rattle.mt_refs.proofs.Laid.{live_laid}
use Rattle.mt_refs.proofs.overlay.Overlay.is_live.Goals as goal

pub returns-then-contains : goal.returns-then-contains
returns-then-contains c =
    let lists = c.self.inside.lists in
    let edges = c.self.inside.table.now.edges in
    let node = c.args.node in
    record { live = c.if-contains.true ∙ sym (live_laid lists edges node ∙ ap (λ b. b || contains_key edges node) (sym c.contains.ensures.has ∙ c.if-contains.true)) ∙ ap (λ a. contains_key a.edges node) c.self.view_is }

pub returns-else-contains : goal.returns-else-contains
returns-else-contains c =
    let lists = c.self.inside.lists in
    let edges = c.self.inside.table.now.edges in
    let node = c.args.node in
    record { live = c.is_live.ensures.live ∙ sym (live_laid lists edges node ∙ ap (λ b. b || contains_key edges node) (sym c.contains.ensures.has ∙ c.if-contains.false)) ∙ ap (λ a. contains_key a.edges node) c.self.view_is }
