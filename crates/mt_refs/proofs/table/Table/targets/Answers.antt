use Rattle.std.proofs.Common.{◌<◌, ◌≤◌, length, sym, subst, ap, ◌∙◌, None}
use Rattle.std.proofs.lemmas.List.{get_or_past}
use Rattle.mt_refs.specs.Lists.{targets_in}
use Rattle.mt_refs.specs.Graphs.{edges_from}
use Rattle.mt_refs.proofs.Rows.{in_range, get_rows}
use Rattle.mt_refs.proofs.table.Table.targets.Goals as goal

pub returns-then-node-len : goal.returns-then-node-len
returns-then-node-len c =
    let ls = c.self.inside.lists.items in
    let below : c.args.node < length ls = subst (λ n. c.args.node < n) (c.len.ensures ∙ c.self.inside.lists.ok.0) c.if-node-len.true in
    record {
      targets = c.targets_of.ensures.targets
          ∙ ap targets_in (in_range ls c.args.node c.index.result.now None c.index.result.now below c.index.ensures ∙ sym (get_rows ls c.args.node))
          ∙ ap (λ a. edges_from a c.args.node) c.self.view_is;
    }

pub returns-else-node-len : goal.returns-else-node-len
returns-else-node-len c =
    let ls = c.self.inside.lists.items in
    let past : length ls ≤ c.args.node = subst (λ n. n ≤ c.args.node) (c.len.ensures ∙ c.self.inside.lists.ok.0) c.if-node-len.false in
    record {
      targets = ap targets_in (sym (get_or_past ls c.args.node None past) ∙ sym (get_rows ls c.args.node))
          ∙ ap (λ a. edges_from a c.args.node) c.self.view_is;
    }
