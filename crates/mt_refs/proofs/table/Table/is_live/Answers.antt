use Rattle.std.proofs.Common.{◌<◌, ◌≤◌, length, sym, subst, ap, ◌∙◌, None}
use Rattle.std.specs.Option.{is_some}
use Rattle.std.specs.FinMap.{contains_key}
use Rattle.std.proofs.lemmas.List.{get_or_past}
use Rattle.std.proofs.lemmas.Bool.{le-ltb}
use Rattle.mt_refs.proofs.Rows.{get_rows, in_range}
use Rattle.mt_refs.proofs.table.Table.is_live.Goals as goal

pub returns-then-node-len : goal.returns-then-node-len
returns-then-node-len c =
    let ls = c.self.inside.lists.items in
    let below : c.args.node < length ls = subst (λ n. c.args.node < n) (c.len.ensures ∙ c.self.inside.lists.ok.0) c.if-node-len.true in
    record {
      live = c.is_some.ensures ∙ ap (λ o. is_some o) (in_range ls c.args.node c.index.result.now None c.index.result.now below c.index.ensures ∙ sym (get_rows ls c.args.node))
          ∙ ap (λ a. contains_key a.edges c.args.node) c.self.view_is;
    }

pub returns-else-node-len : goal.returns-else-node-len
returns-else-node-len c =
    let ls = c.self.inside.lists.items in
    let past : length ls ≤ c.args.node = subst (λ n. n ≤ c.args.node) (c.len.ensures ∙ c.self.inside.lists.ok.0) c.if-node-len.false in
    record {
      live = le-ltb _ _ c.if-node-len.false ∙ sym (ap (λ o. is_some o) (get_rows ls c.args.node ∙ get_or_past ls c.args.node None past))
          ∙ ap (λ a. contains_key a.edges c.args.node) c.self.view_is;
    }
