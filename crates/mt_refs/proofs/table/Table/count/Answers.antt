use Rattle.std.proofs.Common.{◌<◌, ◌≤◌, length, sym, subst, ap, ◌∙◌}
use Rattle.std.proofs.lemmas.List.{get_or_past}
use Rattle.mt_refs.specs.Graphs.{count}
use Rattle.mt_refs.proofs.Rows.{count_rows, in_range}
use Rattle.mt_refs.proofs.table.Table.count.Goals as goal

pub returns-then-node-len : goal.returns-then-node-len
returns-then-node-len c =
    let cs = c.self.inside.counts.items in
    let below : c.args.node < length cs = subst (λ n. c.args.node < n) (c.len.ensures ∙ c.self.inside.counts.ok.0) c.if-node-len.true in
    record {
      count = in_range cs c.args.node c.index.result.now 0 c.index.result.now below c.index.ensures
          ∙ c.self.invariant.exact c.args.node
          ∙ sym (count_rows c.self.inside.lists.items c.self.inside.pins c.self.inside.spare c.args.node c.self.invariant.ascending)
          ∙ ap (λ a. count a c.args.node) c.self.view_is;
    }

pub returns-else-node-len : goal.returns-else-node-len
returns-else-node-len c =
    let cs = c.self.inside.counts.items in
    let past : length cs ≤ c.args.node = subst (λ n. n ≤ c.args.node) (c.len.ensures ∙ c.self.inside.counts.ok.0) c.if-node-len.false in
    record {
      count = sym (get_or_past cs c.args.node 0 past)
          ∙ c.self.invariant.exact c.args.node
          ∙ sym (count_rows c.self.inside.lists.items c.self.inside.pins c.self.inside.spare c.args.node c.self.invariant.ascending)
          ∙ ap (λ a. count a c.args.node) c.self.view_is;
    }
