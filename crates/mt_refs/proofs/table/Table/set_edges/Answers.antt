use Rattle.std.proofs.Common.{◌≡◌, ℕ, get_or, ◌<◌, ◌≤◌, arith, ◌+◌, ◌^◌, length, set, sym, subst, ap, ◌∙◌}
use Rattle.std.specs.Vec.{with_items}
use Rattle.std.specs.FinMap.{get}
use Rattle.std.specs.Option.{IfSome}
use Rattle.std.proofs.lemmas.List.{with_items_is}
use Rattle.mt_refs.specs.Lists.{targets_in}
use Rattle.mt_refs.specs.Graphs.{edge_total}
use Rattle.mt_refs.specs.Patches.{with_list}
use Rattle.mt_refs.specs.Tables.{edges_of, into, size}
use Rattle.mt_refs.proofs.Rows.{times_at_most, small_after, total_rows, kept_after, graph_after, total_after}
use Rattle.mt_refs.proofs.table.Table.set_edges.Goals as goal

pub set_list-requires-clause-small : goal.set_list-requires-clause-small
set_list-requires-clause-small c =
    let ls = c.self.inside.lists.items in
    let below : c.args.node < length ls = let low : c.args.node < c.self.inside.spare = subst (λ a. c.args.node < a.spare) (sym c.self.view_is) c.requires.node in let room = c.self.invariant.roomy in omega arith in
    subst (λ xs. size (set xs c.args.node c.args.list) + 1 < 2 ^ 32) (sym c.as_mut_slice.ensures.value)
    (small_after ls c.args.node c.args.list below c.self.invariant.small
    (subst (λ k. IfSome c.args.list (λ es. k + length es + 1 < 2 ^ 32)) (ap (λ a. edge_total a.edges) (sym c.self.view_is) ∙ total_rows ls) c.requires.few))

pub set_list-requires-clause-room : goal.set_list-requires-clause-room
set_list-requires-clause-room c = λ q.
    let exact = c.self.invariant.exact q in
    let once = times_at_most q c.self.inside.pins c.self.invariant.ascending in
    let room : get_or c.self.inside.counts.items q 0 ≤ into q c.self.inside.lists.items + 1 = omega arith in
    subst (λ xs. get_or xs q 0 ≤ into q c.as_mut_slice.result.now + 1) (sym c.as_mut_slice-2.ensures.value)
    (subst (λ ls. get_or c.self.inside.counts.items q 0 ≤ into q ls + 1) (sym c.as_mut_slice.ensures.value) room)

pub invariant_of-self : goal.invariant_of-self
invariant_of-self c =
    let ls = c.self.inside.lists.items in
    let n = c.args.node in
    let o = c.args.list in
    let below : n < length ls = let low : n < c.self.inside.spare = subst (λ a. n < a.spare) (sym c.self.view_is) c.requires.node in let room = c.self.invariant.roomy in omega arith in
    let lists : (with_items c.self.inside.lists c.set_list.new.lists).items ≡ set ls n o =
    with_items_is c.self.inside.lists c.set_list.new.lists (c.set_list.auto.lists ∙ c.as_mut_slice.ensures.len) ∙ c.set_list.ensures.lists ∙ ap (λ xs. set xs n o) c.as_mut_slice.ensures.value in
    let counts : (with_items c.self.inside.counts c.set_list.new.counts).items ≡ c.set_list.new.counts =
    with_items_is c.self.inside.counts c.set_list.new.counts (c.set_list.auto.counts ∙ c.as_mut_slice-2.ensures.len) in
    let written : (with_items c.self.inside.lists c.set_list.new.lists).items ≡ c.set_list.new.lists =
    with_items_is c.self.inside.lists c.set_list.new.lists (c.set_list.auto.lists ∙ c.as_mut_slice.ensures.len) in
    let moved : (q : ℕ) → get_or (with_items c.self.inside.counts c.set_list.new.counts).items q 0 + into q ls ≡ get_or c.self.inside.counts.items q 0 + into q (with_items c.self.inside.lists c.set_list.new.lists).items = λ q.
    ap (λ xs. get_or xs q 0 + into q ls) counts
    ∙ ap (λ xs. get_or c.set_list.new.counts q 0 + into q xs) (sym c.as_mut_slice.ensures.value)
    ∙ c.set_list.ensures.counts q
    ∙ ap (λ xs. get_or xs q 0 + into q c.set_list.new.lists) c.as_mut_slice-2.ensures.value
    ∙ ap (λ xs. get_or c.self.inside.counts.items q 0 + into q xs) (sym written) in
    let small : size (set ls n o) + 1 < 2 ^ 32 = small_after ls n o below c.self.invariant.small
    (subst (λ k. IfSome o (λ es. k + length es + 1 < 2 ^ 32)) (ap (λ a. edge_total a.edges) (sym c.self.view_is) ∙ total_rows ls) c.requires.few) in
    kept_after ls _ c.self.inside.counts.items _ c.self.inside.pins c.self.inside.spare n o c.self.invariant (subst (λ a. n < a.spare) (sym c.self.view_is) c.requires.node) lists (ap (λ xs. length xs) counts ∙ c.set_list.auto.counts ∙ ap (λ xs. length xs) c.as_mut_slice-2.ensures.value) moved small

pub returns-clause-edges : goal.returns-clause-edges
returns-clause-edges c =
    let ls = c.self.inside.lists.items in
    let n = c.args.node in
    let o = c.args.list in
    let below : n < length ls = let low : n < c.self.inside.spare = subst (λ a. n < a.spare) (sym c.self.view_is) c.requires.node in let room = c.self.invariant.roomy in omega arith in
    let lists : (with_items c.self.inside.lists c.set_list.new.lists).items ≡ set ls n o =
    with_items_is c.self.inside.lists c.set_list.new.lists (c.set_list.auto.lists ∙ c.as_mut_slice.ensures.len) ∙ c.set_list.ensures.lists ∙ ap (λ xs. set xs n o) c.as_mut_slice.ensures.value in
    graph_after ls (with_items c.self.inside.lists c.set_list.new.lists).items c.self.inside.pins c.self.inside.spare n o below lists
    ∙ ap (λ a. record { edges = with_list a.edges n o; pins = a.pins; spare = a.spare }) c.self.view_is

pub returns-clause-total : goal.returns-clause-total
returns-clause-total c =
    let ls = c.self.inside.lists.items in
    let n = c.args.node in
    let o = c.args.list in
    let below : n < length ls = let low : n < c.self.inside.spare = subst (λ a. n < a.spare) (sym c.self.view_is) c.requires.node in let room = c.self.invariant.roomy in omega arith in
    let new = (with_items c.self.inside.lists c.set_list.new.lists).items in
    let lists : new ≡ set ls n o =
    with_items_is c.self.inside.lists c.set_list.new.lists (c.set_list.auto.lists ∙ c.as_mut_slice.ensures.len) ∙ c.set_list.ensures.lists ∙ ap (λ xs. set xs n o) c.as_mut_slice.ensures.value in
    subst (λ a. edge_total (edges_of new) + length (targets_in (get a.edges n)) ≡ edge_total a.edges + length (targets_in o)) c.self.view_is (total_after ls new n o below lists)
