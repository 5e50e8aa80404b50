use Rattle.std.proofs.Common.{◌≡◌, ◌≤◌, sym, subst, get_or, length, ap, ◌∙◌, arith}
use Rattle.std.specs.Vec.{with_items}
use Rattle.std.proofs.lemmas.List.{with_items_is}
use Rattle.mt_refs.specs.Lists.{times}
use Rattle.mt_refs.proofs.Sums.{into_le_size}
use Rattle.mt_refs.proofs.Rows.{times_at_most}
use Rattle.mt_refs.proofs.table.Table.set_pins.Goals as goal

pub recount-requires-clause-counted : goal.recount-requires-clause-counted
recount-requires-clause-counted c = λ q.
    let exact = c.self.invariant.exact q in
    let counts : get_or c.as_mut_slice.result.now q 0 ≡ get_or c.self.inside.counts.items q 0 = ap (λ xs. get_or xs q 0) c.as_mut_slice.ensures.value in
    let old : times q c.as_slice.result.now ≡ times q c.self.inside.pins = ap (times q) c.as_slice.ensures.items in
    omega arith

pub recount-requires-clause-room : goal.recount-requires-clause-room
recount-requires-clause-room c = λ q.
    let exact = c.self.invariant.exact q in
    let most = into_le_size q c.self.inside.lists.items in
    let small = c.self.invariant.small in
    let once = times_at_most q c.args.pins c.requires.ascending in
    let counts : get_or c.as_mut_slice.result.now q 0 ≡ get_or c.self.inside.counts.items q 0 = ap (λ xs. get_or xs q 0) c.as_mut_slice.ensures.value in
    let old : times q c.as_slice.result.now ≡ times q c.self.inside.pins = ap (times q) c.as_slice.ensures.items in
    let new : times q c.as_slice-2.result.now ≡ times q c.args.pins = ap (times q) c.as_slice-2.ensures.items in
    omega arith

pub invariant_of-self : goal.invariant_of-self
invariant_of-self c =
    let cs = c.self.inside.counts.items in
    let counts : (with_items c.self.inside.counts c.recount.new.counts).items ≡ c.recount.new.counts =
    with_items_is c.self.inside.counts c.recount.new.counts (c.recount.auto.counts ∙ c.as_mut_slice.ensures.len) in
    record {
      roomy = c.self.invariant.roomy;
      above = c.self.invariant.above;
      counted = subst (λ k. length c.self.inside.lists.items ≤ k) (sym (ap (λ xs. length xs) counts ∙ c.recount.auto.counts ∙ ap (λ xs. length xs) c.as_mut_slice.ensures.value)) c.self.invariant.counted;
      ascending = c.requires.ascending;
      small = c.self.invariant.small;
      exact = λ q.
          let exact = c.self.invariant.exact q in
          let moved = c.recount.ensures.moved q in
          let written : get_or (with_items c.self.inside.counts c.recount.new.counts).items q 0 ≡ get_or c.recount.new.counts q 0 = ap (λ xs. get_or xs q 0) counts in
          let before : get_or c.as_mut_slice.result.now q 0 ≡ get_or cs q 0 = ap (λ xs. get_or xs q 0) c.as_mut_slice.ensures.value in
          let old : times q c.as_slice.result.now ≡ times q c.self.inside.pins = ap (times q) c.as_slice.ensures.items in
          let new : times q c.as_slice-2.result.now ≡ times q c.args.pins = ap (times q) c.as_slice-2.ensures.items in
          omega arith;
    }
