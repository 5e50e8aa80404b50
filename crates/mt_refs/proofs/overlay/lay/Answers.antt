use Rattle.std.proofs.Common.{◌≡◌, ◌<◌, ◌≤◌, ◌+◌, ◌^◌, sym, subst, ap, ◌∙◌}
use Rattle.mt_refs.specs.Lists.{times}
use Rattle.mt_refs.specs.Graphs.{IsClosed, count}
use Rattle.mt_refs.specs.Patches.{sum_now, sum_then}
use Rattle.mt_refs.specs.Overlays.{count_in}
use Rattle.mt_refs.proofs.Laid.{count_laid, filled_fits, laid_is, pins_counted, pins_fit}
use Rattle.mt_refs.proofs.overlay.lay.Goals as goal

pub count_lists-requires : goal.count_lists-requires
count_lists-requires g c = record {
  room = λ n.
      let graph = c.args.table.now in
      let set = c.args.patch.set in
      let a = count_in c.in_ok-counts.counts graph n in
      let without : a + sum_now (times n) graph.edges set ≡ count graph n = ap (λ s. a + sum_now (times n) graph.edges s) (sym c.as_slice.ensures.items) ∙ c.in_ok-counts.ensures.counts n in
      subst (λ s. a + sum_then (times n) s < 2 ^ 32) (sym c.as_slice-2.ensures.items)
      (filled_fits graph set n a c.requires.ascending c.pins-before.ensures.ascending without c.requires.few);
}

pub recount-requires-clause-counted : goal.recount-requires-clause-counted
recount-requires-clause-counted g c = λ n.
    let graph = c.args.table.now in
    let set = c.args.patch.set in
    let a = count_in c.in_ok-counts.counts graph n in
    let b = count_in c.count_lists.new.counts graph n in
    let without : a + sum_now (times n) graph.edges set ≡ count graph n = ap (λ s. a + sum_now (times n) graph.edges s) (sym c.as_slice.ensures.items) ∙ c.in_ok-counts.ensures.counts n in
    let with_lists : b ≡ a + sum_then (times n) set = c.in_ok-count_lists.ensures.up n ∙ ap (λ s. a + sum_then (times n) s) c.as_slice-2.ensures.items in
    subst (λ p. times n p ≤ b) (sym c.pins-before.ensures.pins)
    (pins_counted graph set n a c.requires.ascending c.pins-before.ensures.ascending without b c.args.patch.pins c.requires.pins with_lists)

pub recount-requires-clause-room : goal.recount-requires-clause-room
recount-requires-clause-room g c = λ n.
    let graph = c.args.table.now in
    let set = c.args.patch.set in
    let a = count_in c.in_ok-counts.counts graph n in
    let b = count_in c.count_lists.new.counts graph n in
    let without : a + sum_now (times n) graph.edges set ≡ count graph n = ap (λ s. a + sum_now (times n) graph.edges s) (sym c.as_slice.ensures.items) ∙ c.in_ok-counts.ensures.counts n in
    let with_lists : b ≡ a + sum_then (times n) set = c.in_ok-count_lists.ensures.up n ∙ ap (λ s. a + sum_then (times n) s) c.as_slice-2.ensures.items in
    subst (λ p. b + times n c.as_slice-3.result.now < 2 ^ 32 + times n p) (sym c.pins-before.ensures.pins)
    (subst (λ p. b + times n p < 2 ^ 32 + times n graph.pins) (sym c.as_slice-3.ensures.items)
    (pins_fit graph set n a c.requires.ascending c.pins-before.ensures.ascending without b c.args.patch.pins c.requires.pins with_lists c.requires.few))

pub invariant_of-result : goal.invariant_of-result
invariant_of-result g c =
    let graph = c.args.table.now in
    let set = c.args.patch.set in
    let pins = c.args.patch.pins in
    let is = laid_is graph set pins c.in_ok-lists.lists c.in_ok-lists.ensures.lists in
    record {
      ascending = c.requires.pins;
      exact = λ n.
          let a = count_in c.in_ok-counts.counts graph n in
          let b = count_in c.count_lists.new.counts graph n in
          let d = count_in c.recount.new.counts graph n in
          let without : a + sum_now (times n) graph.edges set ≡ count graph n = ap (λ s. a + sum_now (times n) graph.edges s) (sym c.as_slice.ensures.items) ∙ c.in_ok-counts.ensures.counts n in
          let with_lists : b ≡ a + sum_then (times n) set = c.in_ok-count_lists.ensures.up n ∙ ap (λ s. a + sum_then (times n) s) c.as_slice-2.ensures.items in
          let moved : d + times n graph.pins ≡ b + times n pins = ap (λ p. d + times n p) (sym c.pins-before.ensures.pins) ∙ c.in_ok-recount.ensures.moved n ∙ ap (λ p. b + times n p) c.as_slice-3.ensures.items in
          count_laid graph set n a c.requires.ascending c.pins-before.ensures.ascending without b pins c.requires.pins with_lists d moved ∙ ap (λ a. count a n) (sym is);
      closed = subst IsClosed (sym is) c.requires.closed;
    }

pub returns-clause-graph : goal.returns-clause-graph
returns-clause-graph g c = laid_is c.args.table.now c.args.patch.set c.args.patch.pins c.in_ok-lists.lists c.in_ok-lists.ensures.lists
