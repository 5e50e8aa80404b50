use Rattle.std.proofs.Common.{ℕ, ◌≡◌, ◌∙◌, List, nat_lt, not, filter, ap, sym, subst, arith}
use Rattle.std.specs.Prelude.{◌↔◌}
use Rattle.std.specs.Bool.{IsTrue}
use Rattle.std.specs.FinMap.{contains_key}
use Rattle.std.specs.List.{Contains}
use Rattle.std.specs.List.Sorted.{IsStrictlySortedBy}
use Rattle.std.specs.Ordering.{nat_cmp}
use Rattle.std.proofs.lemmas.List.Elements.{All-contains, All-filter, All-same}
use Rattle.std.proofs.lemmas.List.Kept.{IsStrictlySortedBy-filter}
use Rattle.std.proofs.lemmas.Result.{IfOk-weaker}
use Rattle.mt_containers.specs.Walks.{IsReached}
use Rattle.mt_refs.specs.Graphs.{IsLive, edges_from}
use Rattle.mt_trial.specs.Deaths.{IsDead, IsRest, left_at}
use Rattle.mt_trial.proofs.Reaches.{are_reached, has_reached, held_inside, nodes_closed, reads_least}
use Rattle.mt_trial.proofs.Deaths.{rest_dead}
use Rattle.mt_trial.proofs.deletion.dead.Goals as goal

pub returns-in_err-walk-clause-cost : goal.returns-in_err-walk-clause-cost
returns-in_err-walk-clause-cost g c = λ most ascending is.
    let first = c.walk.ensures.cost most ascending (has_reached c.args.overlay.now c.args.candidates.now _ most c.in_ok-starts.ensures.items is) in
    omega arith

pub returns-in_err-reached-clause-cost : goal.returns-in_err-reached-clause-cost
returns-in_err-reached-clause-cost g c = λ most ascending is.
    let first = c.walk.ensures.cost most ascending (has_reached c.args.overlay.now c.args.candidates.now _ most c.in_ok-starts.ensures.items is) in
    omega arith

pub outer_counts-requires-clause-live : goal.outer_counts-requires-clause-live
outer_counts-requires-clause-live g c =
    let all = are_reached c.args.overlay.now c.args.candidates.now _ _ _ c.in_ok-starts.ensures.items (c.as_slice.ensures.items ∙ c.in_ok-reached.ensures.numbers) c.in_ok-walk.ensures.reached c.in_ok-walk.ensures.live in
    all.live

pub outer_counts-requires-clause-ascending : goal.outer_counts-requires-clause-ascending
outer_counts-requires-clause-ascending g c =
    let all = are_reached c.args.overlay.now c.args.candidates.now _ _ _ c.in_ok-starts.ensures.items (c.as_slice.ensures.items ∙ c.in_ok-reached.ensures.numbers) c.in_ok-walk.ensures.reached c.in_ok-walk.ensures.live in
    all.ascending

pub outer_counts-requires-clause-closed : goal.outer_counts-requires-clause-closed
outer_counts-requires-clause-closed g c =
    let all = are_reached c.args.overlay.now c.args.candidates.now _ _ _ c.in_ok-starts.ensures.items (c.as_slice.ensures.items ∙ c.in_ok-reached.ensures.numbers) c.in_ok-walk.ensures.reached c.in_ok-walk.ensures.live in
    nodes_closed _ _ _ all

pub returns-in_err-counts-clause-cost : goal.returns-in_err-counts-clause-cost
returns-in_err-counts-clause-cost g c = λ most ascending is.
    let all = are_reached c.args.overlay.now c.args.candidates.now _ _ _ c.in_ok-starts.ensures.items (c.as_slice.ensures.items ∙ c.in_ok-reached.ensures.numbers) c.in_ok-walk.ensures.reached c.in_ok-walk.ensures.live in
    let first = c.walk.ensures.cost most ascending (has_reached c.args.overlay.now c.args.candidates.now _ most c.in_ok-starts.ensures.items is) in
    let least = reads_least _ _ _ all most ascending is in
    let second = c.outer_counts.ensures.cost in
    omega arith

pub returns-in_err-holding-clause-cost : goal.returns-in_err-holding-clause-cost
returns-in_err-holding-clause-cost g c = λ most ascending is.
    let all = are_reached c.args.overlay.now c.args.candidates.now _ _ _ c.in_ok-starts.ensures.items (c.as_slice.ensures.items ∙ c.in_ok-reached.ensures.numbers) c.in_ok-walk.ensures.reached c.in_ok-walk.ensures.live in
    let first = c.walk.ensures.cost most ascending (has_reached c.args.overlay.now c.args.candidates.now _ most c.in_ok-starts.ensures.items is) in
    let least = reads_least _ _ _ all most ascending is in
    let second = c.outer_counts.ensures.cost in
    omega arith

pub unreached-requires : goal.unreached-requires
unreached-requires g c =
    let all = are_reached c.args.overlay.now c.args.candidates.now _ _ _ c.in_ok-starts.ensures.items (c.as_slice.ensures.items ∙ c.in_ok-reached.ensures.numbers) c.in_ok-walk.ensures.reached c.in_ok-walk.ensures.live in
    let test = λ (n : ℕ). nat_lt 0 (left_at c.in_ok-counts.counts n) in
    let held : c.in_ok-holding.holding ≡ filter test c.as_slice.result.now = c.in_ok-holding.ensures.held ∙ ap (filter test) (c.as_slice-2.ensures.items ∙ sym c.as_slice.ensures.items) in
    record { live = All-same (IsLive c.args.overlay.now) _ _ held (All-filter test (IsLive c.args.overlay.now) _ all.live) }

pub returns-clause-cost : goal.returns-clause-cost
returns-clause-cost g c = λ most ascending is.
    let all = are_reached c.args.overlay.now c.args.candidates.now _ _ _ c.in_ok-starts.ensures.items (c.as_slice.ensures.items ∙ c.in_ok-reached.ensures.numbers) c.in_ok-walk.ensures.reached c.in_ok-walk.ensures.live in
    let test = λ (n : ℕ). nat_lt 0 (left_at c.in_ok-counts.counts n) in
    let held : c.in_ok-holding.holding ≡ filter test c.as_slice.result.now = c.in_ok-holding.ensures.held ∙ ap (filter test) (c.as_slice-2.ensures.items ∙ sym c.as_slice.ensures.items) in
    let first = c.walk.ensures.cost most ascending (has_reached c.args.overlay.now c.args.candidates.now _ most c.in_ok-starts.ensures.items is) in
    let least = reads_least _ _ _ all most ascending is in
    let second = c.outer_counts.ensures.cost in
    let third = c.unreached.ensures.cost _ all.ascending (held_inside _ _ _ all test _ held) in
    omega arith

pub returns-clause-ascending : goal.returns-clause-ascending
returns-clause-ascending g c =
    let all = are_reached c.args.overlay.now c.args.candidates.now _ _ _ c.in_ok-starts.ensures.items (c.as_slice.ensures.items ∙ c.in_ok-reached.ensures.numbers) c.in_ok-walk.ensures.reached c.in_ok-walk.ensures.live in
    let again : c.as_slice-3.result.now ≡ c.as_slice.result.now = c.as_slice-3.ensures.items ∙ sym c.as_slice.ensures.items in
    IfOk-weaker c.unreached.result (λ rest. IsRest c.args.overlay.now c.in_ok-holding.holding c.as_slice-3.result.now rest) (λ dead. IsStrictlySortedBy nat_cmp dead)
    (λ rest is.
    let lost = λ (n : ℕ). not (contains_key is.kept n) in
    subst (IsStrictlySortedBy nat_cmp) (sym (is.same ∙ ap (filter lost) again)) (IsStrictlySortedBy-filter nat_cmp lost _ all.ascending))
    c.unreached.ensures.rest

pub returns-clause-dead : goal.returns-clause-dead
returns-clause-dead g c =
    let graph = c.args.overlay.now in
    let nodes = c.as_slice.result.now in
    let all = are_reached graph c.args.candidates.now _ _ _ c.in_ok-starts.ensures.items (c.as_slice.ensures.items ∙ c.in_ok-reached.ensures.numbers) c.in_ok-walk.ensures.reached c.in_ok-walk.ensures.live in
    let test = λ (n : ℕ). nat_lt 0 (left_at c.in_ok-counts.counts n) in
    let held : c.in_ok-holding.holding ≡ filter test c.as_slice.result.now = c.in_ok-holding.ensures.held ∙ ap (filter test) (c.as_slice-2.ensures.items ∙ sym c.as_slice.ensures.items) in
    let again : c.as_slice-3.result.now ≡ c.as_slice.result.now = c.as_slice-3.ensures.items ∙ sym c.as_slice.ensures.items in
    IfOk-weaker c.unreached.result (λ rest. IsRest graph c.in_ok-holding.holding c.as_slice-3.result.now rest) (λ dead. (n : ℕ) → Contains dead n ↔ IsDead graph n)
    (λ rest is n.
    let lost = λ (k : ℕ). not (contains_key is.kept k) in
    subst (λ (xs : List ℕ). Contains xs n ↔ IsDead graph n) (sym (is.same ∙ ap (filter lost) again))
    (rest_dead graph c.args.candidates.now nodes c.in_ok-counts.counts is.kept c.requires.cover all.exact all.ascending c.in_ok-counts.ensures.counts
    (λ k. subst (λ (xs : List ℕ). IsTrue (contains_key is.kept k) ↔ IsReached (edges_from graph) xs k) held (is.exact k))
    (λ k w. All-contains (IsLive graph) nodes k all.live w) n))
    c.unreached.ensures.rest
