use Rattle.std.proofs.Common.{ℕ, ◌+◌, ◌≡◌, ◌∙◌, ◌++◌, List, length, ap, sym, subst, arith}
use Rattle.std.specs.FinMap.{get, insert, keys}
use Rattle.std.proofs.lemmas.List.Elements.{All-append, All-same}
use Rattle.mt_refs.specs.Graphs.{IsLive, edges_from}
use Rattle.mt_trial.specs.Deaths.{reads_of}
use Rattle.mt_trial.proofs.Costs.{reads_empty, reads_insert, reads_within}
use Rattle.mt_trial.proofs.Walked.{IsWalked, fewer_left, none_read, read_more, rest_holds, top_holds, unread, walked_all, walked_more, walked_only, walked_skip, walked_start, walked_turn}
use Rattle.mt_trial.proofs.walk.walk.Goals as goal

pub loop-node-init : goal.loop-node-init
loop-node-init g c = record {
  explored = walked_start c.args.overlay.now c.args.starts c.new-reached.result c.new-reached.ensures.empty;
  waiting = c.requires.live;
  met = λ n has. absurd (none_read c.new-reached.result c.new-reached.ensures.empty n has);
  cost = let none = reads_empty c.args.overlay.now c.new-reached.result c.new-reached.ensures.empty in omega arith;
}

pub edges-requires : goal.edges-requires
edges-requires g c = record { live = top_holds (IsLive c.args.overlay.now) c.loop-node.stack c.pop.new.self c.in-Some.node c.in-Some.ensures.last c.loop-node.invariant.waiting }

pub loop-node-smaller-in-Continue-branch-2 : goal.loop-node-smaller-in-Continue-branch-2
loop-node-smaller-in-Continue-branch-2 g c =
    fewer_left c.args.overlay.now c.loop-node.reached c.insert.new.self c.loop-node.stack c.pop.new.self c.push_all.new.stack c.edges.result.now c.in-Some.node
    c.in-Some.ensures.last c.in_ok-insert.ensures.ok c.edges.ensures.edges c.in_ok-push_all.ensures.ok
    (unread (get c.loop-node.reached c.in-Some.node) (sym c.contains.ensures.has ∙ c.if-not-contains.true))

pub loop-node-preserved-in-Continue-branch-2 : goal.loop-node-preserved-in-Continue-branch-2
loop-node-preserved-in-Continue-branch-2 g c =
    let graph = c.args.overlay.now in
    let node = c.in-Some.node in
    let before = c.loop-node.invariant in
    record {
      explored =
          walked_turn graph c.args.starts c.loop-node.reached c.insert.new.self c.loop-node.stack c.pop.new.self c.push_all.new.stack c.edges.result.now node
          c.in-Some.ensures.last c.in_ok-insert.ensures.ok c.edges.ensures.edges c.in_ok-push_all.ensures.ok before.explored;
      waiting =
          All-same (IsLive graph) c.push_all.new.stack (c.pop.new.self ++ c.edges.result.now) c.in_ok-push_all.ensures.ok
          (All-append (IsLive graph) c.pop.new.self c.edges.result.now (rest_holds (IsLive graph) c.loop-node.stack c.pop.new.self node c.in-Some.ensures.last before.waiting) c.edges.ensures.closed);
      met = read_more (IsLive graph) c.loop-node.reached c.insert.new.self node c.in_ok-insert.ensures.ok (top_holds (IsLive graph) c.loop-node.stack c.pop.new.self node c.in-Some.ensures.last before.waiting) before.met;
      cost =
          let kept = before.cost in
          let cost = c.edges.ensures.cost in
          let item : length c.edges.result.now ≡ length (edges_from graph node) = ap (λ xs. length xs) c.edges.ensures.edges in
          let more : reads_of graph (keys c.insert.new.self) ≡ reads_of graph (keys c.loop-node.reached) + (length (edges_from graph node) + 1) =
          ap (λ m. reads_of graph (keys m)) c.in_ok-insert.ensures.ok ∙ reads_insert graph c.loop-node.reached node (unread (get c.loop-node.reached node) (sym c.contains.ensures.has ∙ c.if-not-contains.true)) in
          omega arith;
    }

pub loop-node-preserved : goal.loop-node-preserved
loop-node-preserved g c =
    let graph = c.args.overlay.now in
    let before = c.loop-node.invariant in
    record {
      explored = walked_skip graph c.args.starts c.loop-node.reached c.loop-node.stack c.pop.new.self c.in-Some.node c.in-Some.ensures.last before.explored (sym c.contains.ensures.has ∙ c.if-not-contains.false);
      waiting = rest_holds (IsLive graph) c.loop-node.stack c.pop.new.self c.in-Some.node c.in-Some.ensures.last before.waiting;
      met = before.met;
      cost = before.cost;
    }

pub returns-in_err-insert-clause-cost : goal.returns-in_err-insert-clause-cost
returns-in_err-insert-clause-cost g c = λ nodes sorted inside.
    let graph = c.args.overlay.now in
    let kept = c.loop-node.invariant.cost in
    let most = reads_within graph c.loop-node.reached nodes sorted (λ n has. inside n (walked_only graph c.args.starts c.loop-node.reached c.loop-node.stack c.loop-node.invariant.explored n has)) in
    omega arith

pub returns-in_err-push_all-clause-cost : goal.returns-in_err-push_all-clause-cost
returns-in_err-push_all-clause-cost g c = λ nodes sorted inside.
    let graph = c.args.overlay.now in
    let node = c.in-Some.node in
    let after = insert c.loop-node.reached node tt in
    let kept = c.loop-node.invariant.cost in
    let cost = c.edges.ensures.cost in
    let item : length c.edges.result.now ≡ length (edges_from graph node) = ap (λ xs. length xs) c.edges.ensures.edges in
    let more = reads_insert graph c.loop-node.reached node (unread (get c.loop-node.reached node) (sym c.contains.ensures.has ∙ c.if-not-contains.true)) in
    let most = reads_within graph after nodes sorted (λ n has. inside n (walked_only graph c.args.starts after (c.pop.new.self ++ edges_from graph node) (walked_more graph c.args.starts c.loop-node.reached c.loop-node.stack c.pop.new.self node c.in-Some.ensures.last c.loop-node.invariant.explored) n has)) in
    omega arith

pub returns-clause-reached : goal.returns-clause-reached
returns-clause-reached g c = walked_all c.args.overlay.now c.args.starts c.loop-node.reached (subst (λ (xs : List ℕ). IsWalked c.args.overlay.now c.args.starts c.loop-node.reached xs) c.in_default.ensures.last.0 c.loop-node.invariant.explored)

pub returns-clause-cost : goal.returns-clause-cost
returns-clause-cost g c = λ nodes sorted inside.
    let graph = c.args.overlay.now in
    let kept = c.loop-node.invariant.cost in
    let most = reads_within graph c.loop-node.reached nodes sorted (λ n has. inside n (walked_only graph c.args.starts c.loop-node.reached c.loop-node.stack c.loop-node.invariant.explored n has)) in
    omega arith
