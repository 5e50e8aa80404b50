use Rattle.std.proofs.Common.{◌≡◌, ◌<◌, ◌+◌, List, ℕ, [], ◌∷◌, ◌++◌, length, sym, subst, ap, ◌∙◌, arith}
use Rattle.std.specs.List.{All}
use Rattle.std.proofs.lemmas.List.{get_or_append_left, length-append}
use Rattle.std.proofs.lemmas.List.Sums.{sum_by_push}
use Rattle.mt_refs.specs.Patches.{filled, size_of}
use Rattle.mt_refs.proofs.Fills.{filled_push}
use Rattle.mt_refs.proofs.table.Table.fill.Goals as goal

front : (P : ℕ × List ℕ → Type 0) (xs : List (ℕ × List ℕ)) (y : ℕ × List ℕ) → All P (xs ++ y ∷ []) → All P xs
front P xs y h = λ k d b. let n = length-append xs (y ∷ []) in subst P (get_or_append_left xs (y ∷ []) d k b) (h k d (omega arith))

pub loop-node-preserved : goal.loop-node-preserved
loop-node-preserved c =
    let xs = c.pop.new.self in
    let y : ℕ × List ℕ = (c.in-Some.node, c.in-Some.targets) in
    let m = c.in-Some.ensures.last in
    let inv = c.loop-node.invariant in
    let graph = c.set_edges.ensures.edges in
    let total = c.set_edges.ensures.total in
    let sp = c.args.self.now.spare in
    let size : size_of c.loop-node.set ≡ size_of xs + length c.in-Some.targets = ap size_of m ∙ sum_by_push (λ (s : ℕ × List ℕ). length s.1) xs y in
    let few = inv.few in
    record {
      rest = ap (λ a. filled xs a.edges) graph ∙ sym (filled_push xs c.in-Some.node c.in-Some.targets c.loop-node.self.edges) ∙ ap (λ ss. filled ss c.loop-node.self.edges) (sym m) ∙ inv.rest;
      pins = ap (λ a. a.pins) graph ∙ inv.pins;
      spare = ap (λ a. a.spare) graph ∙ inv.spare;
      nodes = front (λ s. s.0 < sp) xs y (subst (All (λ s. s.0 < sp)) m inv.nodes);
      targets = front (λ s. All (λ t. t < sp) s.1) xs y (subst (All (λ s. All (λ t. t < sp) s.1)) m inv.targets);
      few = omega arith;
    }
