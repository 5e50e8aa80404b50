use Rattle.std.proofs.Common.{◌≡◌, ◌<◌, ◌+◌, ◌^◌, sym, subst, ap, ◌∙◌}
use Rattle.std.specs.List.{All}
use Rattle.mt_refs.specs.Graphs.{edge_total}
use Rattle.mt_refs.specs.Patches.{removed, filled, nodes_of, size_of}
use Rattle.mt_refs.proofs.Totals.{room}
use Rattle.mt_refs.proofs.Fills.{emptied_first}
use Rattle.mt_refs.proofs.table.Table.commit.Goals as goal

pub remove_all-requires : goal.remove_all-requires
remove_all-requires c =
    let same : c.empty_set.new.self.spare ≡ c.args.self.now.spare = ap (λ a. a.spare) c.empty_set.ensures.graph in
    record { nodes = subst (All (λ n. n < c.empty_set.new.self.spare)) (sym c.as_slice-2.ensures.items) (subst (λ s. All (λ n. n < s) c.args.settled.dead) (sym same) c.requires.dead) }

pub fill-requires-clause-nodes : goal.fill-requires-clause-nodes
fill-requires-clause-nodes c =
    let same : c.remove_all.new.self.spare ≡ c.args.self.now.spare = ap (λ a. a.spare) c.remove_all.ensures.graph ∙ ap (λ a. a.spare) c.empty_set.ensures.graph in
    subst (λ k. All (λ s. s.0 < k) c.args.settled.set) (sym same) c.requires.nodes

pub fill-requires-clause-targets : goal.fill-requires-clause-targets
fill-requires-clause-targets c =
    let same : c.remove_all.new.self.spare ≡ c.args.self.now.spare = ap (λ a. a.spare) c.remove_all.ensures.graph ∙ ap (λ a. a.spare) c.empty_set.ensures.graph in
    subst (λ k. All (λ s. All (λ t. t < k) s.1) c.args.settled.set) (sym same) c.requires.targets

pub fill-requires-clause-few : goal.fill-requires-clause-few
fill-requires-clause-few c =
    let set = c.args.settled.set in
    let dead = c.args.settled.dead in
    let edges = c.args.self.now.edges in
    let same : c.remove_all.new.self.edges ≡ removed dead (removed (nodes_of set) edges) =
    ap (λ a. a.edges) c.remove_all.ensures.graph ∙ ap (λ ns. removed ns c.empty_set.new.self.edges) c.as_slice-2.ensures.items
    ∙ ap (removed dead) (ap (λ a. a.edges) c.empty_set.ensures.graph ∙ ap (λ xs. removed (nodes_of xs) edges) c.as_slice.ensures.items) in
    subst (λ k. k + 1 < 2 ^ 32) (sym (ap (λ e. edge_total e + size_of set) same ∙ room set dead edges c.requires.ascending)) c.requires.few

pub set_pins-requires-clause-pins : goal.set_pins-requires-clause-pins
set_pins-requires-clause-pins c =
    let same : c.fill.new.self.spare ≡ c.args.self.now.spare = ap (λ a. a.spare) c.fill.ensures.graph ∙ ap (λ a. a.spare) c.remove_all.ensures.graph ∙ ap (λ a. a.spare) c.empty_set.ensures.graph in
    subst (λ k. All (λ n. n < k) c.args.settled.pins) (sym same) c.requires.pins

pub returns : goal.returns
returns c =
    let set = c.args.settled.set in
    let dead = c.args.settled.dead in
    let before = c.args.self.now.edges in
    let spare : c.fill.new.self.spare ≡ c.args.self.now.spare = ap (λ a. a.spare) c.fill.ensures.graph ∙ ap (λ a. a.spare) c.remove_all.ensures.graph ∙ ap (λ a. a.spare) c.empty_set.ensures.graph in
    let edges : c.fill.new.self.edges ≡ filled set (removed dead before) =
    ap (λ a. a.edges) c.fill.ensures.graph
    ∙ ap (filled set) (ap (λ a. a.edges) c.remove_all.ensures.graph ∙ ap (λ ns. removed ns c.empty_set.new.self.edges) c.as_slice-2.ensures.items
    ∙ ap (removed dead) (ap (λ a. a.edges) c.empty_set.ensures.graph ∙ ap (λ xs. removed (nodes_of xs) before) c.as_slice.ensures.items))
    ∙ emptied_first set dead before in
    record { graph = c.set_pins.ensures.graph ∙ (λ i. record { edges = edges i; pins = c.args.settled.pins; spare = spare i }) }
