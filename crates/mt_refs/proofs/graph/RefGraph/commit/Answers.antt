use Rattle.std.proofs.Common.{◌<◌, sym, subst}
use Rattle.std.specs.List.{All}
use Rattle.mt_refs.specs.Graphs.{IsClosed, IsSound}
use Rattle.mt_refs.specs.Patches.{committed}
use Rattle.mt_refs.proofs.Closings.{pins_below, sound_committed, targets_below}
use Rattle.mt_refs.proofs.graph.RefGraph.commit.Goals as goal

pub commit-requires-clause-targets : goal.commit-requires-clause-targets
commit-requires-clause-targets c =
    let s = c.args.settled in
    targets_below c.self.inside.table s.set s.pins s.dead c.self.invariant
    (subst (λ a. All (λ s. s.0 < a.spare) s.set) (sym c.self.view_is) c.requires.nodes)
    (subst (λ a. IsClosed (committed a s.set s.pins s.dead)) (sym c.self.view_is) c.requires.closed)
    c.requires.ascending

pub commit-requires-clause-pins : goal.commit-requires-clause-pins
commit-requires-clause-pins c =
    let s = c.args.settled in
    pins_below c.self.inside.table s.set s.pins s.dead c.self.invariant
    (subst (λ a. All (λ s. s.0 < a.spare) s.set) (sym c.self.view_is) c.requires.nodes)
    (subst (λ a. IsClosed (committed a s.set s.pins s.dead)) (sym c.self.view_is) c.requires.closed)

pub invariant_of-self : goal.invariant_of-self
invariant_of-self c =
    let s = c.args.settled in
    subst IsSound (sym c.commit.ensures.graph)
    (sound_committed c.self.inside.table s.set s.pins s.dead c.self.invariant
    (subst (λ a. All (λ s. s.0 < a.spare) s.set) (sym c.self.view_is) c.requires.nodes)
    (subst (λ a. IsClosed (committed a s.set s.pins s.dead)) (sym c.self.view_is) c.requires.closed))
