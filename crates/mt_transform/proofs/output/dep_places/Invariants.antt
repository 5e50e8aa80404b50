use Rattle.std.proofs.Common.{◌≡◌, map, take}
use Rattle.mt_transform.proofs.output.dep_places.Given as goal

abbrev pub invariant-loop-dep : goal.invariant-loop-dep
invariant-loop-dep l = l.places ≡ map (λ d. d.place) (take l.dep-index l.deps)
