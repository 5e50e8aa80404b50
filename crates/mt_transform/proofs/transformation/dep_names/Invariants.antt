use Rattle.std.proofs.Common.{◌≡◌, map, take}
use Rattle.mt_transform.specs.Outputs.{name_of}
use Rattle.mt_transform.proofs.transformation.dep_names.Given as goal

abbrev pub invariant-loop-dep : goal.invariant-loop-dep
invariant-loop-dep l = l.names ≡ map name_of (take l.dep-index l.deps)
