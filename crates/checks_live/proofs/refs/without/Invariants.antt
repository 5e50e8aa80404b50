use Rattle.std.proofs.Common.{◌≡◌, drop}
use Rattle.mt_refs.specs.Patches.{removed}
use Rattle.checks_live.proofs.refs.without.Given as goal

abbrev pub invariant-loop-node : goal.invariant-loop-node
invariant-loop-node l = removed (drop l.node-index l.dead) l.rest ≡ removed l.dead l.edges
