use Rattle.std.proofs.Common.{◌≡◌, ◌≤◌, ◌*◌, take}
use Rattle.mt_fresh.specs.Calls.{calls_in}
use Rattle.mt_fresh.proofs.fresh.calls_in.Given as goal

abbrev pub invariant-loop-found : goal.invariant-loop-found
invariant-loop-found l = (l.calls ≡ calls_in (take l.found-index l.founds)) × (l.calls ≤ l.found-index * 4294967295)
