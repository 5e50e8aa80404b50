use Rattle.std.proofs.Common.{◌≡◌}
use Rattle.std.specs.List.{fold}
use Rattle.std.specs.FinMap.{empty}
use Rattle.mt_graph.specs.Members.{with_entry, with_found}
use Rattle.mt_graph.proofs.judgement.members.Given as goal

abbrev pub invariant-loop-found : goal.invariant-loop-found
invariant-loop-found l = l.members ≡ fold with_found (fold with_entry empty l.fn.entries) l.yielded
