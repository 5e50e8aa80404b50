use Rattle.std.proofs.Common.{◌≡◌, take}
use Rattle.std.specs.List.{fold}
use Rattle.std.specs.FinMap.{empty}
use Rattle.mt_graph.specs.Members.{with_entry}
use Rattle.mt_graph.proofs.judgement.entry_members.Given as goal

abbrev pub invariant-loop-entry : goal.invariant-loop-entry
invariant-loop-entry l = l.members ≡ fold with_entry empty (take l.entry-index l.entries)
