use Rattle.std.proofs.Common.{◌≡◌, ◌≤◌, [], length, take, drop}
use Rattle.std.specs.Prelude.{option_map}
use Rattle.mt_tokens.specs.Forms.{list}
use Rattle.mt_deps.specs.Seen.{seen_of}
use Rattle.mt_deps.proofs.ListSteps.{lead}
use Rattle.mt_deps.proofs.lists.read_list.Given as goal

abbrev pub invariant-loop-here : goal.invariant-loop-here
invariant-loop-here l = record {
  within : l.count ≤ length (seen_of l.from);
  placed : drop l.count (seen_of l.from) ≡ seen_of l.rest;
  left : option_map (lead l.items) (list l.bytes (take l.count (seen_of l.from)) (seen_of l.rest)) ≡ list l.bytes [] (seen_of l.tokens);
}

abbrev pub decreases-loop-here : goal.decreases-loop-here
decreases-loop-here l = length (seen_of l.rest)
