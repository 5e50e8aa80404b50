use Rattle.std.proofs.Common.{◌≡◌, ◌≤◌, ◌-◌, [], length, get_or}
use Rattle.mt_io.specs.Memory.{given_at, left_at, unspent}
use Rattle.mt_io.proofs.list_source.next_place.Given as goal

abbrev pub invariant-loop-next : goal.invariant-loop-next
invariant-loop-next l = record {
  given : given_at l.list l.next l.from ≡ given_at l.list l.piece l.at;
  left : unspent (left_at l.list l.next l.from) ≡ unspent (left_at l.list l.piece l.at);
  within : l.from ≤ length (get_or l.list l.next []);
}

abbrev pub decreases-loop-next : goal.decreases-loop-next
decreases-loop-next l = length l.list - l.next
