use Rattle.std.proofs.Common.{arith, ◌≡◌, ap, get_or, set}
use Rattle.mt_refs.proofs.Sums.{into_set, into_le_size}
use Rattle.mt_refs.specs.Lists.{times, targets_in}
use Rattle.mt_refs.proofs.counts.set_list.Goals as goal

pub count_up-requires-clause-room : goal.count_up-requires-clause-room
count_up-requires-clause-room c = λ n.
    let d = c.index-lists-node.result in
    let after = set c.args.lists.now c.args.node c.args.list in
    let moved = into_set n c.args.node c.args.lists.now c.args.list d c.requires.node in
    let most = into_le_size n after in
    let before = c.count_down.ensures.down n in
    let room = c.requires.room n in
    let small = c.requires.small in
    let old : times n c.targets_of.result.now ≡ times n (targets_in (get_or c.args.lists.now c.args.node d)) = ap (times n) c.targets_of.ensures.targets in
    let new : times n c.targets_of-2.result.now ≡ times n (targets_in c.args.list) = ap (times n) c.targets_of-2.ensures.targets in
    omega arith
