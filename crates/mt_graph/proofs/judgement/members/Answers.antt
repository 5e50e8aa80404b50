use Rattle.std.proofs.Common.{◌≡◌, ◌∙◌, ◌++◌, ◌∷◌, [], ap, sym}
use Rattle.std.specs.List.{fold}
use Rattle.std.specs.FinMap.{empty, insert}
use Rattle.std.specs.Vec.Iter.{into_iter_items, into_iter_steps}
use Rattle.mt_graph.specs.Members.{with_entry, with_found}
use Rattle.mt_graph.proofs.Members.{members_are}
use Rattle.mt_graph.proofs.Runs.{all_seen, fold_more}
use Rattle.mt_graph.proofs.judgement.members.Goals as goal

pub loop-found-preserved : goal.loop-found-preserved
loop-found-preserved c =
    c.in_ok-insert.ensures.ok
    ∙ ap (λ members. with_found members c.in-Some.found) c.loop-found.invariant
    ∙ sym (fold_more with_found (fold with_entry empty c.args.entries.now) c.loop-found.yielded c.in-Some.found)

pub returns : goal.returns
returns c =
    let it = c.into_iter-found-iterator in
    let seen = all_seen into_iter_steps into_iter_items it.result c.loop-found.found-iterator c.next.new.self c.loop-found.yielded it.ensures.into_iter_gives.2 c.loop-found.yielded_by c.in-None.ensures.steps in
    record { exact = c.loop-found.invariant ∙ ap (fold with_found (fold with_entry empty c.args.entries.now)) (seen ∙ it.ensures.into_iter_gives.0) ∙ members_are c.args.entries.now c.args.founds c.requires.ascending }
