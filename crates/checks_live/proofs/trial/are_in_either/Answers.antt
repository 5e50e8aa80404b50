use Rattle.std.proofs.Common.{◌||◌, ℕ}
use Rattle.std.specs.Bool.{IsTrue}
use Rattle.std.specs.FinMap.{contains_key, keys}
use Rattle.std.proofs.lemmas.List.Elements.{All-contains}
use Rattle.mt_trial.proofs.Keys.{contains_of_key}
use Rattle.checks_live.proofs.Shapes.{all_done}
use Rattle.checks_live.proofs.trial.are_in_either.Goals as goal

pub returns : goal.returns
returns c =
    let P = λ (n : ℕ). IsTrue (contains_key c.args.first.now n || contains_key c.args.second.now n) in
    record { each = λ _ n has. All-contains P (keys c.args.edges.now) n (all_done P c.loop-node.node-iterator (keys c.args.edges.now) c.in-None.ensures.steps.0 c.loop-node.invariant) (contains_of_key c.args.edges.now n has) }
