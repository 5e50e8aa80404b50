use Rattle.mt_containers.specs.Walks.{IsReached}
use Rattle.mt_trial.proofs.Walked.{none_read, read_more, rest_holds, top_holds}
use Rattle.checks_live.specs.Shapes.{targets_by}
use Rattle.checks_live.proofs.Shapes.{ahead_more, ahead_start}
use Rattle.checks_live.proofs.trial.reach.Goals as goal

pub loop-turn-init : goal.loop-turn-init
loop-turn-init c = record {
  met = λ n has. absurd (none_read c.new-reached.result c.new-reached.ensures.empty n has);
  ahead = ahead_start c.args.edges.now c.args.starts.now c.in_ok-stack.stack c.in_ok-stack.ensures.items;
}

pub loop-turn-preserved-then-contains : goal.loop-turn-preserved-then-contains
loop-turn-preserved-then-contains c = record {
  met = c.loop-turn.invariant.met;
  ahead = rest_holds (IsReached (targets_by c.args.edges.now) c.args.starts.now) c.loop-turn.stack c.pop.new.self c.in-Some.node c.in-Some.ensures.last c.loop-turn.invariant.ahead;
}

pub loop-turn-preserved : goal.loop-turn-preserved
loop-turn-preserved c =
    let P = IsReached (targets_by c.args.edges.now) c.args.starts.now in
    record {
      met = read_more P c.loop-turn.reached c.insert.new.self c.in-Some.node c.in_ok-insert.ensures.ok (top_holds P c.loop-turn.stack c.pop.new.self c.in-Some.node c.in-Some.ensures.last c.loop-turn.invariant.ahead) c.loop-turn.invariant.met;
      ahead = ahead_more c.args.edges.now c.args.starts.now c.loop-turn.stack c.pop.new.self c.push_all.new.stack c.targets_of.result.now c.in-Some.node c.in-Some.ensures.last c.targets_of.ensures.targets c.in_ok-push_all.ensures.ok c.loop-turn.invariant.ahead;
    }
