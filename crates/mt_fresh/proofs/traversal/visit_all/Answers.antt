use Rattle.std.proofs.Common.{◌∙◌, ap, sym, is_some}
use Rattle.std.proofs.lemmas.Bool.{false≢true}
use Rattle.mt_graph.proofs.Explored.{each_seed}
use Rattle.mt_fresh.proofs.Visits.{traversed_all, traversed_source, traversed_start, traversed_step}
use Rattle.mt_fresh.proofs.traversal.visit_all.Goals as goal

pub loop-turn-init : goal.loop-turn-init
loop-turn-init c = record {
  traversed = rw (c.new-visits.ensures.empty, c.in_ok-waiting.ensures.set) (traversed_start c.args.options.now c.args.files.now c.args.seeds.now c.args.known.now);
  files = c.in_ok-resolver.ensures.files;
  options = c.in_ok-resolver.ensures.options;
  sound = c.in_ok-resolver.ensures.sound;
}

pub returns-in_default : goal.returns-in_default
returns-in_default c = record {
  exact = traversed_all c.args.options.now c.args.files.now c.args.seeds.now c.args.known.now (each_seed c.args.files.now c.args.seeds.now c.requires.sources) c.loop-turn.visits c.loop-turn.waiting c.loop-turn.invariant.traversed c.in_default.ensures.none;
}

-- what waits is a source
pub loop-turn-preserved-in_default-source : goal.loop-turn-preserved-in_default-source
loop-turn-preserved-in_default-source c =
    absurd (false≢true (ap is_some c.in_default-source.ensures.source
    ∙ traversed_source c.args.options.now c.args.files.now c.args.seeds.now c.args.known.now (each_seed c.args.files.now c.args.seeds.now c.requires.sources) c.loop-turn.visits c.loop-turn.waiting c.in-Some.path c.loop-turn.invariant.traversed c.in-Some.ensures.found))

pub loop-turn-preserved : goal.loop-turn-preserved
loop-turn-preserved c =
    let i = c.loop-turn.invariant in
    record {
      traversed = rw (c.in_ok-insert.ensures.ok, c.in_ok-add_targets.ensures.ok, c.in-Some.ensures.rest)
          (traversed_step c.args.options.now c.args.files.now c.args.seeds.now c.args.known.now c.loop-turn.visits c.loop-turn.waiting c.in-Some.path c.in-Some-source.source.now c.in_ok-visit.visit
          i.traversed c.in-Some.ensures.found (sym c.in-Some-source.ensures.source) (rw i.files at c.in_ok-visit.ensures.exact));
      files = c.visit_source.ensures.files ∙ i.files;
      options = c.visit_source.ensures.options ∙ i.options;
      sound = c.visit_source.ensures.sound;
    }
