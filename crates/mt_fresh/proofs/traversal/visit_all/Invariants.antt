use Rattle.std.proofs.Common.{◌≡◌}
use Rattle.mt_resolve.specs.Resolvers.{IsSound, files_in, options_in}
use Rattle.mt_fresh.proofs.Visits.{IsTraversed}
use Rattle.mt_fresh.proofs.traversal.visit_all.Given as goal

abbrev pub invariant-loop-turn : goal.invariant-loop-turn
invariant-loop-turn l = record {
  traversed : IsTraversed l.options l.files l.seeds l.known l.visits l.waiting;
  files : files_in l.resolver ≡ l.files;
  options : options_in l.resolver ≡ l.options;
  sound : IsSound l.resolver;
}
