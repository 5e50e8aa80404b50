use Rattle.std.proofs.Common.{ap, ◌∙◌}
use Rattle.std.specs.FinMap.{keys}
use Rattle.mt_files.specs.PathSets.{with_paths}
use Rattle.mt_files.proofs.PathSets.{keys-both}
use Rattle.mt_files.proofs.difference.paths_of.Goals as goal

pub returns : goal.returns
returns c = record {
  paths =
      keys-both (keys c.args.old.now) (keys c.args.new.now) c.add_paths.new.paths c.add_paths-2.new.paths
      (c.in_ok-add_paths.ensures.paths ∙ ap (λ m. with_paths m (keys c.args.old.now)) c.new-paths.ensures.empty) c.in_ok-add_paths-2.ensures.paths;
}
