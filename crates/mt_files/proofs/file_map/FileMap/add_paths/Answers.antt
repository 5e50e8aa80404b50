use Rattle.std.proofs.Common.{ap, ◌∙◌}
use Rattle.std.specs.FinMap.{keys}
use Rattle.mt_files.specs.PathSets.{with_paths}
use Rattle.mt_files.proofs.file_map.FileMap.add_paths.Goals as goal

pub loop-path-init : goal.loop-path-init
loop-path-init c = ap (with_paths c.args.paths.now) (c.into_iter-path-iterator.ensures.into_iter_gives ∙ c.keys-path-items.ensures.rest ∙ ap keys c.self.view_is)
