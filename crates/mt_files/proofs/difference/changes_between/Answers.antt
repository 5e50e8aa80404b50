use Rattle.std.proofs.Common.{◌∙◌}
use Rattle.mt_files.proofs.Rescans.{gathered_start}
use Rattle.mt_files.proofs.difference.changes_between.Goals as goal

pub loop-path-init : goal.loop-path-init
loop-path-init c =
    gathered_start c.args.old.now c.args.new.now c.new-changes.result c.into_iter-path-iterator.result c.new-changes.ensures.empty
    (c.into_iter-path-iterator.ensures.into_iter_gives ∙ c.keys-path-items.ensures.rest ∙ c.in_ok-paths.ensures.paths)
