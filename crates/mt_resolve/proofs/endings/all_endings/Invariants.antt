use Rattle.std.proofs.Common.{◌≡◌, ◌++◌, drop}
use Rattle.std.specs.List.{flat_map}
use Rattle.mt_files.specs.Resolve.{endings, endings_of}
use Rattle.mt_resolve.proofs.endings.all_endings.Given as goal

abbrev pub invariant-loop-extension : goal.invariant-loop-extension
invariant-loop-extension l = l.list ++ flat_map (endings_of l.options.platform) (drop l.extension-index l.options.source_exts) ≡ endings l.options
