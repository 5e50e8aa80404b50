use Rattle.std.proofs.Common.{drop}
use Rattle.std.specs.List.{AllByRecursion}
use Rattle.mt_files.specs.Snapshots.{Snapshot}
use Rattle.mt_package.specs.declared.options.Options.{Options}
use Rattle.mt_resolve.specs.Known.{AreKnown, LeadsTo}
use Rattle.mt_resolve.proofs.answers.keep_answers.Given as goal

abbrev pub invariant-loop-folder : goal.invariant-loop-folder
invariant-loop-folder l =
    (options : Options) (files : Snapshot) → AreKnown options files l.fn.answers → AllByRecursion (LeadsTo options files l.name l.target) l.folders
    → AreKnown options files l.answers × AllByRecursion (LeadsTo options files l.name l.target) (drop l.folder-index l.folders)
