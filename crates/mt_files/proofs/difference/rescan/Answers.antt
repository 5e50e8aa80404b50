use Rattle.mt_files.proofs.Rescans.{rescanned_fault, rescanned_found}
use Rattle.mt_files.proofs.difference.rescan.Goals as goal

pub returns-in-Err-clause-described : goal.returns-in-Err-clause-described
returns-in-Err-clause-described g c = rescanned_fault g.F.Folder.lists g.F.Folder.reads c.args.files.now c.in-Err.fault c.in-Err.ensures.described

pub returns-clause-described : goal.returns-clause-described
returns-clause-described g c = rescanned_found g.F.Folder.lists g.F.Folder.reads c.args.files.now c.in-Ok.found _ c.in_ok-changes_between.ensures.exact c.in-Ok.ensures.described
