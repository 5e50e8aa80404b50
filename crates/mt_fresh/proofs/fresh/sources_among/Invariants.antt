use Rattle.std.proofs.Common.{◌≡◌, filter, take}
use Rattle.mt_files.specs.Snapshots.{has_source}
use Rattle.mt_fresh.proofs.fresh.sources_among.Given as goal

abbrev pub invariant-loop-entry : goal.invariant-loop-entry
invariant-loop-entry l = l.sources ≡ filter (has_source l.files) (take l.entry-index l.entries)
