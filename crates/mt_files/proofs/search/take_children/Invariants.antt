use Rattle.std.proofs.Common.{◌≡◌, ◌++◌, drop}
use Rattle.mt_files.specs.PathSets.{with_paths}
use Rattle.mt_files.specs.Search.{files_in, folders_in}
use Rattle.mt_files.proofs.search.take_children.Given as goal

abbrev pub invariant-loop-named : goal.invariant-loop-named
invariant-loop-named l = record {
  met : with_paths l.met (files_in l.place (drop l.named-index l.names)) ≡ with_paths l.fn.met (files_in l.place l.names);
  places : l.places ++ folders_in l.place (drop l.named-index l.names) ≡ l.fn.places ++ folders_in l.place l.names;
}
