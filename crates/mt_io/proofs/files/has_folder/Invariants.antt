use Rattle.std.proofs.Common.{◌≡◌}
use Rattle.std.specs.Bool.{nat_eq}
use Rattle.std.specs.FinMap.{keys}
use Rattle.std.specs.List.{list_any, starts_with}
use Rattle.mt_path.specs.Children.{prefix_of}
use Rattle.mt_io.proofs.files.has_folder.Given as goal

abbrev pub invariant-loop-path : goal.invariant-loop-path
invariant-loop-path l = record {
  left : list_any (λ path. starts_with nat_eq path (prefix_of l.folder)) l.path-iterator ≡ list_any (λ path. starts_with nat_eq path (prefix_of l.folder)) (keys l.files);
}
