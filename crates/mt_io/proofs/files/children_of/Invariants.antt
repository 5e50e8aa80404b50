use Rattle.std.proofs.Common.{◌≡◌, [], ◌++◌}
use denote.Shadow.{shadow}
use denote.Text.{Utf8}
use Rattle.std.specs.FinMap.{keys}
use Rattle.mt_path.specs.Children.{prefix_of}
use Rattle.mt_io.specs.declared.folder.NamedKind.TheVariants.{File}
use Rattle.mt_io.specs.Children.{new_children}
use Rattle.mt_io.proofs.files.children_of.Given as goal

abbrev pub invariant-loop-path : goal.invariant-loop-path
invariant-loop-path l = record {
  text : shadow (Utf8 l.last_name);
  found : l.names ++ new_children (prefix_of l.folder) l.last_name l.last_kind l.path-iterator ≡ new_children (prefix_of l.folder) [] File (keys l.files);
}
