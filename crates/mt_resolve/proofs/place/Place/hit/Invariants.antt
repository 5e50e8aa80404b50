use Rattle.std.proofs.Common.{◌≤◌, ◌+◌, drop}
use Rattle.std.specs.List.{filter_map}
use Rattle.mt_path.specs.Children.{suffixed}
use Rattle.mt_resolve.specs.Runs.{files_by}
use Rattle.mt_resolve.proofs.Hits.{Left}
use Rattle.mt_resolve.proofs.place.Place.hit.Given as goal

abbrev pub invariant-loop-ending : goal.invariant-loop-ending
invariant-loop-ending l = record {
  left : Left l.self.files.now (files_by l.self.endings l.path) (filter_map (suffixed l.path) (drop l.ending-index l.self.endings)) l.count;
  few : l.count ≤ l.ending-index + 1;
}
