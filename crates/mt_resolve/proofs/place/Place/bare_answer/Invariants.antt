use Rattle.std.proofs.Common.{◌≡◌, Option, length}
use Rattle.std.specs.List.{AllByRecursion}
use Rattle.mt_path.specs.Segments.{segments_of}
use Rattle.mt_files.specs.Resolve.{resolved_in}
use Rattle.mt_files.specs.declared.target.Target.{Target}
use Rattle.mt_resolve.specs.Known.{LeadsTo}
use Rattle.mt_resolve.specs.Searches.{AreRead, Ends, held_from}
use Rattle.mt_resolve.specs.declared.probes.Log.{Log}
use Rattle.mt_resolve.proofs.place.Place.bare_answer.Given as goal

abbrev pub invariant-up : goal.invariant-up
invariant-up l = record {
  read : AreRead l.self.options.now l.self.files.now l.notes.packages;
  same : resolved_in l.self.options.now l.self.files.now l.at l.name ≡ resolved_in l.self.options.now l.self.files.now l.folder l.name;
  passed : AllByRecursion (LeadsTo l.self.options.now l.self.files.now l.name (resolved_in l.self.options.now l.self.files.now l.folder l.name)) l.passed;
  left : (after : Log) (found : Option Target) → Ends l.self.endings l.self.files.now l.notes.log after found (held_from l.self.options.now l.self.files.now l.name l.at)
      → Ends l.self.endings l.self.files.now l.fn.notes.log after found (held_from l.self.options.now l.self.files.now l.name l.folder);
}

abbrev pub decreases-up : goal.decreases-up
decreases-up l = length (segments_of l.at)
