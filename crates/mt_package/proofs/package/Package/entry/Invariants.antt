use Rattle.std.proofs.Common.{◌≡◌, length}
use Rattle.mt_package.specs.Packages.{entry_of, said_by}
use Rattle.mt_package.proofs.package.Package.entry.Given as goal

abbrev pub invariant-loop-field : goal.invariant-loop-field
invariant-loop-field l = entry_of l.rest (said_by l.self) ≡ entry_of l.main_fields (said_by l.self)

abbrev pub decreases-loop-field : goal.decreases-loop-field
decreases-loop-field l = length l.rest
