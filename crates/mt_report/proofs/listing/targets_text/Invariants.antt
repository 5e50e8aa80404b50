use Rattle.std.proofs.Common.{◌≡◌, take}
use Rattle.std.specs.List.{flat_map}
use Rattle.mt_report.specs.Listings.{target_text}
use Rattle.mt_report.proofs.listing.targets_text.Given as goal

abbrev pub invariant-loop-slot : goal.invariant-loop-slot
invariant-loop-slot l = l.text ≡ flat_map target_text (take l.slot-index l.slots)
