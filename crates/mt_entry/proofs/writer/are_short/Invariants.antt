use Rattle.std.proofs.Common.{map, take}
use Rattle.mt_entry.specs.Entries.{entry_name_of}
use Rattle.mt_entry.specs.Readers.{AreEntryNames}
use Rattle.mt_entry.proofs.writer.are_short.Given as goal

abbrev pub invariant-loop-name : goal.invariant-loop-name
invariant-loop-name l = AreEntryNames (map entry_name_of (take l.name-index l.names))
