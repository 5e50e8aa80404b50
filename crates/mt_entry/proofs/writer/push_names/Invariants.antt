use Rattle.std.proofs.Common.{◌≡◌, ◌++◌, map, take}
use Rattle.std.specs.List.{flat_map}
use Rattle.mt_tokens.specs.CacheEntries.{name_bytes}
use Rattle.mt_entry.specs.Entries.{entry_name_of}
use Rattle.mt_entry.proofs.writer.push_names.Given as goal

abbrev pub invariant-loop-name : goal.invariant-loop-name
invariant-loop-name l = l.bytes ≡ l.initial.bytes ++ flat_map name_bytes (map entry_name_of (take l.name-index l.names))
