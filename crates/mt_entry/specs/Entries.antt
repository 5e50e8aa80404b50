-- The entry of an output.
use Rattle.std.specs.Prelude.{map}
use Rattle.mt_tokens.specs.CacheEntries.{CacheEntry, EntryName}
use Rattle.mt_transform.specs.OutputValues.{OutputValue}
use Rattle.mt_transform.specs.declared.output.Name.{Name}

-- a name of an output, as an entry has it
abbrev pub entry_name_of : Name → EntryName
entry_name_of name = record { text = name.text; kind = name.kind }

-- what an entry has of an output: all of it
abbrev pub entry_of : OutputValue → CacheEntry
entry_of o = record { strip = o.strip; kind = o.kind; source = o.source; body = o.body; dynamic = o.dynamic; names = map entry_name_of o.names }
