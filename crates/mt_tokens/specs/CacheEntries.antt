-- What a cache keeps of a source: what it becomes, in bytes.
use Rattle.std.specs.Prelude.{ℕ, ◌≡◌, ◌≤◌, ◌<◌, ◌^◌, Bool, true, false, IsUtf8, List, [], ◌∷◌, ◌++◌, map, length, Option, Some, None, Result, Ok, Err, codes}
use Rattle.std.specs.Int.{w32, to_le_bytes}
use Rattle.std.specs.List.{All, flat_map}
use Rattle.mt_tokens.specs.Deps.{Dependency}
use Rattle.mt_tokens.specs.Transform.{Transformed, max_dependencies, transformed}
use Rattle.mt_tokens.specs.declared.source.DepKind.{DepKind}
use Rattle.mt_tokens.specs.declared.source.DepKind.TheVariants as kind
use Rattle.mt_tokens.specs.declared.source.PathKind.{PathKind}
use Rattle.mt_tokens.specs.declared.source.PathKind.TheVariants.{Script, Json}
use Rattle.mt_tokens.specs.declared.source.SourceFault.{SourceFault}

-- a name that a source requires, and how
pub record EntryName : Type 0 where
  pub text : List ℕ
  pub kind : DepKind

-- a source, how it was made into a body, the body, how many calls name what only a run can tell, and the names that it requires
pub record CacheEntry : Type 0 where
  pub strip : Bool
  pub kind : PathKind
  pub source : List ℕ
  pub body : List ℕ
  pub dynamic : ℕ
  pub names : List EntryName

-- ---- the entry of a source

-- a dependency, without its place
abbrev pub entry_name : Dependency → EntryName
entry_name d = record { text = d.name; kind = d.kind }

-- the entry for what a source became: none where it is refused
abbrev pub transformed_entry : Bool → PathKind → List ℕ → Result Transformed SourceFault → Option CacheEntry
transformed_entry strip kind source (Ok t) = Some (record { strip = strip; kind = kind; source = source; body = t.body; dynamic = t.dynamic; names = map entry_name t.dependencies })
transformed_entry strip kind source (Err f) = None

-- the entry of a source
abbrev pub source_entry : Bool → PathKind → List ℕ → Option CacheEntry
source_entry strip kind source = transformed_entry strip kind source (transformed strip kind source)

-- ---- an entry in bytes

-- four bytes, the least first
abbrev pub word : ℕ → List ℕ
word n = to_le_bytes w32 n

-- bytes after their number
abbrev pub sized : List ℕ → List ℕ
sized bytes = word (length bytes) ++ bytes

abbrev pub strip_byte : Bool → ℕ
strip_byte false = 0
strip_byte true = 1

abbrev pub kind_byte : PathKind → ℕ
kind_byte Script = 0
kind_byte Json = 1

abbrev pub name_byte : DepKind → ℕ
name_byte kind.Require = 0
name_byte kind.Import = 1
name_byte kind.ImportCall = 2

-- the byte of its kind, and the name
abbrev pub name_bytes : EntryName → List ℕ
name_bytes name = name_byte name.kind ∷ sized name.text

-- the letters and the version that an entry begins with
abbrev pub entry_head : List ℕ
entry_head = codes "MTC" ++ (1 ∷ [])

-- the bytes of an entry, of version 1
abbrev pub entry_bytes : CacheEntry → List ℕ
entry_bytes e =
    entry_head ++ (strip_byte e.strip ∷ kind_byte e.kind ∷ (sized e.source ++ (sized e.body ++ (word e.dynamic ++ (word (length e.names) ++ flat_map name_bytes e.names)))))

-- ---- bytes that are an entry

-- a name that an entry may have
pub record IsEntryName (name : EntryName) : Type 0 where
  pub utf8 : IsUtf8 name.text
  pub short : length name.text < 2 ^ 32

-- what an entry may have: texts of UTF-8, lengths and a count of four bytes, and no more names than a source may have
pub record CanBeKept (e : CacheEntry) : Type 0 where
  pub source : length e.source < 2 ^ 32
  pub utf8 : IsUtf8 e.body
  pub body : length e.body < 2 ^ 32
  pub dynamic : e.dynamic < 2 ^ 32
  pub few : length e.names ≤ max_dependencies
  pub names : All IsEntryName e.names

-- bytes that say an entry
pub record Says (bytes : List ℕ) (e : CacheEntry) : Type 0 where
  pub can : CanBeKept e
  pub spelled : bytes ≡ entry_bytes e

-- bytes are honest where each entry that they say is the one of its own source
pub record IsHonest (bytes : List ℕ) : Type 0 where
  pub own : (e : CacheEntry) → Says bytes e → source_entry e.strip e.kind e.source ≡ Some e
