-- The parts of an entry, and bytes that are none.
use Rattle.std.specs.Prelude.{ℕ, ◌≡◌, ◌≤◌, ◌<◌, ◌-◌, ◌^◌, Bool, IsUtf8, List, [], ◌∷◌, ◌++◌, length, map}
use Rattle.std.specs.List.{All, flat_map}
use Rattle.mt_tokens.specs.CacheEntries.{CacheEntry, CanBeKept, EntryName, IsEntryName, Says, entry_head, kind_byte, name_byte, name_bytes, sized, strip_byte, word}
use Rattle.mt_tokens.specs.Transform.{max_dependencies}
use Rattle.mt_tokens.specs.declared.source.DepKind.{DepKind}
use Rattle.mt_tokens.specs.declared.source.PathKind.{PathKind}
use Rattle.mt_transform.specs.declared.output.Name.{Name}
use Rattle.mt_entry.specs.Entries.{entry_name_of}
use Rattle.mt_entry.specs.declared.reader.Tail.{Tail}

-- ---- the parts of an entry

-- the bytes before the source
abbrev pub start_bytes : Bool → PathKind → List ℕ
start_bytes strip kind = entry_head ++ (strip_byte strip ∷ kind_byte kind ∷ [])

-- an entry up to its source, and what comes then
abbrev pub with_source : Bool → PathKind → List ℕ → List ℕ → List ℕ
with_source strip kind source rest = start_bytes strip kind ++ (sized source ++ rest)

-- names in bytes, after their number
abbrev pub counted : List EntryName → List ℕ
counted names = word (length names) ++ flat_map name_bytes names

-- what comes after the source
abbrev pub tail_bytes : List ℕ → ℕ → List EntryName → List ℕ
tail_bytes body dynamic names = sized body ++ (word dynamic ++ counted names)

-- ---- what is read

-- a text that an entry may have
pub record IsText (text : List ℕ) : Type 0 where
  pub utf8 : IsUtf8 text
  pub short : length text < 2 ^ 32

-- names that an entry may have
pub record AreEntryNames (names : List EntryName) : Type 0 where
  pub each : All IsEntryName names

-- names that bytes spell
pub record AreSpelled (bytes : List ℕ) (names : List Name) : Type 0 where
  pub good : AreEntryNames (map entry_name_of names)
  pub spelled : bytes ≡ flat_map name_bytes (map entry_name_of names)

-- names, no more than a source may have, that bytes spell after their number
pub record AreCounted (bytes : List ℕ) (names : List Name) : Type 0 where
  pub few : length names ≤ max_dependencies
  pub good : AreEntryNames (map entry_name_of names)
  pub spelled : bytes ≡ counted (map entry_name_of names)

-- what bytes say that come after a source
pub record IsTail (bytes : List ℕ) (tail : Tail) : Type 0 where
  pub body : IsText tail.body
  pub dynamic : tail.dynamic < 2 ^ 32
  pub few : length tail.names ≤ max_dependencies
  pub good : AreEntryNames (map entry_name_of tail.names)
  pub spelled : bytes ≡ tail_bytes tail.body tail.dynamic (map entry_name_of tail.names)

-- ---- what is none

-- bytes don't begin with these
pub record NoFront (front bytes : List ℕ) : Type 0 where
  pub none : (rest : List ℕ) → bytes ≡ front ++ rest → ⊥

-- no bytes after their number stand at the front
pub record NoSized (bytes : List ℕ) : Type 0 where
  pub none : (text rest : List ℕ) → length text < 2 ^ 32 → bytes ≡ sized text ++ rest → ⊥

-- no text after its length stands at the front
pub record NoText (bytes : List ℕ) : Type 0 where
  pub none : (text rest : List ℕ) → IsText text → bytes ≡ sized text ++ rest → ⊥

-- no kind of a name stands at the front
pub record NoKind (bytes : List ℕ) : Type 0 where
  pub none : (kind : DepKind) (rest : List ℕ) → bytes ≡ name_byte kind ∷ rest → ⊥

-- no name stands at the front
pub record NoName (bytes : List ℕ) : Type 0 where
  pub none : (name : EntryName) (rest : List ℕ) → IsEntryName name → bytes ≡ name_bytes name ++ rest → ⊥

-- bytes are no names of this number
pub record NoNames (count : ℕ) (bytes : List ℕ) : Type 0 where
  pub none : (names : List EntryName) → length names ≡ count → AreEntryNames names → bytes ≡ flat_map name_bytes names → ⊥

-- how far names are read: so many of them, and bytes are left. Bytes are no names of this number where these are none
-- of the number that is left
pub record HasRead (count at : ℕ) (bytes left : List ℕ) (names : List Name) : Type 0 where
  pub count_is : length names ≡ at
  pub good : AreEntryNames (map entry_name_of names)
  pub spelled : bytes ≡ flat_map name_bytes (map entry_name_of names) ++ left
  pub none : NoNames (count - at) left → NoNames count bytes

-- bytes are no names after their number
pub record NoCounted (bytes : List ℕ) : Type 0 where
  pub none : (names : List EntryName) → length names ≤ max_dependencies → AreEntryNames names → bytes ≡ counted names → ⊥

-- bytes are nothing that comes after the source of an entry
pub record NoTail (bytes : List ℕ) : Type 0 where
  pub none : (e : CacheEntry) → CanBeKept e → bytes ≡ tail_bytes e.body e.dynamic e.names → ⊥

-- an entry of this source, stripped so and of this kind, doesn't begin so
pub record NoStart (bytes : List ℕ) (strip : Bool) (kind : PathKind) (source : List ℕ) : Type 0 where
  pub none : (rest : List ℕ) → bytes ≡ with_source strip kind source rest → ⊥

-- no entry of this source, stripped so and of this kind, has these bytes
pub record IsNoEntry (bytes : List ℕ) (strip : Bool) (kind : PathKind) (source : List ℕ) : Type 0 where
  pub none : (e : CacheEntry) → Says bytes e → e.strip ≡ strip → e.kind ≡ kind → e.source ≡ source → ⊥
