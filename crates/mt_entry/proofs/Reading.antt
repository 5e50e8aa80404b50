-- The names of an entry, and what comes after its source.
use Rattle.std.proofs.Common.{arith, ◌≡◌, ◌<◌, ◌≤◌, ◌+◌, ◌-◌, ◌^◌, ◌∙◌, ℕ, suc, pred, Bool, List, [], ◌∷◌, ◌++◌, length, map, IsUtf8, sym, ap, subst, append_assoc, append-nil, flat_map, All}
use Rattle.std.proofs.lemmas.List.{append_cancel_left, length-map, length_push, map_push}
use Rattle.std.proofs.lemmas.List.Concat.{flat_map-append}
use Rattle.std.proofs.lemmas.List.Elements.{All-head, All-push, All-tail}
use Rattle.mt_tokens.specs.CacheEntries.{CacheEntry, CanBeKept, EntryName, IsEntryName, Says, name_bytes, sized, word}
use Rattle.mt_tokens.specs.Transform.{max_dependencies}
use Rattle.mt_tokens.specs.declared.source.PathKind.{PathKind}
use Rattle.mt_tokens.specs.Sources.{max_source_bytes}
use Rattle.mt_transform.specs.OutputValues.{OutputValue}
use Rattle.mt_transform.specs.declared.output.Name.{Name}
use Rattle.mt_entry.specs.Entries.{entry_name_of, entry_of}
use Rattle.mt_entry.specs.declared.reader.Tail.{Tail}
use Rattle.mt_entry.specs.Readers.{AreEntryNames, HasRead, IsNoEntry, IsTail, IsText, NoCounted, NoName, NoNames, NoTail, counted, start_bytes, tail_bytes, with_source}
use Rattle.mt_entry.proofs.Prefixes.{same_name, same_sized, same_word}

-- ---- names

-- one name more
pub names_good : (names : List Name) (name : Name) → AreEntryNames (map entry_name_of names) → IsEntryName (entry_name_of name) → AreEntryNames (map entry_name_of (names ++ name ∷ []))
names_good names name good is = record { each = subst (All IsEntryName) (sym (map_push entry_name_of names name)) (All-push IsEntryName (map entry_name_of names) (entry_name_of name) good.each is) }

pub names_spelled : (bytes left rest : List ℕ) (names : List Name) (name : Name) → bytes ≡ flat_map name_bytes (map entry_name_of names) ++ left → left ≡ name_bytes (entry_name_of name) ++ rest
    → bytes ≡ flat_map name_bytes (map entry_name_of (names ++ name ∷ [])) ++ rest
names_spelled bytes left rest names name e f =
    let more : flat_map name_bytes (map entry_name_of (names ++ name ∷ [])) ≡ flat_map name_bytes (map entry_name_of names) ++ name_bytes (entry_name_of name)
    = ap (flat_map name_bytes) (map_push entry_name_of names name) ∙ flat_map-append name_bytes (map entry_name_of names) (entry_name_of name ∷ []) ∙ ap (λ l. flat_map name_bytes (map entry_name_of names) ++ l) (append-nil (name_bytes (entry_name_of name))) in
    e ∙ ap (λ l. flat_map name_bytes (map entry_name_of names) ++ l) f ∙ sym (append_assoc (flat_map name_bytes (map entry_name_of names)) (name_bytes (entry_name_of name)) rest) ∙ ap (λ f. f ++ rest) (sym more)

-- names that begin with one that is read, and the others
names_after : (n : ℕ) (left rest : List ℕ) (name : EntryName) → left ≡ name_bytes name ++ rest → IsEntryName name → NoNames n rest → (names : List EntryName) → length names ≡ suc n → AreEntryNames names → left ≡ flat_map name_bytes names → ⊥
names_after n left rest name e is none [] l good spelled = absurd (omega arith)
names_after n left rest name e is none (x ∷ xs) l good spelled =
    let s = same_name name x rest (flat_map name_bytes xs) is (All-head IsEntryName x xs good.each) (sym e ∙ spelled) in
    none.none xs (ap pred l) (record { each = All-tail IsEntryName x xs good.each }) s.1

pub none_after : (m n : ℕ) (left rest : List ℕ) (name : EntryName) → m ≡ n + 1 → left ≡ name_bytes name ++ rest → IsEntryName name → NoNames n rest → NoNames m left
none_after m n left rest name more e is none = record { none = λ names l good spelled. names_after n left rest name e is none names (l ∙ omega (arith, more)) good spelled }

names_turn_count : (names more : List Name) (name : Name) (at : ℕ) → more ≡ names ++ name ∷ [] → length names ≡ at → length more ≡ at + 1
names_turn_count names more name at is count = ap length is ∙ length_push names name ∙ ap (λ n. n + 1) count

names_without : (n : ℕ) (left : List ℕ) → NoName left → (names : List EntryName) → length names ≡ suc n → AreEntryNames names → left ≡ flat_map name_bytes names → ⊥
names_without n left none [] l good spelled = absurd (omega arith)
names_without n left none (x ∷ xs) l good spelled = none.none x (flat_map name_bytes xs) (All-head IsEntryName x xs good.each) spelled

pub none_without : (m n : ℕ) (left : List ℕ) → m ≡ n + 1 → NoName left → NoNames m left
none_without m n left more none = record { none = λ names l good spelled. names_without n left none names (l ∙ omega (arith, more)) good spelled }

-- a turn: one name more is read
pub read_turn : (count at : ℕ) (bytes left rest : List ℕ) (names more : List Name) (name : Name) → at < count → HasRead count at bytes left names → more ≡ names ++ name ∷ [] → left ≡ name_bytes (entry_name_of name) ++ rest → IsEntryName (entry_name_of name)
    → HasRead count (at + 1) bytes rest more
read_turn count at bytes left rest names more name within has is e good = record {
  count_is = names_turn_count names more name at is has.count_is;
  good = subst (λ ns. AreEntryNames (map entry_name_of ns)) (sym is) (names_good names name has.good good);
  spelled = subst (λ ns. bytes ≡ flat_map name_bytes (map entry_name_of ns) ++ rest) (sym is) (names_spelled bytes left rest names name has.spelled e);
  none = λ n. has.none (none_after (count - at) (count - (at + 1)) left rest (entry_name_of name) (omega (arith, within)) e good n);
}

-- no name stands where one is wanted
pub read_no_name : (count at : ℕ) (bytes left : List ℕ) (names : List Name) → at < count → HasRead count at bytes left names → NoName left → NoNames count bytes
read_no_name count at bytes left names within has n = has.none (none_without (count - at) (count - (at + 1)) left (omega (arith, within)) n)

-- ---- what comes after the source

after_body : (bytes rest body : List ℕ) → bytes ≡ sized body ++ rest → IsText body → (e : CacheEntry) → CanBeKept e → bytes ≡ tail_bytes e.body e.dynamic e.names → rest ≡ word e.dynamic ++ counted e.names
after_body bytes rest body is text e can spelled = (same_sized body e.body rest (word e.dynamic ++ counted e.names) text.short can.body (sym is ∙ spelled)).1

pub tail_without_names : (bytes rest after body : List ℕ) (n : ℕ) → bytes ≡ sized body ++ rest → IsText body → rest ≡ word n ++ after → n < 2 ^ 32 → NoCounted after → NoTail bytes
tail_without_names bytes rest after body n is text dynamic small none = record {
  none = λ e can spelled.
      let more = same_word n e.dynamic after (counted e.names) small can.dynamic (sym dynamic ∙ after_body bytes rest body is text e can spelled) in
      none.none e.names can.few (record { each = can.names }) more.1;
}

-- ---- an entry

at_entry : (bytes source : List ℕ) (strip : Bool) (kind : PathKind) (e : CacheEntry) → Says bytes e → e.strip ≡ strip → e.kind ≡ kind → e.source ≡ source → bytes ≡ with_source strip kind source (tail_bytes e.body e.dynamic e.names)
at_entry bytes source strip kind e s p k is =
    s.spelled
    ∙ ap (λ x. with_source x e.kind e.source (tail_bytes e.body e.dynamic e.names)) p
    ∙ ap (λ x. with_source strip x e.source (tail_bytes e.body e.dynamic e.names)) k
    ∙ ap (λ x. with_source strip kind x (tail_bytes e.body e.dynamic e.names)) is

pub entry_without_tail : (bytes source rest : List ℕ) (strip : Bool) (kind : PathKind) → bytes ≡ with_source strip kind source rest → NoTail rest → IsNoEntry bytes strip kind source
entry_without_tail bytes source rest strip kind e none = record {
  none = λ f s p k is.
      let same : with_source strip kind source rest ≡ with_source strip kind source (tail_bytes f.body f.dynamic f.names) = sym e ∙ at_entry bytes source strip kind f s p k is in
      let more = append_cancel_left (start_bytes strip kind) (sized source ++ rest) (sized source ++ tail_bytes f.body f.dynamic f.names) same in
      none.none f s.can (append_cancel_left (sized source) rest (tail_bytes f.body f.dynamic f.names) more);
}

-- an entry that can be
pub can_be_kept : (o : OutputValue) → length o.source ≤ max_source_bytes → IsUtf8 o.body → length o.body < 2 ^ 32 → o.dynamic < 2 ^ 32 → length o.names ≤ max_dependencies → AreEntryNames (map entry_name_of o.names) → CanBeKept (entry_of o)
can_be_kept o small utf8 body dynamic few good = record {
  source = omega (arith, small);
  utf8 = utf8;
  body = body;
  dynamic = dynamic;
  few = subst (λ n. n ≤ max_dependencies) (sym (length-map o.names entry_name_of)) few;
  names = good.each;
}

-- what is read is what the bytes say
pub entry_said : (bytes source rest : List ℕ) (strip : Bool) (kind : PathKind) (tail : Tail) (o : OutputValue) → length source ≤ max_source_bytes → bytes ≡ with_source strip kind source rest → IsTail rest tail
    → o ≡ record { source = source; strip = strip; kind = kind; body = tail.body; names = tail.names; dynamic = tail.dynamic } → Says bytes (entry_of o)
entry_said bytes source rest strip kind tail o small e is same = subst (λ p. Says bytes (entry_of p)) (sym same) (record {
  can = can_be_kept (record { source = source; strip = strip; kind = kind; body = tail.body; names = tail.names; dynamic = tail.dynamic }) small is.body.utf8 is.body.short is.dynamic is.few is.good;
  spelled = e ∙ ap (with_source strip kind source) is.spelled;
})
