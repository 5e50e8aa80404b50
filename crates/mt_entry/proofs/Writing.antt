-- What is written of an output is its entry.
use Rattle.std.proofs.Common.{◌≡◌, ◌<◌, ◌+◌, ◌∙◌, ℕ, List, [], ◌++◌, length, get_or, take, map, sym, ap, subst, append_assoc, flat_map, All}
use Rattle.std.proofs.lemmas.List.{get_or-map, length-map, map_more}
use Rattle.std.proofs.lemmas.List.Elements.{All-get_or, All-push}
use Rattle.mt_tokens.specs.CacheEntries.{IsEntryName, entry_bytes, name_bytes, sized, word}
use Rattle.mt_transform.specs.OutputValues.{OutputValue}
use Rattle.mt_transform.specs.declared.output.Name.{Name}
use Rattle.mt_entry.specs.Entries.{entry_name_of, entry_of}
use Rattle.mt_entry.specs.Readers.{AreEntryNames, start_bytes}

-- a name of names that an entry may have
pub name_at : (names : List Name) (i : ℕ) (x : Name) → i < length names → x ≡ get_or names i x → AreEntryNames (map entry_name_of names) → IsEntryName (entry_name_of x)
name_at names i x within is good =
    let at : get_or (map entry_name_of names) i (entry_name_of x) ≡ entry_name_of x = get_or-map entry_name_of names i x (entry_name_of x) within ∙ ap entry_name_of (sym is) in
    subst IsEntryName at (All-get_or IsEntryName (map entry_name_of names) i (entry_name_of x) (subst (λ n. i < n) (sym (length-map names entry_name_of)) within) good.each)

pub names_more : (names : List Name) (i : ℕ) (x : Name) → i < length names → x ≡ get_or names i x → AreEntryNames (map entry_name_of (take i names)) → IsEntryName (entry_name_of x) → AreEntryNames (map entry_name_of (take (i + 1) names))
names_more names i x within is good one =
    let last : IsEntryName (entry_name_of (get_or names i x)) = subst (λ y. IsEntryName (entry_name_of y)) is one in
    record { each = subst (All IsEntryName) (sym (map_more entry_name_of names i x within)) (All-push IsEntryName (map entry_name_of (take i names)) (entry_name_of (get_or names i x)) good.each last) }

joined : (a b c d e f : List ℕ) → ((((a ++ b) ++ c) ++ d) ++ e) ++ f ≡ a ++ (b ++ (c ++ (d ++ (e ++ f))))
joined a b c d e f =
    append_assoc (((a ++ b) ++ c) ++ d) e f
    ∙ append_assoc ((a ++ b) ++ c) d (e ++ f)
    ∙ append_assoc (a ++ b) c (d ++ (e ++ f))
    ∙ append_assoc a b (c ++ (d ++ (e ++ f)))

-- the parts of an entry, one after another, are its bytes
pub entry_written : (o : OutputValue) (bytes : List ℕ) → bytes ≡ ((((start_bytes o.strip o.kind ++ sized o.source) ++ sized o.body) ++ word o.dynamic) ++ word (length o.names)) ++ flat_map name_bytes (map entry_name_of o.names)
    → bytes ≡ entry_bytes (entry_of o)
entry_written o bytes e =
    e ∙ joined (start_bytes o.strip o.kind) (sized o.source) (sized o.body) (word o.dynamic) (word (length o.names)) (flat_map name_bytes (map entry_name_of o.names))
    ∙ ap (λ n. start_bytes o.strip o.kind ++ (sized o.source ++ (sized o.body ++ (word o.dynamic ++ (word n ++ flat_map name_bytes (map entry_name_of o.names)))))) (sym (length-map o.names entry_name_of))

pub entry_pushed : (o : OutputValue) (b0 b1 b2 b3 b4 b5 b6 start source body : List ℕ) (names : List Name) (dynamic count : ℕ)
    → b0 ≡ [] → b1 ≡ b0 ++ start → b2 ≡ b1 ++ sized source → b3 ≡ b2 ++ sized body → b4 ≡ b3 ++ word dynamic → b5 ≡ b4 ++ word count → b6 ≡ b5 ++ flat_map name_bytes (map entry_name_of names)
    → start ≡ start_bytes o.strip o.kind → source ≡ o.source → body ≡ o.body → dynamic ≡ o.dynamic → count ≡ length names → names ≡ o.names → b6 ≡ entry_bytes (entry_of o)
entry_pushed o b0 b1 b2 b3 b4 b5 b6 start source body names dynamic count e0 e1 e2 e3 e4 e5 e6 start_is source_is body_is dynamic_is count_is names_are =
    let f1 : b1 ≡ start_bytes o.strip o.kind = e1 ∙ ap (λ b. b ++ start) e0 ∙ start_is in
    let f2 : b2 ≡ start_bytes o.strip o.kind ++ sized o.source = e2 ∙ ap (λ b. b ++ sized source) f1 ∙ ap (λ s. start_bytes o.strip o.kind ++ sized s) source_is in
    let f3 : b3 ≡ (start_bytes o.strip o.kind ++ sized o.source) ++ sized o.body = e3 ∙ ap (λ b. b ++ sized body) f2 ∙ ap (λ s. (start_bytes o.strip o.kind ++ sized o.source) ++ sized s) body_is in
    let f4 : b4 ≡ ((start_bytes o.strip o.kind ++ sized o.source) ++ sized o.body) ++ word o.dynamic = e4 ∙ ap (λ b. b ++ word dynamic) f3 ∙ ap (λ n. ((start_bytes o.strip o.kind ++ sized o.source) ++ sized o.body) ++ word n) dynamic_is in
    let counts : count ≡ length o.names = count_is ∙ ap length names_are in
    let f5 : b5 ≡ (((start_bytes o.strip o.kind ++ sized o.source) ++ sized o.body) ++ word o.dynamic) ++ word (length o.names) = e5 ∙ ap (λ b. b ++ word count) f4 ∙ ap (λ n. (((start_bytes o.strip o.kind ++ sized o.source) ++ sized o.body) ++ word o.dynamic) ++ word n) counts in
    let f6 = e6 ∙ ap (λ b. b ++ flat_map name_bytes (map entry_name_of names)) f5 ∙ ap (λ ns. ((((start_bytes o.strip o.kind ++ sized o.source) ++ sized o.body) ++ word o.dynamic) ++ word (length o.names)) ++ flat_map name_bytes (map entry_name_of ns)) names_are in
    entry_written o b6 f6
