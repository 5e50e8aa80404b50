-- A line is read: its parts, one after another.
use Rattle.std.proofs.Common.{◌≡◌, ◌≤◌, ◌+◌, inl, inr, ◌∙◌, ℕ, List, [], ◌∷◌, ◌++◌, length, map, take, drop, slice_get, true, false, leb, ltb, eqb, nat_eq, is_some, Option, Some, None, Ok, refl, ap, sym, subst, arith, append_assoc, append-nil, length-append, codes}
use Rattle.std.specs.List.{AllByRecursion, AllZip, IsDistinct, before_first, after_first, flat_map, position_or_len, starts_with}
use Rattle.std.specs.Option.{option_map_or}
use Rattle.std.specs.Str.{bytes_eq}
use Rattle.std.specs.Cmp.Lexicographic.{nat_list_eq_equiv}
use Rattle.std.proofs.lemmas.Bool.{eqb-false, ne_eqb, le-leb, ltb-false, lt-ltb}
use Rattle.std.proofs.lemmas.List.{map-append, get_or_at, take_at, drop_at, get_or_append_left}
use Rattle.std.proofs.lemmas.List.Elements.{recursion_from_All}
use Rattle.std.proofs.lemmas.List.Sums.{fails_before_first, position_or_len_is}
use Rattle.mt_words.specs.Entries.{entry_of, rooted}
use Rattle.mt_words.specs.Fronts.{Front, has_mark, is_among, is_mark, is_whole, least_positionals, may_follow, names, new_entry, new_kind, front_after, start, with_joined, with_name, with_next, with_option, with_positional, with_spelled, with_value, with_word}
use Rattle.mt_words.specs.Lines.{AreEntries, ArePositionals, IsLine, IsPart, Part, Plain, Alone, Apart, Joined, dashed, option_in, positional_in, spelling}
use Rattle.mt_words.specs.Tables.{amounts, commands, named, options_of}
use Rattle.mt_words.specs.Values.{is_odd, is_value}
use Rattle.mt_words.specs.Words.{line_of, read_from, words_by}
use Rattle.mt_words.specs.declared.table.CommandSet.{CommandSet}
use Rattle.mt_words.specs.declared.table.Usage.{Usage}
use Rattle.mt_words.specs.declared.table.Usage.TheVariants.{Build, Replay, Grow}
use Rattle.mt_words.specs.declared.value.ValueKind.{ValueKind}
use Rattle.mt_words.specs.declared.value.ValueKind.TheVariants.{Flag}
use Rattle.mt_words.specs.declared.words.Words.{Words}
use Rattle.mt_words.proofs.Extends.{named_row}
use Rattle.mt_words.proofs.Fronts.{entry_rooted, follows_amount, follows_entry, taken}
use Rattle.mt_words.proofs.Lines.{by_name}

-- ---- what a list says of a place in it

all_at : {X : Type 0} (P : X → Type 0) (xs ys : List X) (y : X) → AllByRecursion P (xs ++ y ∷ ys) → P y
all_at P [] ys y h = h.0
all_at P (x ∷ xs) ys y h = all_at P xs ys y h.1

distinct_before : (xs ys : List (List ℕ)) (y : List ℕ) → IsDistinct bytes_eq (xs ++ y ∷ ys) → is_among xs y ≡ false
unfolding IsDistinct
distinct_before [] ys y d = refl
distinct_before (x ∷ xs) ys y d =
    let other : bytes_eq y x ≡ false = nat_list_eq_equiv.symm y x ∙ all_at (λ z. bytes_eq x z ≡ false) xs ys y d.0 in
    let rest : is_among xs y ≡ false = distinct_before xs ys y d.1 in
    rw other rest

zip_at : (kinds : List ValueKind) (xs ys : List (List ℕ)) (y : List ℕ) → AllZip (λ kind word. is_value kind word ≡ true) kinds (xs ++ y ∷ ys) → option_map_or (λ kind. is_value kind y) (slice_get kinds (length xs)) false ≡ true
zip_at [] [] ys y h = absurd h
zip_at [] (x ∷ xs) ys y h = absurd h
zip_at (k ∷ kinds) [] ys y h = h.0
zip_at (k ∷ kinds) (x ∷ xs) ys y h = zip_at kinds xs ys y h.1

-- ---- positionals

some_path : (o : Option (List ℕ)) → is_some o ≡ true → (path : List ℕ) × (o ≡ Some path)
some_path None h = cc
some_path (Some path) h = (path, refl)

entry_fits : (xs ys : List (List ℕ)) (w : List ℕ) → AreEntries (xs ++ w ∷ ys) → is_some (new_entry xs w) ≡ true
unfolding new_entry
entry_fits xs ys w h =
    let few = h.few in
    let count = length-append xs (w ∷ ys) in
    let room : ltb (length xs) 16 ≡ true = lt-ltb (length xs) 16 (omega (arith, few, count)) in
    let found : is_some (entry_of w) ≡ true = all_at (λ word. is_some (entry_of word) ≡ true) xs ys w (recursion_from_All (λ word. is_some (entry_of word) ≡ true) (xs ++ w ∷ ys) h.paths) in
    let p = some_path (entry_of w) found in
    let entry : entry_of w ≡ Some p.0 = p.1 in
    let once : IsDistinct bytes_eq (map rooted xs ++ rooted w ∷ map rooted ys) = subst (IsDistinct bytes_eq) (map-append rooted xs (w ∷ ys)) h.once in
    let new : is_among (map rooted xs) p.0 ≡ false = ap (is_among (map rooted xs)) (entry_rooted w p.0 p.1) ∙ distinct_before (map rooted xs) (map rooted ys) (rooted w) once in
    rw (room, entry, new) refl

fits : (u : Usage) (xs ys : List (List ℕ)) (w : List ℕ) → ArePositionals u (xs ++ w ∷ ys) → may_follow u xs w ≡ true
fits Build xs ys w h = follows_entry Build xs w refl ∙ entry_fits xs ys w h
fits Replay xs ys w h = follows_entry Replay xs w refl ∙ entry_fits xs ys w h
fits Grow xs ys w h = follows_amount Grow xs w refl ∙ zip_at amounts xs ys w h

-- ---- one part

no_dash : (w : List ℕ) → is_odd w ≡ false → starts_with nat_eq w (codes "--") ≡ false
no_dash [] h = cc
no_dash (b ∷ bs) h =
    let other : eqb 45 b ≡ false = ne_eqb 45 b (λ e. eqb-false b 45 h (sym e)) in
    rw other refl

plain_next : (f : Front) (w : List ℕ) → f.waiting ≡ None → is_odd w ≡ false → may_follow f.usage f.positionals w ≡ true → front_after f w ≡ Some (record f { positionals = f.positionals ++ w ∷ [] })
unfolding front_after with_word
plain_next f w n i m =
    let bare = no_dash w i in
    let word : with_word f w ≡ with_positional f w = rw (bare, i) refl in
    ap (λ x. with_next x f w) n ∙ word ∙ sym (taken f w m)

dashed_next : (f : Front) (text : List ℕ) → f.waiting ≡ None → front_after f (dashed text) ≡ with_spelled f text
unfolding front_after with_word
dashed_next f text n = ap (λ x. with_next x f (dashed text)) n

option_names : (u : Usage) → AllByRecursion (λ (row : List ℕ × ValueKind). has_mark row.0 ≡ false) (options_of u)
unfolding options_of
option_names Build = (refl, (refl, (refl, (refl, (refl, (refl, tt))))))
option_names Replay = (refl, (refl, (refl, (refl, (refl, (refl, (refl, tt)))))))
option_names Grow = (refl, tt)

-- no option's name has the byte that stands before a value
no_mark : (u : Usage) (name : List ℕ) (kind : ValueKind) → named (options_of u) name ≡ Some kind → has_mark name ≡ false
no_mark u name kind h = let r = named_row (λ (row : List ℕ × ValueKind). has_mark row.0 ≡ false) name kind (options_of u) (option_names u) h in subst (λ n. has_mark n ≡ false) r.3 r.1

kind_of : (f : Front) (name : List ℕ) (kind : ValueKind) → named (options_of f.usage) name ≡ Some kind → is_among (names f.options) name ≡ false → new_kind f name ≡ Some kind
unfolding new_kind
kind_of f name kind h n = rw n h

bare_next : (f : Front) (name : List ℕ) (kind : ValueKind) → f.waiting ≡ None → named (options_of f.usage) name ≡ Some kind → is_among (names f.options) name ≡ false → front_after f (dashed name) ≡ Some (with_name f name kind)
unfolding with_spelled
bare_next f name kind w h n =
    let clear = no_mark f.usage name kind h in
    let new = kind_of f name kind h n in
    dashed_next f name w ∙ rw (clear, new) refl

value_taken : (f : Front) (name value : List ℕ) (kind : ValueKind) → is_value kind value ≡ true → with_value f name kind value ≡ Some (with_option f name value)
value_taken f name value kind h = rw h refl

no_flag : (kind : ValueKind) (value : List ℕ) → is_value kind value ≡ true → kind ≡ Flag → ⊥
unfolding is_value
no_flag kind value h e = let none : is_value Flag value ≡ true = subst (λ k. is_value k value ≡ true) e h in cc

-- an option that waits, and its value
apart_next : (f : Front) (name value : List ℕ) (kind : ValueKind) → f.waiting ≡ None → named (options_of f.usage) name ≡ Some kind → is_among (names f.options) name ≡ false → is_value kind value ≡ true → (g : Front) × (front_after f (dashed name) ≡ Some g) × (front_after g value ≡ Some (with_option f name value))
unfolding front_after
apart_next f name value kind w h n v =
    elim (by_name f name kind) [
      | inl p ↦ absurd (no_flag kind value v p.0)
      | inr p ↦ (record f { waiting = Some (name, kind) }, bare_next f name kind w h n ∙ ap Some p.0, value_taken (record f { waiting = Some (name, kind) }) name value kind v)
    ]

-- the parts round the `=` after a name
mark_after : (name value : List ℕ) → has_mark name ≡ false → position_or_len is_mark (name ++ 61 ∷ value) ≡ length name
mark_after name value h =
    let clear : length name ≤ position_or_len is_mark name = ltb-false (position_or_len is_mark name) (length name) h in
    let count = length-append name (61 ∷ value) in
    position_or_len_is is_mark (name ++ 61 ∷ value) (length name) 0 (omega (arith, count))
    (λ k l. ap is_mark (get_or_append_left name (61 ∷ value) 0 k l) ∙ fails_before_first is_mark name k 0 (omega (arith, clear, l)))
    (λ l. ap is_mark (get_or_at name 61 value 0 (length name) refl))

joined_next : (f : Front) (name value : List ℕ) (kind : ValueKind) → f.waiting ≡ None → named (options_of f.usage) name ≡ Some kind → is_among (names f.options) name ≡ false → is_value kind value ≡ true → front_after f (dashed (name ++ 61 ∷ value)) ≡ Some (with_option f name value)
unfolding with_spelled
joined_next f name value kind w h n v =
    let text = name ++ 61 ∷ value in
    let at = mark_after name value (no_mark f.usage name kind h) in
    let count = length-append name (61 ∷ value) in
    let marked : has_mark text ≡ true = lt-ltb (position_or_len is_mark text) (length text) (omega (arith, at, count)) in
    let before : before_first is_mark text ≡ name = ap (λ k. take k text) at ∙ take_at name (61 ∷ value) (length name) refl in
    let after : after_first is_mark text ≡ value = ap (λ k. drop (k + 1) text) at ∙ ap (drop (length name + 1)) (sym (append_assoc name (61 ∷ []) value)) ∙ drop_at (name ++ 61 ∷ []) value (length name + 1) (length-append name (61 ∷ [])) in
    let new = kind_of f name kind h n in
    let spelled : with_spelled f text ≡ with_joined f (before_first is_mark text) (after_first is_mark text) = rw marked refl in
    let joined : with_joined f name value ≡ with_value f name kind value = rw new refl in
    dashed_next f text w ∙ spelled ∙ ap (λ b. with_joined f b (after_first is_mark text)) before ∙ ap (λ b. with_joined f name b) after ∙ joined ∙ value_taken f name value kind v

-- ---- all parts

-- the front after some parts
after : Front → List Part → Front
after f parts = record { usage = f.usage; positionals = f.positionals ++ flat_map positional_in parts; options = f.options ++ flat_map option_in parts; waiting = None }

-- the same after one more positional, and after one more option
after_plain : (f : Front) (w : List ℕ) (parts : List Part) → after (record f { positionals = f.positionals ++ w ∷ [] }) parts ≡ after f (Plain w ∷ parts)
unfolding after
after_plain f w parts = ap (λ xs. record { usage = f.usage; positionals = xs; options = f.options ++ flat_map option_in parts; waiting = None }) (append_assoc f.positionals (w ∷ []) (flat_map positional_in parts))

abbrev with_options : Front → List Part → List (List ℕ × List ℕ) → Front
with_options f parts os = record { usage = f.usage; positionals = f.positionals ++ flat_map positional_in parts; options = os; waiting = None }

after_option : (f : Front) (name value : List ℕ) (parts : List Part) → after (with_option f name value) parts ≡ with_options f parts (f.options ++ (name, value) ∷ flat_map option_in parts)
unfolding after
after_option f name value parts = ap (with_options f parts) (append_assoc f.options ((name, value) ∷ []) (flat_map option_in parts))

one_read : (n : ℕ) (f g : Front) (w : List ℕ) (ws : List (List ℕ)) → front_after f w ≡ Some g → read_from n f (w ∷ ws) ≡ read_from (n + 1) g ws
unfolding read_from
one_read n f g w ws h = rw h refl

whole_by : (u : Usage) (ps : List (List ℕ)) → ArePositionals u ps → leb (least_positionals u) (length ps) ≡ true
unfolding amounts
whole_by Build ps h = le-leb 1 (length ps) h.some
whole_by Replay ps h = le-leb 1 (length ps) h.some
whole_by Grow [] h = absurd h
whole_by Grow (a ∷ []) h = absurd h.1
whole_by Grow (a ∷ b ∷ []) h = absurd h.1.1
whole_by Grow (a ∷ b ∷ c ∷ ps) h = le-leb 3 (length (a ∷ b ∷ c ∷ ps)) (omega arith)

whole_of : (f : Front) → f.waiting ≡ None → ArePositionals f.usage f.positionals → is_whole f ≡ true
unfolding is_whole
whole_of f n h = let enough = whole_by f.usage f.positionals h in rw (n, enough) refl

nothing_after : (f : Front) → f.waiting ≡ None → f ≡ after f []
unfolding after
nothing_after f n =
    ap (λ w. record { usage = f.usage; positionals = f.positionals; options = f.options; waiting = w }) n
    ∙ ap (λ xs. record { usage = f.usage; positionals = xs; options = f.options; waiting = None }) (sym (append-nil f.positionals))
    ∙ ap (λ xs. record { usage = f.usage; positionals = f.positionals ++ []; options = xs; waiting = None }) (sym (append-nil f.options))

end_read : (n : ℕ) (f : Front) → is_whole f ≡ true → read_from n f [] ≡ Ok f
unfolding read_from
end_read n f h = rw h refl

new_name : (os more : List (List ℕ × List ℕ)) (name value : List ℕ) → IsDistinct bytes_eq (names (os ++ (name, value) ∷ more)) → is_among (names os) name ≡ false
new_name os more name value d = distinct_before (names os) (names more) name (subst (IsDistinct bytes_eq) (map-append (λ (o : List ℕ × List ℕ). o.0) os ((name, value) ∷ more)) d)

-- what the rest of a line must be
record Rest (f : Front) (parts : List Part) : Type 0 where
  each : AllByRecursion (IsPart f.usage) parts
  fit : ArePositionals f.usage (f.positionals ++ flat_map positional_in parts)
  once : IsDistinct bytes_eq (names (f.options ++ flat_map option_in parts))

rest_option : (f : Front) (name value : List ℕ) (parts : List Part) → AllByRecursion (IsPart f.usage) parts → ArePositionals f.usage (f.positionals ++ flat_map positional_in parts) → IsDistinct bytes_eq (names (f.options ++ (name, value) ∷ flat_map option_in parts)) → Rest (with_option f name value) parts
rest_option f name value parts e h d = record { each = e; fit = h; once = subst (λ os. IsDistinct bytes_eq (names os)) (sym (append_assoc f.options ((name, value) ∷ []) (flat_map option_in parts))) d }

complete : (n : ℕ) (f : Front) (parts : List Part) → f.waiting ≡ None → Rest f parts → read_from n f (flat_map spelling parts) ≡ Ok (after f parts)
unfolding after
complete n f [] w r =
    let fit = subst (ArePositionals f.usage) (append-nil f.positionals) r.fit in
    end_read n f (whole_of f w fit) ∙ ap (λ g. Ok g) (nothing_after f w)
complete n f (Plain word ∷ parts) w r =
    let next = plain_next f word w r.each.0 (fits f.usage f.positionals (flat_map positional_in parts) word r.fit) in
    let rest : Rest (record f { positionals = f.positionals ++ word ∷ [] }) parts = record { each = r.each.1; fit = subst (ArePositionals f.usage) (sym (append_assoc f.positionals (word ∷ []) (flat_map positional_in parts))) r.fit; once = r.once } in
    one_read n f (record f { positionals = f.positionals ++ word ∷ [] }) word (flat_map spelling parts) next
    ∙ complete (n + 1) (record f { positionals = f.positionals ++ word ∷ [] }) parts w rest
    ∙ ap (λ g. Ok g) (after_plain f word parts)
complete n f (Alone name ∷ parts) w r =
    let next = bare_next f name Flag w r.each.0 (new_name f.options (flat_map option_in parts) name [] r.once) in
    one_read n f (with_option f name []) (dashed name) (flat_map spelling parts) next
    ∙ complete (n + 1) (with_option f name []) parts refl (rest_option f name [] parts r.each.1 r.fit r.once)
    ∙ ap (λ g. Ok g) (after_option f name [] parts)
complete n f (Apart name value ∷ parts) w r =
    let o = r.each.0 in
    let next = apart_next f name value o.kind w o.known (new_name f.options (flat_map option_in parts) name value r.once) o.fits in
    one_read n f next.0 (dashed name) (value ∷ flat_map spelling parts) next.1
    ∙ one_read (n + 1) next.0 (with_option f name value) value (flat_map spelling parts) next.2
    ∙ complete (n + 1 + 1) (with_option f name value) parts refl (rest_option f name value parts r.each.1 r.fit r.once)
    ∙ ap (λ g. Ok g) (after_option f name value parts)
complete n f (Joined name value ∷ parts) w r =
    let o = r.each.0 in
    let next = joined_next f name value o.kind w o.known (new_name f.options (flat_map option_in parts) name value r.once) o.fits in
    one_read n f (with_option f name value) (dashed (name ++ 61 ∷ value)) (flat_map spelling parts) next
    ∙ complete (n + 1) (with_option f name value) parts refl (rest_option f name value parts r.each.1 r.fit r.once)
    ∙ ap (λ g. Ok g) (after_option f name value parts)

command_read : (set : CommandSet) (command : List ℕ) (ws : List (List ℕ)) (u : Usage) → named (commands set) command ≡ Some u → line_of set (command ∷ ws) ≡ words_by command (read_from 2 (start u) ws)
unfolding line_of
command_read set command ws u h = rw h refl

-- a line is read
pub line_read : (set : CommandSet) (line : List (List ℕ)) (words : Words) → IsLine set line words → line_of set line ≡ Ok words
unfolding after
line_read set line words l =
    let fit = subst (ArePositionals l.usage) l.positionals l.fit in
    let once = subst (λ os. IsDistinct bytes_eq (names os)) l.options l.once in
    let rest : Rest (start l.usage) l.parts = record { each = recursion_from_All (IsPart l.usage) l.parts l.each; fit = fit; once = once } in
    ap (line_of set) l.spelled
    ∙ command_read set words.command (flat_map spelling l.parts) l.usage l.command
    ∙ ap (words_by words.command) (complete 2 (start l.usage) l.parts refl rest)
    ∙ ap (λ xs. Ok (record { command = words.command; positionals = xs; options = flat_map option_in l.parts })) (sym l.positionals)
    ∙ ap (λ os. Ok (record { command = words.command; positionals = words.positionals; options = os })) (sym l.options)
