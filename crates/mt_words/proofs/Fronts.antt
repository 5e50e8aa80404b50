-- The steps of the front of a line, by what the parts of the reader give.
use Rattle.std.proofs.Common.{◌≡◌, ◌<◌, ◌≤◌, ◌∙◌, ℕ, List, [], ◌∷◌, ◌++◌, length, map, slice_get, Bool, true, false, cond, ltb, Option, Some, None, is_some, Result, Ok, Err, refl, ap, sym, subst, arith}
use Rattle.std.specs.FinMap.{FinMap, insert}
use Rattle.std.specs.Cmp.Lexicographic.{slice_cmp}
use Rattle.std.specs.Ordering.{nat_cmp}
use Rattle.std.specs.List.{before_first, after_first, position_or_len}
use Rattle.std.specs.Option.{option_and_then, option_map_or}
use Rattle.std.specs.Result.{result_ok}
use Rattle.std.proofs.lemmas.Bool.{lt-ltb, le-ltb, ltb-true}
use Rattle.std.proofs.lemmas.List.{map-append}
use Rattle.mt_path.specs.Names.{is_root}
use Rattle.mt_path.specs.Parse.{parsed}
use Rattle.mt_path.specs.declared.path.PathFault.{PathFault}
use Rattle.mt_words.specs.Entries.{entry_of, rooted}
use Rattle.mt_words.specs.Fronts.{Front, entries, has_mark, is_among, is_build, is_mark, may_follow, names, new_entry, new_kind, front_after, with_bare, with_joined, with_positional, with_spelled, with_value, with_word}
use Rattle.mt_words.specs.Keys.{HasKeys}
use Rattle.mt_words.specs.Tables.{amounts, named, options_of}
use Rattle.mt_words.specs.Values.{is_odd, is_value}
use Rattle.mt_words.specs.declared.table.Usage.{Usage}
use Rattle.mt_words.specs.declared.table.Usage.TheVariants.{Build, Replay, Grow}
use Rattle.mt_words.specs.declared.value.ValueKind.{ValueKind}
use Rattle.mt_words.proofs.Keys.{keys_more}

-- an option that was given before
pub kind_given : (f : Front) (name : List ℕ) → is_among (names f.options) name ≡ true → None ≡ new_kind f name
unfolding new_kind
kind_given f name h = rw h refl

-- one that wasn't
pub kind_new : (f : Front) (name : List ℕ) (k : Option ValueKind) → is_among (names f.options) name ≡ false → k ≡ named (options_of f.usage) name → k ≡ new_kind f name
unfolding new_kind
kind_new f name k h e = rw h e

-- an option with its value in one word
pub spelled_joined : (f : Front) (text before after : List ℕ) → before ≡ before_first is_mark text → after ≡ after_first is_mark text → position_or_len is_mark text < length text → with_joined f before after ≡ with_spelled f text
unfolding with_spelled
spelled_joined f text before after h k l =
    let marked : has_mark text ≡ true = lt-ltb (position_or_len is_mark text) (length text) l in
    rw (h, k, marked) refl

-- one without a value in the same word
pub spelled_bare : (f : Front) (text : List ℕ) → position_or_len is_mark text ≡ length text → with_bare f text ≡ with_spelled f text
unfolding with_spelled
spelled_bare f text h =
    let marked : has_mark text ≡ false = le-ltb (position_or_len is_mark text) (length text) (omega (arith, h)) in
    rw marked refl

-- a value of a value
pub two_steps : {X Y : Type 0} (g : X → Option Y) (o : Option X) (y : Y) → option_and_then g o ≡ Some y → (x : X) × (o ≡ Some x) × (g x ≡ Some y)
two_steps g (Some x) y h = (x, refl, h)
two_steps g None y h = cc

-- a value that a failed test lets through
passed : {X : Type 0} (b : Bool) (x y : X) → cond b None (Some x) ≡ Some y → (b ≡ false) × (x ≡ y)
passed false x y h = (refl, cc)
passed true x y h = cc

through : {X : Type 0} (b : Bool) (o : Option X) (y : X) → cond b o None ≡ Some y → (b ≡ true) × (o ≡ Some y)
through true o y h = (refl, h)
through false o y h = cc

pub passed_on : {X : Type 0} (b : Bool) (o : Option X) (y : X) → cond b None o ≡ Some y → (b ≡ false) × (o ≡ Some y)
passed_on false o y h = (refl, h)
passed_on true o y h = cc

-- a text that is parsed is its own path
parsed_same : (text path : List ℕ) → parsed text ≡ Ok path → path ≡ text
parsed_same [] path h = cc
parsed_same (c ∷ []) path h = grind arith
parsed_same (c ∷ b ∷ bs) path h = grind arith

ok_of : (r : Result (List ℕ) PathFault) (path : List ℕ) → result_ok r ≡ Some path → r ≡ Ok path
ok_of (Ok p) path h = cc
ok_of (Err e) path h = cc

-- the entry that a word names is the word with `/` before it
pub entry_rooted : (word path : List ℕ) → entry_of word ≡ Some path → path ≡ rooted word
unfolding entry_of
entry_rooted word path h =
    let o = passed_on (is_odd word) (option_and_then (λ p. cond (is_root p) None (Some p)) (result_ok (parsed (rooted word)))) path h in
    let p = two_steps (λ p. cond (is_root p) None (Some p)) (result_ok (parsed (rooted word))) path o.1 in
    let q = passed (is_root p.0) p.0 path p.2 in
    let same = parsed_same (rooted word) p.0 (ok_of (parsed (rooted word)) p.0 p.1) in
    sym q.1 ∙ same

-- the test of a further entry
pub follows_entry : (u : Usage) (ws : List (List ℕ)) (word : List ℕ) → is_build u ≡ true → may_follow u ws word ≡ is_some (new_entry ws word)
unfolding may_follow
follows_entry Build ws word h = refl
follows_entry Replay ws word h = refl
follows_entry Grow ws word h = cc

-- the test of a further number
pub follows_amount : (u : Usage) (ws : List (List ℕ)) (word : List ℕ) → is_build u ≡ false → may_follow u ws word ≡ option_map_or (λ kind. is_value kind word) (slice_get amounts (length ws)) false
unfolding may_follow
follows_amount Grow ws word h = refl
follows_amount Build ws word h = cc
follows_amount Replay ws word h = cc

-- the paths of entries
pub entries_build : (u : Usage) (ws : List (List ℕ)) → is_build u ≡ true → entries u ws ≡ map rooted ws
entries_build Build ws h = refl
entries_build Replay ws h = refl
entries_build Grow ws h = cc

pub entries_grow : (u : Usage) (ws : List (List ℕ)) → is_build u ≡ false → entries u ws ≡ []
entries_grow Grow ws h = refl
entries_grow Build ws h = cc
entries_grow Replay ws h = cc

refused : (f : Front) (word : List ℕ) → may_follow f.usage f.positionals word ≡ false → None ≡ with_positional f word
unfolding with_positional
refused f word h = rw h refl

pub taken : (f : Front) (word : List ℕ) → may_follow f.usage f.positionals word ≡ true → Some (record f { positionals = f.positionals ++ word ∷ [] }) ≡ with_positional f word
unfolding with_positional
taken f word h = rw h refl

-- the same front, with one more positional
pub grown : (f g : Front) (ps : List (List ℕ)) (word : List ℕ) → f ≡ g → ps ≡ f.positionals ++ word ∷ [] → record f { positionals = ps } ≡ record g { positionals = g.positionals ++ word ∷ [] }
grown f g ps word e p = ap (λ xs. record f { positionals = xs }) p ∙ ap (λ (h : Front). record h { positionals = h.positionals ++ word ∷ [] }) e

-- as many entries as there may be
pub entry_full : (f g : Front) (word : List ℕ) → f ≡ g → 16 ≤ length f.positionals → None ≡ new_entry g.positionals word
unfolding new_entry
entry_full f g word e h =
    let full : ltb (length f.positionals) 16 ≡ false = le-ltb (length f.positionals) 16 h in
    let none : None ≡ new_entry f.positionals word = rw full refl in
    none ∙ ap (λ (x : Front). new_entry x.positionals word) e

-- the path of an entry, by whether a word before names it
pub entry_by : (f g : Front) (word path : List ℕ) (before : Bool) → f ≡ g → is_build f.usage ≡ true → length f.positionals < 16 → Some path ≡ entry_of word → is_among (entries f.usage f.positionals) path ≡ before → cond before None (Some path) ≡ new_entry g.positionals word
unfolding new_entry
entry_by f g word path before e b l h k =
    let room : ltb (length f.positionals) 16 ≡ true = lt-ltb (length f.positionals) 16 l in
    let entry : entry_of word ≡ Some path = sym h in
    let among : is_among (map rooted f.positionals) path ≡ before = ap (λ xs. is_among xs path) (sym (entries_build f.usage f.positionals b)) ∙ k in
    let found : cond before None (Some path) ≡ new_entry f.positionals word = rw (room, entry, among) refl in
    found ∙ ap (λ (x : Front). new_entry x.positionals word) e

-- a word that names no entry
pub entry_none : (f g : Front) (word : List ℕ) → f ≡ g → length f.positionals < 16 → None ≡ entry_of word → None ≡ new_entry g.positionals word
unfolding new_entry
entry_none f g word e l h =
    let room : ltb (length f.positionals) 16 ≡ true = lt-ltb (length f.positionals) 16 l in
    let entry : entry_of word ≡ None = sym h in
    let none : None ≡ new_entry f.positionals word = rw (room, entry) refl in
    none ∙ ap (λ (x : Front). new_entry x.positionals word) e

-- a new entry is the word with `/` before it
pub new_rooted : (ws : List (List ℕ)) (word path : List ℕ) → new_entry ws word ≡ Some path → (length ws < 16) × (entry_of word ≡ Some path) × (is_among (map rooted ws) path ≡ false)
unfolding new_entry
new_rooted ws word path h =
    let p = through (ltb (length ws) 16) (option_and_then (λ q. cond (is_among (map rooted ws) q) None (Some q)) (entry_of word)) path h in
    let q = two_steps (λ q. cond (is_among (map rooted ws) q) None (Some q)) (entry_of word) path p.1 in
    let r = passed (is_among (map rooted ws) q.0) q.0 path q.2 in
    (ltb-true (length ws) 16 p.0, q.1 ∙ ap Some r.1, ap (is_among (map rooted ws)) (sym r.1) ∙ r.0)

-- no new entry, and one
pub build_none : (f : Front) (word : List ℕ) → is_build f.usage ≡ true → None ≡ new_entry f.positionals word → None ≡ with_positional f word
build_none f word b h = refused f word (follows_entry f.usage f.positionals word b ∙ ap is_some (sym h))

pub build_some : (f : Front) (word path : List ℕ) → is_build f.usage ≡ true → Some path ≡ new_entry f.positionals word → Some (record f { positionals = f.positionals ++ word ∷ [] }) ≡ with_positional f word
build_some f word path b h = taken f word (follows_entry f.usage f.positionals word b ∙ ap is_some (sym h))

-- no further number
pub amount_none : (f : Front) (word : List ℕ) → is_build f.usage ≡ false → None ≡ slice_get amounts (length f.positionals) → None ≡ with_positional f word
amount_none f word b h =
    let none : slice_get amounts (length f.positionals) ≡ None = sym h in
    refused f word (follows_amount f.usage f.positionals word b ∙ ap (λ o. option_map_or (λ kind. is_value kind word) o false) none)

-- a further number, by its test
pub amount_by : (f : Front) (word : List ℕ) (kind : ValueKind) (good : Bool) → is_build f.usage ≡ false → Some kind ≡ slice_get amounts (length f.positionals) → is_value kind word ≡ good → cond good (Some (record f { positionals = f.positionals ++ word ∷ [] })) None ≡ with_positional f word
unfolding with_positional
amount_by f word kind good b h k =
    let some : slice_get amounts (length f.positionals) ≡ Some kind = sym h in
    let test : may_follow f.usage f.positionals word ≡ good = follows_amount f.usage f.positionals word b ∙ ap (λ o. option_map_or (λ kind. is_value kind word) o false) some ∙ k in
    rw test refl

-- the entries with one more
pub entries_more : (m n : FinMap (slice_cmp nat_cmp) (Unit {0})) (u : Usage) (ws vs : List (List ℕ)) (word path : List ℕ) → is_build u ≡ true → HasKeys m (entries u ws) → n ≡ insert m path tt → path ≡ rooted word → vs ≡ ws ++ word ∷ [] → HasKeys n (entries u vs)
entries_more m n u ws vs word path b h e k p =
    let more = keys_more m (entries u ws) path tt h in
    let same : entries u vs ≡ entries u ws ++ path ∷ [] =
    entries_build u vs b
    ∙ ap (map rooted) p
    ∙ map-append rooted ws (word ∷ [])
    ∙ ap (λ q. map rooted ws ++ q ∷ []) (sym k)
    ∙ ap (λ xs. xs ++ path ∷ []) (sym (entries_build u ws b)) in
    rw (e, same) more

-- the entries where the positionals are none
pub entries_still : (m : FinMap (slice_cmp nat_cmp) (Unit {0})) (u : Usage) (ws vs : List (List ℕ)) → is_build u ≡ false → HasKeys m (entries u ws) → HasKeys m (entries u vs)
entries_still m u ws vs b h = subst (HasKeys m) (entries_grow u ws b ∙ sym (entries_grow u vs b)) h

-- the next word, where an option waits for its value
pub next_waiting : (f g : Front) (name word : List ℕ) (kind : ValueKind) → g ≡ record f { waiting = None } → Some (name, kind) ≡ f.waiting → with_value g name kind word ≡ front_after f word
unfolding front_after
next_waiting f g name word kind e h =
    let waits : f.waiting ≡ Some (name, kind) = sym h in
    ap (λ x. with_value x name kind word) e ∙ rw waits refl

-- and where none does
pub next_plain : (f g : Front) (word : List ℕ) → g ≡ record f { waiting = None } → None ≡ f.waiting → with_word g word ≡ front_after f word
unfolding front_after
next_plain f g word e h =
    let waits : f.waiting ≡ None = sym h in
    let same : g ≡ f = e ∙ ap (λ w. record f { waiting = w }) h in
    ap (λ x. with_word x word) same ∙ rw waits refl
