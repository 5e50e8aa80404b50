-- What is read is a line, part by part.
use Rattle.std.proofs.Common.{◌≡◌, ◌<◌, ◌≤◌, ◌+◌, ◌⊎◌, inl, inr, ◌∙◌, ℕ, List, [], ◌∷◌, ◌++◌, length, map, drop, get_or, slice_get, Bool, true, false, cond, leb, is_some, Option, Some, None, Result, Ok, Err, refl, ap, sym, subst, arith, append_assoc, append-nil, length-append, codes, nat_eq}
use Rattle.std.specs.List.{All, AllByRecursion, AllZip, IsDistinct, before_first, after_first, flat_map, position_or_len, starts_with}
use Rattle.std.specs.Option.{is_none, option_map, option_map_or}
use Rattle.std.specs.Str.{bytes_eq}
use Rattle.std.specs.Cmp.Lexicographic.{nat_list_eq_equiv}
use Rattle.std.proofs.lemmas.Bool.{and_parts, eqb-true, ltb-true, leb-true}
use Rattle.std.proofs.lemmas.Bool.Decides.{Decides-eqb}
use Rattle.std.proofs.lemmas.List.{map-append}
use Rattle.std.proofs.lemmas.List.Elements.{All-push, All-from_recursion}
use Rattle.std.proofs.lemmas.List.Sums.{passes_at_first, split_at_first}
use Rattle.std.proofs.lemmas.Map.Keys.{IsDistinct-push}
use Rattle.std.proofs.lemmas.Slice.Eq.{starts_is}
use Rattle.mt_words.specs.Entries.{entry_of, rooted}
use Rattle.mt_words.specs.Fronts.{Front, has_mark, is_among, is_mark, is_whole, least_positionals, may_follow, names, new_entry, new_kind, front_after, start, with_bare, with_joined, with_name, with_next, with_option, with_positional, with_spelled, with_value, with_word}
use Rattle.mt_words.specs.Lines.{AreEntries, ArePositionals, IsLine, IsPart, Part, Plain, Alone, Apart, Joined, dashed, option_in, positional_in, spelling}
use Rattle.mt_words.specs.Tables.{amounts, commands, named, options_of}
use Rattle.mt_words.specs.Values.{is_odd, is_value}
use Rattle.mt_words.specs.Words.{line_of, read_from, words_by, words_in}
use Rattle.mt_words.specs.declared.table.CommandSet.{CommandSet}
use Rattle.mt_words.specs.declared.table.Usage.{Usage}
use Rattle.mt_words.specs.declared.table.Usage.TheVariants.{Build, Replay, Grow}
use Rattle.mt_words.specs.declared.value.ValueKind.{ValueKind}
use Rattle.mt_words.specs.declared.value.ValueKind.TheVariants.{Flag, Folder, Platform, Truth, Number}
use Rattle.mt_words.specs.declared.words.Words.{Words}
use Rattle.mt_words.proofs.Fronts.{entry_rooted, follows_amount, follows_entry, new_rooted, passed_on, two_steps}

-- ---- what a test or a step let through

-- a value that a test lets through
kept : {X : Type 0} (b : Bool) (x y : X) → cond b (Some x) None ≡ Some y → (b ≡ true) × (x ≡ y)
kept true x y h = (refl, cc)
kept false x y h = cc

-- what was chosen, and why
chosen : {X : Type 0} (b : Bool) (x y z : X) → cond b x y ≡ z → ((b ≡ true) × (x ≡ z)) ⊎ ((b ≡ false) × (y ≡ z))
chosen true x y z h = inl (refl, h)
chosen false x y z h = inr (refl, h)

one_step : {X Y : Type 0} (f : X → Y) (o : Option X) (y : Y) → option_map f o ≡ Some y → (x : X) × (o ≡ Some x) × (f x ≡ y)
one_step f (Some x) y h = (x, refl, cc)
one_step f None y h = cc

-- ---- positionals that were read so far

pub record OpenEntries (ws : List (List ℕ)) : Type 0 where
  pub few : length ws ≤ 16
  pub paths : All (λ w. is_some (entry_of w) ≡ true) ws
  pub once : IsDistinct bytes_eq (map rooted ws)

abbrev pub OpenAmounts : List (List ℕ) → Type 0
OpenAmounts [] = Unit {0}
OpenAmounts (a ∷ []) = is_value (Number 0 18446744073709551615) a ≡ true
OpenAmounts (a ∷ b ∷ []) = (is_value (Number 0 18446744073709551615) a ≡ true) × (is_value (Number 1 50000) b ≡ true)
OpenAmounts (a ∷ b ∷ c ∷ []) = (is_value (Number 0 18446744073709551615) a ≡ true) × (is_value (Number 1 50000) b ≡ true) × (is_value (Number 0 10000) c ≡ true)
OpenAmounts (a ∷ b ∷ c ∷ d ∷ ws) = ⊥

abbrev pub ArePlain : Usage → List (List ℕ) → Type 0
ArePlain Grow ws = OpenAmounts ws
ArePlain usage ws = OpenEntries ws

-- a value that there is
some_of : {X : Type 0} (o : Option X) → is_some o ≡ true → (x : X) × (o ≡ Some x)
some_of None h = cc
some_of (Some x) h = (x, refl)

-- a kind that a test finds
some_kind : (word : List ℕ) (o : Option ValueKind) → option_map_or (λ kind. is_value kind word) o false ≡ true → (kind : ValueKind) × (o ≡ Some kind) × (is_value kind word ≡ true)
some_kind word None h = cc
some_kind word (Some kind) h = (kind, refl, h)

entry_more : (ws : List (List ℕ)) (word path : List ℕ) → OpenEntries ws → length ws < 16 → entry_of word ≡ Some path → is_among (map rooted ws) path ≡ false → OpenEntries (ws ++ word ∷ [])
entry_more ws word path o room e n =
    let count = length-append ws (word ∷ []) in
    let new : is_among (map rooted ws) (rooted word) ≡ false = ap (is_among (map rooted ws)) (sym (entry_rooted word path e)) ∙ n in
    record {
      few = omega (arith, room, count);
      paths = All-push (λ (w : List ℕ). is_some (entry_of w) ≡ true) ws word o.paths (ap is_some e);
      once = subst (IsDistinct bytes_eq) (sym (map-append rooted ws (word ∷ []))) (IsDistinct-push nat_list_eq_equiv (map rooted ws) (rooted word) o.once new);
    }

amount_more : (ws : List (List ℕ)) (word : List ℕ) (kind : ValueKind) → OpenAmounts ws → slice_get amounts (length ws) ≡ Some kind → is_value kind word ≡ true → OpenAmounts (ws ++ word ∷ [])
unfolding amounts
amount_more [] word kind o e v = let k : kind ≡ Number 0 18446744073709551615 = cc in subst (λ k. is_value k word ≡ true) k v
amount_more (a ∷ []) word kind o e v = let k : kind ≡ Number 1 50000 = cc in (o, subst (λ k. is_value k word ≡ true) k v)
amount_more (a ∷ b ∷ []) word kind o e v = let k : kind ≡ Number 0 10000 = cc in (o.0, o.1, subst (λ k. is_value k word ≡ true) k v)
amount_more (a ∷ b ∷ c ∷ []) word kind o e v = cc
amount_more (a ∷ b ∷ c ∷ d ∷ ws) word kind o e v = absurd o

entries_more : (ws : List (List ℕ)) (word : List ℕ) → OpenEntries ws → is_some (new_entry ws word) ≡ true → OpenEntries (ws ++ word ∷ [])
entries_more ws word o h =
    let p = some_of (new_entry ws word) h in
    let q = new_rooted ws word p.0 p.1 in
    entry_more ws word p.0 o q.0 q.1 q.2

plain_more : (u : Usage) (ws : List (List ℕ)) (word : List ℕ) → ArePlain u ws → may_follow u ws word ≡ true → ArePlain u (ws ++ word ∷ [])
plain_more Build ws word o h = entries_more ws word o (sym (follows_entry Build ws word refl) ∙ h)
plain_more Replay ws word o h = entries_more ws word o (sym (follows_entry Replay ws word refl) ∙ h)
plain_more Grow ws word o h =
    let p = some_kind word (slice_get amounts (length ws)) (sym (follows_amount Grow ws word refl) ∙ h) in
    amount_more ws word p.0 o p.1 p.2

-- ---- a front that words can lead to

abbrev pub Waits : Front → Option (List ℕ × ValueKind) → Type 0
Waits f None = Unit {0}
Waits f (Some o) = (named (options_of f.usage) o.0 ≡ Some o.1) × (is_among (names f.options) o.0 ≡ false) × (o.1 ≡ Flag → ⊥)

pub record IsOpen (f : Front) : Type 0 where
  pub plain : ArePlain f.usage f.positionals
  pub once : IsDistinct bytes_eq (names f.options)
  pub waits : Waits f f.waiting

-- the words that are read and are no part yet
abbrev pub pend : Option (List ℕ × ValueKind) → List (List ℕ)
pend None = []
pend (Some o) = dashed o.0 ∷ []

-- from one front to another, the words spell parts
pub record Reading (f : Front) (ws : List (List ℕ)) (g : Front) : Type 0 where
  pub parts : List Part
  pub spelled : pend f.waiting ++ ws ≡ flat_map spelling parts
  pub each : AllByRecursion (IsPart f.usage) parts
  pub positionals : g.positionals ≡ f.positionals ++ flat_map positional_in parts
  pub options : g.options ≡ f.options ++ flat_map option_in parts
  pub usage : g.usage ≡ f.usage

-- a part is complete
completed : (f h g : Front) (word : List ℕ) (ws : List (List ℕ)) (p : Part) → pend f.waiting ++ word ∷ [] ≡ spelling p → IsPart f.usage p → h.usage ≡ f.usage → h.positionals ≡ f.positionals ++ positional_in p → h.options ≡ f.options ++ option_in p → h.waiting ≡ None → Reading h ws g → Reading f (word ∷ ws) g
completed f h g word ws p s i u ps os n r = record {
  parts = p ∷ r.parts;
  spelled = sym (append_assoc (pend f.waiting) (word ∷ []) ws) ∙ ap (λ xs. xs ++ ws) s ∙ ap (λ xs. spelling p ++ xs) (ap (λ w. pend w ++ ws) (sym n) ∙ r.spelled);
  each = (i, subst (λ v. AllByRecursion (IsPart v) r.parts) u r.each);
  positionals = r.positionals ∙ ap (λ xs. xs ++ flat_map positional_in r.parts) ps ∙ append_assoc f.positionals (positional_in p) (flat_map positional_in r.parts);
  options = r.options ∙ ap (λ xs. xs ++ flat_map option_in r.parts) os ∙ append_assoc f.options (option_in p) (flat_map option_in r.parts);
  usage = r.usage ∙ u;
}

-- an option waits for its value from now on
started : (f g : Front) (word name : List ℕ) (kind : ValueKind) (ws : List (List ℕ)) → f.waiting ≡ None → word ≡ dashed name → Reading (record f { waiting = Some (name, kind) }) ws g → Reading f (word ∷ ws) g
started f g word name kind ws n s r = record {
  parts = r.parts;
  spelled = ap (λ w. pend w ++ word ∷ ws) n ∙ ap (λ x. x ∷ ws) s ∙ r.spelled;
  each = r.each;
  positionals = r.positionals;
  options = r.options;
  usage = r.usage;
}

-- what one word does
pub record Steps (f : Front) (word : List ℕ) (h : Front) : Type 0 where
  pub opens : IsOpen h
  pub back : (ws : List (List ℕ)) (g : Front) → Reading h ws g → Reading f (word ∷ ws) g

pub option_open : (f : Front) (name value : List ℕ) → IsOpen f → is_among (names f.options) name ≡ false → IsOpen (with_option f name value)
option_open f name value o n = record {
  plain = o.plain;
  once = subst (IsDistinct bytes_eq) (sym (map-append (λ (o : List ℕ × List ℕ). o.0) f.options ((name, value) ∷ []))) (IsDistinct-push nat_list_eq_equiv (names f.options) name o.once n);
  waits = tt;
}

-- an option is complete
option_done : (f : Front) (word name value : List ℕ) (p : Part) → IsOpen f → pend f.waiting ++ word ∷ [] ≡ spelling p → IsPart f.usage p → [] ≡ positional_in p → (name, value) ∷ [] ≡ option_in p → is_among (names f.options) name ≡ false → Steps f word (with_option f name value)
option_done f word name value p o s i ps os n = record {
  opens = option_open f name value o n;
  back = λ ws g r. completed f (with_option f name value) g word ws p s i refl (sym (append-nil f.positionals) ∙ ap (λ xs. f.positionals ++ xs) ps) (ap (λ xs. f.options ++ xs) os) refl r;
}

-- the value that an option waits for
step_value : (f h : Front) (name word : List ℕ) (kind : ValueKind) → IsOpen f → f.waiting ≡ Some (name, kind) → with_value f name kind word ≡ Some h → Steps f word h
step_value f h name word kind o e s =
    let p = kept (is_value kind word) (with_option f name word) h s in
    let w : Waits f (Some (name, kind)) = subst (Waits f) e o.waits in
    subst (Steps f word) p.1 (option_done f word name word (Apart name word) o (ap (λ x. pend x ++ word ∷ []) e) (record { kind = kind; known = w.0; fits = p.0 }) refl refl w.1)

-- an option that is new
new_kind_is : (f : Front) (name : List ℕ) (kind : ValueKind) → new_kind f name ≡ Some kind → (is_among (names f.options) name ≡ false) × (named (options_of f.usage) name ≡ Some kind)
unfolding new_kind
new_kind_is f name kind h = passed_on (is_among (names f.options) name) (named (options_of f.usage) name) kind h

-- an option with its value in one word
step_joined : (f h : Front) (word before after : List ℕ) → IsOpen f → f.waiting ≡ None → word ≡ dashed (before ++ 61 ∷ after) → with_joined f before after ≡ Some h → Steps f word h
step_joined f h word before after o n s e =
    let k = two_steps (λ kind. with_value f before kind after) (new_kind f before) h e in
    let new = new_kind_is f before k.0 k.1 in
    let p = kept (is_value k.0 after) (with_option f before after) h k.2 in
    let spelled : pend f.waiting ++ word ∷ [] ≡ spelling (Joined before after) = ap (λ x. pend x ++ word ∷ []) n ∙ ap (λ x. x ∷ []) s in
    subst (Steps f word) p.1 (option_done f word before after (Joined before after) o spelled (record { kind = k.0; known = new.1; fits = p.0 }) refl refl new.0)

-- a flag, or an option that waits
pub by_name : (f : Front) (name : List ℕ) (kind : ValueKind) → ((kind ≡ Flag) × (with_name f name kind ≡ with_option f name [])) ⊎ ((with_name f name kind ≡ record f { waiting = Some (name, kind) }) × (kind ≡ Flag → ⊥))
by_name f name Flag = inl (refl, refl)
by_name f name Folder = inr (refl, λ e. cc)
by_name f name Platform = inr (refl, λ e. cc)
by_name f name Truth = inr (refl, λ e. cc)
by_name f name (Number least most) = inr (refl, λ e. cc)

step_bare : (f h : Front) (word name : List ℕ) → IsOpen f → f.waiting ≡ None → word ≡ dashed name → with_bare f name ≡ Some h → Steps f word h
step_bare f h word name o n s e =
    let k = one_step (λ kind. with_name f name kind) (new_kind f name) h e in
    let new = new_kind_is f name k.0 k.1 in
    elim (by_name f name k.0) [
      | inl p ↦
          let spelled : pend f.waiting ++ word ∷ [] ≡ spelling (Alone name) = ap (λ x. pend x ++ word ∷ []) n ∙ ap (λ x. x ∷ []) s in
          let flag : named (options_of f.usage) name ≡ Some Flag = new.1 ∙ ap Some p.0 in
          subst (Steps f word) (sym p.1 ∙ k.2) (option_done f word name [] (Alone name) o spelled flag refl refl new.0)
      | inr p ↦
          subst (Steps f word) (sym p.0 ∙ k.2) (record { opens = record { plain = o.plain; once = o.once; waits = (new.1, new.0, p.1) }; back = λ ws g r. started f g word name k.0 ws n s r })
    ]

-- the two parts round the first `=`
pub around_mark : (text : List ℕ) → has_mark text ≡ true → text ≡ before_first is_mark text ++ 61 ∷ after_first is_mark text
around_mark text h =
    let l = ltb-true (position_or_len is_mark text) (length text) h in
    let here : get_or text (position_or_len is_mark text) 0 ≡ 61 = eqb-true (get_or text (position_or_len is_mark text) 0) 61 (passes_at_first is_mark text 0 l) in
    split_at_first is_mark text 0 l ∙ ap (λ b. before_first is_mark text ++ b ∷ after_first is_mark text) here

-- an option
step_spelled : (f h : Front) (word text : List ℕ) → IsOpen f → f.waiting ≡ None → word ≡ dashed text → with_spelled f text ≡ Some h → Steps f word h
unfolding with_spelled
step_spelled f h word text o n s e =
    elim (chosen (has_mark text) (with_joined f (before_first is_mark text) (after_first is_mark text)) (with_bare f text) (Some h) e) [
      | inl p ↦ step_joined f h word (before_first is_mark text) (after_first is_mark text) o n (s ∙ ap dashed (around_mark text p.0)) p.1
      | inr p ↦ step_bare f h word text o n s p.1
    ]

-- a positional
step_plain : (f h : Front) (word : List ℕ) → IsOpen f → f.waiting ≡ None → is_odd word ≡ false → with_positional f word ≡ Some h → Steps f word h
unfolding with_positional
step_plain f h word o n i e =
    let p = kept (may_follow f.usage f.positionals word) (record f { positionals = f.positionals ++ word ∷ [] }) h e in
    subst (Steps f word) p.1 (record {
      opens = record { plain = plain_more f.usage f.positionals word o.plain p.0; once = o.once; waits = o.waits };
      back = λ ws g r. completed f (record f { positionals = f.positionals ++ word ∷ [] }) g word ws (Plain word) (ap (λ x. pend x ++ word ∷ []) n) i refl refl (sym (append-nil f.options)) n r;
    })

-- a word that is no value
step_word : (f h : Front) (word : List ℕ) → IsOpen f → f.waiting ≡ None → with_word f word ≡ Some h → Steps f word h
unfolding with_word
step_word f h word o n e =
    elim (chosen (starts_with nat_eq word (codes "--")) (with_spelled f (drop 2 word)) (cond (is_odd word) None (with_positional f word)) (Some h) e) [
      | inl p ↦ step_spelled f h word (drop 2 word) o n ((starts_is Decides-eqb word (codes "--") (starts_with nat_eq word (codes "--")) refl).0 p.0) p.1
      | inr p ↦ let q = passed_on (is_odd word) (with_positional f word) h p.1 in step_plain f h word o n q.0 q.1
    ]

step_by : (f h : Front) (word : List ℕ) (w : Option (List ℕ × ValueKind)) → IsOpen f → f.waiting ≡ w → with_next w f word ≡ Some h → Steps f word h
step_by f h word None o n e = step_word f h word o n e
step_by f h word (Some option) o n e = step_value f h option.0 word option.1 o n e

-- one word
pub step : (f h : Front) (word : List ℕ) → IsOpen f → front_after f word ≡ Some h → Steps f word h
unfolding front_after
step f h word o e = step_by f h word f.waiting o refl e

-- ---- all words

pub record Sound (f : Front) (ws : List (List ℕ)) (g : Front) : Type 0 where
  pub reading : Reading f ws g
  pub opens : IsOpen g
  pub whole : is_whole g ≡ true

sound_by : (n : ℕ) (f g : Front) (word : List ℕ) (ws : List (List ℕ)) (o : Option Front) → front_after f word ≡ o → IsOpen f → ((h : Front) → IsOpen h → read_from (n + 1) h ws ≡ Ok g → Sound h ws g) → option_map_or (λ h. read_from (n + 1) h ws) o (Err n) ≡ Ok g → Sound f (word ∷ ws) g
sound_by n f g word ws None e o ih r = cc
sound_by n f g word ws (Some h) e o ih r =
    let s = step f h word o e in
    let rest = ih h s.opens r in
    record { reading = s.back ws g rest.reading; opens = rest.opens; whole = rest.whole }

-- nothing waits at the end
whole_pend : (w : Option (List ℕ × ValueKind)) → is_none w ≡ true → pend w ≡ []
whole_pend None h = refl
whole_pend (Some o) h = cc

whole_parts : (f : Front) → is_whole f ≡ true → pend f.waiting ≡ []
unfolding is_whole
whole_parts f h = whole_pend f.waiting (and_parts _ _ h).0

sound_end : (n : ℕ) (f g : Front) (b : Bool) → is_whole f ≡ b → IsOpen f → cond b (Ok f) (Err n) ≡ Ok g → Sound f [] g
sound_end n f g true w o r =
    let same : f ≡ g = cc in
    subst (Sound f []) same (record {
      reading = record { parts = []; spelled = append-nil (pend f.waiting) ∙ whole_parts f w; each = tt; positionals = sym (append-nil f.positionals); options = sym (append-nil f.options); usage = refl };
      opens = o;
      whole = w;
    })
sound_end n f g false w o r = cc

pub sound : (n : ℕ) (f g : Front) (ws : List (List ℕ)) → IsOpen f → read_from n f ws ≡ Ok g → Sound f ws g
unfolding read_from
sound n f g [] o r = sound_end n f g (is_whole f) refl o r
sound n f g (w ∷ ws) o r = sound_by n f g w ws (front_after f w) refl o (λ h p e. sound (n + 1) h g ws p e) r

-- ---- a whole line

fit_build : (ps : List (List ℕ)) → OpenEntries ps → leb 1 (length ps) ≡ true → AreEntries ps
fit_build ps o h = record { some = leb-true 1 (length ps) h; few = o.few; paths = o.paths; once = o.once }

fit_grow : (ps : List (List ℕ)) → OpenAmounts ps → leb 3 (length ps) ≡ true → AllZip (λ kind word. is_value kind word ≡ true) amounts ps
unfolding amounts
fit_grow [] o h = cc
fit_grow (a ∷ []) o h = cc
fit_grow (a ∷ b ∷ []) o h = cc
fit_grow (a ∷ b ∷ c ∷ []) o h = (o.0, (o.1, (o.2, tt)))
fit_grow (a ∷ b ∷ c ∷ d ∷ ws) o h = absurd o

fit_whole : (u : Usage) (ps : List (List ℕ)) → ArePlain u ps → leb (least_positionals u) (length ps) ≡ true → ArePositionals u ps
fit_whole Build ps o h = fit_build ps o h
fit_whole Replay ps o h = fit_build ps o h
fit_whole Grow ps o h = fit_grow ps o h

whole_fit : (f : Front) → is_whole f ≡ true → leb (least_positionals f.usage) (length f.positionals) ≡ true
unfolding is_whole
whole_fit f h = (and_parts (is_none f.waiting) _ h).1

none_distinct : {K : Type 0} (eq : K → K → Bool) → IsDistinct eq []
unfolding IsDistinct
none_distinct eq = tt

none_plain : (u : Usage) → ArePlain u []
none_plain Grow = tt
none_plain Build = record { few = omega arith; paths = λ k d l. absurd (omega (arith, l)); once = none_distinct bytes_eq }
none_plain Replay = record { few = omega arith; paths = λ k d l. absurd (omega (arith, l)); once = none_distinct bytes_eq }

pub start_open : (u : Usage) → IsOpen (start u)
start_open u = record { plain = none_plain u; once = none_distinct bytes_eq; waits = tt }

front_of : (command : List ℕ) (r : Result Front ℕ) (w : Words) → words_by command r ≡ Ok w → (g : Front) × (r ≡ Ok g) × (words_in command g ≡ w)
front_of command (Ok g) w h = (g, refl, cc)
front_of command (Err n) w h = cc

line_by : (set : CommandSet) (command : List ℕ) (ws : List (List ℕ)) (o : Option Usage) (w : Words) → named (commands set) command ≡ o → option_map_or (λ usage. words_by command (read_from 2 (start usage) ws)) o (Err 1) ≡ Ok w → IsLine set (command ∷ ws) w
line_by set command ws None w e h = cc
line_by set command ws (Some u) w e h =
    let p = front_of command (read_from 2 (start u) ws) w h in
    let g = p.0 in
    let s = sound 2 (start u) g ws (start_open u) p.1 in
    let fit : ArePositionals u g.positionals = subst (λ v. ArePositionals v g.positionals) s.reading.usage (fit_whole g.usage g.positionals s.opens.plain (whole_fit g s.whole)) in
    subst (IsLine set (command ∷ ws)) p.2 (record {
      usage = u;
      command = e;
      parts = s.reading.parts;
      spelled = ap (λ xs. command ∷ xs) s.reading.spelled;
      each = All-from_recursion (IsPart u) s.reading.parts s.reading.each;
      positionals = s.reading.positionals;
      fit = fit;
      options = s.reading.options;
      once = s.opens.once;
    })

-- what is read is a line
pub is_line : (set : CommandSet) (line : List (List ℕ)) (w : Words) → line_of set line ≡ Ok w → IsLine set line w
unfolding line_of
is_line set [] w h = cc
is_line set (command ∷ ws) w h = line_by set command ws (named (commands set) command) w refl h
