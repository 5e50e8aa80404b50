-- What is read without a bad word is the front of a line.
use Rattle.std.proofs.Common.{◌≡◌, ◌<◌, ◌≤◌, ◌+◌, ◌⊎◌, inl, inr, ◌∙◌, ℕ, List, [], ◌∷◌, ◌++◌, length, Bool, true, false, cond, leb, Option, Some, None, Ok, Err, refl, ap, sym, subst, arith, codes}
use Rattle.std.specs.List.{AllByRecursion, find}
use Rattle.std.specs.Option.{option_map, option_map_or}
use Rattle.std.specs.Str.{bytes_eq}
use Rattle.std.proofs.lemmas.Bool.{le-leb}
use Rattle.std.proofs.lemmas.Slice.Eq.{bytes_eq-Decides}
use Rattle.mt_words.specs.Entries.{entry_of}
use Rattle.mt_words.specs.Fronts.{Front, is_whole, may_follow, new_entry, front_after, start, with_option, with_next, with_positional, with_value, with_word}
use Rattle.mt_words.specs.Tables.{amounts, commands, common, named, options_of}
use Rattle.mt_words.specs.Values.{is_decimal, is_platform, is_value, number_of}
use Rattle.mt_words.specs.Words.{line_of, read_from, words_by, words_in}
use Rattle.mt_words.specs.declared.table.CommandSet.{CommandSet}
use Rattle.mt_words.specs.declared.table.CommandSet.TheVariants.{Still}
use Rattle.mt_words.specs.declared.table.Usage.{Usage}
use Rattle.mt_words.specs.declared.table.Usage.TheVariants.{Build, Replay, Grow}
use Rattle.mt_words.specs.declared.value.ValueKind.{ValueKind}
use Rattle.mt_words.specs.declared.value.ValueKind.TheVariants.{Flag, Folder, Platform, Truth, Number}
use Rattle.mt_words.specs.declared.words.Words.{Words}
use Rattle.mt_words.proofs.Lines.{ArePlain, IsOpen, Waits, option_open, start_open, step}
use Rattle.mt_words.proofs.ReadFrom.{told_by}

-- ---- what a table says of its rows

same_bytes : (xs ys : List ℕ) → bytes_eq xs ys ≡ true → xs ≡ ys
same_bytes xs ys h = (bytes_eq-Decides xs ys).0 h

module _ {X : Type 0} (P : List ℕ × X → Type 0) (name : List ℕ) (x : X) where
  abbrev pub Row : Type 0
  Row = (row : List ℕ × X) × P row × (row.1 ≡ x) × (row.0 ≡ name)

  named_at : (row : List ℕ × X) (table : List (List ℕ × X)) (b : Bool) → bytes_eq name row.0 ≡ b → P row → (named table name ≡ Some x → Row) → option_map (λ r. r.1) (cond b (Some row) (find (λ r. bytes_eq name r.0) table)) ≡ Some x → Row
  named_at row table true e p ih h = (row, p, cc, sym (same_bytes name row.0 e))
  named_at row table false e p ih h = ih h

  -- a name that a table has is that of a row
  pub named_row : (table : List (List ℕ × X)) → AllByRecursion P table → named table name ≡ Some x → Row
  named_row [] h e = cc
  named_row (row ∷ table) h e = named_at row table (bytes_eq name row.0) refl h.0 (named_row table h.1) e

-- ---- each option has a value

abbrev pub HasValue : ValueKind → Type 0
HasValue kind = (value : List ℕ) × (is_value kind value ≡ true)

abbrev pub CanEnd : List ℕ × ValueKind → Type 0
CanEnd row = (row.1 ≡ Flag) ⊎ HasValue row.1

folder_value : HasValue Folder
unfolding is_value
folder_value = (97 ∷ [], refl)

platform_value : HasValue Platform
unfolding is_value is_platform
platform_value = (97 ∷ [], refl)

truth_value : HasValue Truth
unfolding is_value
truth_value = (codes "true", refl)

workers_value : HasValue (Number 1 64)
unfolding is_value number_of is_decimal
workers_value = (49 ∷ [], refl)

common_values : AllByRecursion CanEnd common
common_values = (inr folder_value, (inr platform_value, (inr truth_value, (inl refl, (inr workers_value, (inr folder_value, tt))))))

option_values : (u : Usage) → AllByRecursion CanEnd (options_of u)
unfolding options_of
option_values Build = common_values
option_values Replay = (inl refl, common_values)
option_values Grow = (inr workers_value, tt)

value_by : (kind : ValueKind) (row : List ℕ × ValueKind) → CanEnd row → row.1 ≡ kind → (kind ≡ Flag → ⊥) → HasValue kind
value_by kind row (inl e) k n = absurd (n (sym k ∙ e))
value_by kind row (inr v) k n = subst HasValue k v

value_for : (u : Usage) (name : List ℕ) (kind : ValueKind) → named (options_of u) name ≡ Some kind → (kind ≡ Flag → ⊥) → HasValue kind
value_for u name kind h n = let r = named_row CanEnd name kind (options_of u) (option_values u) h in value_by kind r.0 r.1 r.2 n

-- ---- words that make a front whole

abbrev pub Ends : ℕ → Front → Type 0
Ends n f = (more : List (List ℕ)) × (g : Front) × (read_from n f more ≡ Ok g)

abbrev pub plain : Usage → List (List ℕ) → List (List ℕ × List ℕ) → Front
plain u ps os = record { usage = u; positionals = ps; options = os; waiting = None }

whole_ends : (n : ℕ) (f : Front) → is_whole f ≡ true → Ends n f
unfolding read_from
whole_ends n f h = ([], f, rw h refl)

some_whole : (p : List ℕ) (ps : List (List ℕ)) → leb 1 (length (p ∷ ps)) ≡ true
some_whole p ps = le-leb 1 (length (p ∷ ps)) (omega arith)

build_whole : (p : List ℕ) (ps : List (List ℕ)) (os : List (List ℕ × List ℕ)) → (is_whole (plain Build (p ∷ ps) os) ≡ true) × (is_whole (plain Replay (p ∷ ps) os) ≡ true)
unfolding is_whole
build_whole p ps os = (some_whole p ps, some_whole p ps)

plain_ends : (n : ℕ) (u : Usage) (ps : List (List ℕ)) (os : List (List ℕ × List ℕ)) → ArePlain u ps → Ends n (plain u ps os)
unfolding read_from front_after with_word with_positional may_follow new_entry entry_of is_whole is_value number_of is_decimal amounts
plain_ends n Build [] os o = ((97 ∷ []) ∷ [], plain Build ((97 ∷ []) ∷ []) os, refl)
plain_ends n Build (p ∷ ps) os o = whole_ends n (plain Build (p ∷ ps) os) (build_whole p ps os).0
plain_ends n Replay [] os o = ((97 ∷ []) ∷ [], plain Replay ((97 ∷ []) ∷ []) os, refl)
plain_ends n Replay (p ∷ ps) os o = whole_ends n (plain Replay (p ∷ ps) os) (build_whole p ps os).1
plain_ends n Grow [] os o = ((48 ∷ []) ∷ (49 ∷ []) ∷ (48 ∷ []) ∷ [], plain Grow ((48 ∷ []) ∷ (49 ∷ []) ∷ (48 ∷ []) ∷ []) os, refl)
plain_ends n Grow (a ∷ []) os o = ((49 ∷ []) ∷ (48 ∷ []) ∷ [], plain Grow (a ∷ (49 ∷ []) ∷ (48 ∷ []) ∷ []) os, refl)
plain_ends n Grow (a ∷ b ∷ []) os o = ((48 ∷ []) ∷ [], plain Grow (a ∷ b ∷ (48 ∷ []) ∷ []) os, refl)
plain_ends n Grow (a ∷ b ∷ c ∷ []) os o = ([], plain Grow (a ∷ b ∷ c ∷ []) os, refl)
plain_ends n Grow (a ∷ b ∷ c ∷ d ∷ ps) os o = absurd o

value_next : (n : ℕ) (f : Front) (name value : List ℕ) (kind : ValueKind) → f.waiting ≡ Some (name, kind) → is_value kind value ≡ true → Ends (n + 1) (with_option f name value) → Ends n f
unfolding read_from front_after
value_next n f name value kind w v e =
    let taken : with_value f name kind value ≡ Some (with_option f name value) = rw v refl in
    (value ∷ e.0, e.1, ap (λ x. option_map_or (λ g. read_from (n + 1) g e.0) (with_next x f value) (Err n)) w ∙ ap (λ x. option_map_or (λ g. read_from (n + 1) g e.0) x (Err n)) taken ∙ e.2)

ends_by : (n : ℕ) (f : Front) (w : Option (List ℕ × ValueKind)) → IsOpen f → f.waiting ≡ w → Ends n f
ends_by n f None o e = subst (Ends n) (ap (λ w. record f { waiting = w }) (sym e)) (plain_ends n f.usage f.positionals f.options o.plain)
ends_by n f (Some option) o e =
    let w : Waits f (Some option) = subst (Waits f) e o.waits in
    let v = value_for f.usage option.0 option.1 w.0 w.2 in
    let open' = option_open f option.0 v.0 o w.1 in
    value_next n f option.0 v.0 option.1 e v.1 (plain_ends (n + 1) f.usage f.positionals (f.options ++ (option.0, v.0) ∷ []) o.plain)

-- more words make it whole
pub ends : (n : ℕ) (f : Front) → IsOpen f → Ends n f
ends n f o = ends_by n f f.waiting o refl

-- ---- the words before the first bad one

extends_by : (n k : ℕ) (f : Front) (w : List ℕ) (ws back : List (List ℕ)) (o : Option Front) → front_after f w ≡ o → IsOpen f → n + 1 + length ws ≤ k → ((h : Front) → IsOpen h → read_from (n + 1) h (ws ++ back) ≡ Err k → (more : List (List ℕ)) × (g : Front) × (read_from (n + 1) h (ws ++ more) ≡ Ok g)) → option_map_or (λ h. read_from (n + 1) h (ws ++ back)) o (Err n) ≡ Err k → (more : List (List ℕ)) × (g : Front) × (option_map_or (λ h. read_from (n + 1) h (ws ++ more)) o (Err n) ≡ Ok g)
extends_by n k f w ws back None e o l ih h = let same : n ≡ k = cc in absurd (omega (arith, same, l))
extends_by n k f w ws back (Some g) e o l ih h = ih g (step f g w o e).opens h

pub extends : (n k : ℕ) (f : Front) (ws back : List (List ℕ)) → IsOpen f → n + length ws ≤ k → read_from n f (ws ++ back) ≡ Err k → (more : List (List ℕ)) × (g : Front) × (read_from n f (ws ++ more) ≡ Ok g)
unfolding read_from
extends n k f [] back o l h = ends n f o
extends n k f (w ∷ ws) back o l h = extends_by n k f w ws back (front_after f w) refl o (omega (arith, l)) (λ g p e. extends (n + 1) k g ws back p (omega (arith, l)) e) h

line_extends_by : (command : List ℕ) (ws back : List (List ℕ)) (o : Option Usage) (k : ℕ) → 2 + length ws ≤ k → option_map_or (λ usage. words_by command (read_from 2 (start usage) (ws ++ back))) o (Err 1) ≡ Err k → (more : List (List ℕ)) × (words : Words) × (option_map_or (λ usage. words_by command (read_from 2 (start usage) (ws ++ more))) o (Err 1) ≡ Ok words)
line_extends_by command ws back None k l h = let same : 1 ≡ k = cc in absurd (omega (arith, same, l))
line_extends_by command ws back (Some u) k l h =
    let e = extends 2 k (start u) ws back (start_open u) l (told_by command (read_from 2 (start u) (ws ++ back)) k h) in
    (e.0, words_in command e.1, ap (words_by command) e.2)

least_line : line_of Still (codes "bundle" ∷ (97 ∷ []) ∷ []) ≡ Ok (words_in (codes "bundle") (plain Build ((97 ∷ []) ∷ []) []))
unfolding line_of commands read_from front_after with_word with_positional may_follow new_entry entry_of is_whole
least_line = refl

first_line : (set : CommandSet) → (more : List (List ℕ)) × (words : Words) × (line_of set more ≡ Ok words)
first_line Still = (codes "bundle" ∷ (97 ∷ []) ∷ [], words_in (codes "bundle") (plain Build ((97 ∷ []) ∷ []) []), least_line)

-- the words before the first bad one are the front of a line
pub line_extends : (set : CommandSet) (front back : List (List ℕ)) (k : ℕ) → line_of set (front ++ back) ≡ Err k → length front < k → (more : List (List ℕ)) × (words : Words) × (line_of set (front ++ more) ≡ Ok words)
unfolding line_of
line_extends set [] back k h l = first_line set
line_extends set (command ∷ ws) back k h l = line_extends_by command ws back (named (commands set) command) k (omega (arith, l)) h
