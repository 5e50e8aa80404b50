-- What the options of a line give.
use Rattle.std.proofs.Common.{◌≡◌, ◌<◌, ◌≤◌, ◌+◌, ◌⊎◌, inl, inr, ◌∙◌, ℕ, List, [], ◌∷◌, length, drop, get_or, true, false, leb, Option, Some, None, refl, ap, sym, subst, arith, codes, suc, drop-cons}
use Rattle.std.specs.List.{AllByRecursion, flat_map}
use Rattle.std.specs.Option.{option_and_then, unwrap_or}
use Rattle.std.specs.Str.{bytes_eq}
use Rattle.std.proofs.lemmas.Bool.{and_parts, leb-true}
use Rattle.std.proofs.lemmas.List.{drop_all}
use Rattle.std.proofs.lemmas.List.Elements.{recursion_from_All}
use Rattle.mt_words.specs.Lines.{IsOption, IsPart, Part, Plain, Alone, Apart, Joined, option_in}
use Rattle.mt_words.specs.Tables.{named, options_of}
use Rattle.mt_words.specs.Values.{is_between, is_value, number_of}
use Rattle.mt_words.specs.declared.table.Usage.{Usage}
use Rattle.mt_words.specs.declared.table.Usage.TheVariants.{Build, Replay, Grow}
use Rattle.mt_words.specs.declared.value.ValueKind.{ValueKind}
use Rattle.mt_words.specs.declared.value.ValueKind.TheVariants.{Flag, Number}
use Rattle.mt_words.specs.declared.words.Words.{Words}
use Rattle.mt_words.proofs.Extends.{named_row}
use Rattle.mt_request.specs.Requests.{AreSaid}
use Rattle.mt_request.specs.Values.{workers_of}

-- ---- the search for an option

next : (i : ℕ) → suc i ≡ i + 1
next i = omega arith

-- an option of another name is passed over
pub value_later : (name : List ℕ) (options : List (List ℕ × List ℕ)) (i : ℕ) (x : List ℕ × List ℕ) (given : List ℕ) → i < length options → x ≡ get_or options i x → given ≡ x.0 → bytes_eq name given ≡ false → named (drop i options) name ≡ named (drop (i + 1) options) name
value_later name options i x given l at same other =
    let rest : drop i options ≡ x ∷ drop (i + 1) options = drop-cons options i x l ∙ ap (λ j. get_or options i x ∷ drop j options) (next i) ∙ ap (λ y. y ∷ drop (i + 1) options) (sym at) in
    let no : bytes_eq name x.0 ≡ false = ap (bytes_eq name) (sym same) ∙ other in
    ap (λ os. named os name) rest ∙ rw no refl

-- the option of this name has its value
pub value_here : (name : List ℕ) (options : List (List ℕ × List ℕ)) (i : ℕ) (x : List ℕ × List ℕ) (given : List ℕ) → i < length options → x ≡ get_or options i x → given ≡ x.0 → bytes_eq name given ≡ true → named (drop i options) name ≡ Some x.1
value_here name options i x given l at same own =
    let rest : drop i options ≡ x ∷ drop (i + 1) options = drop-cons options i x l ∙ ap (λ j. get_or options i x ∷ drop j options) (next i) ∙ ap (λ y. y ∷ drop (i + 1) options) (sym at) in
    let yes : bytes_eq name x.0 ≡ true = ap (bytes_eq name) (sym same) ∙ own in
    ap (λ os. named os name) rest ∙ rw yes refl

-- where all are passed over, none has the name
pub value_none : (name : List ℕ) (options : List (List ℕ × List ℕ)) (i : ℕ) → length options ≤ i → named (drop i options) name ≡ None
value_none name options i l = ap (λ os. named os name) (drop_all i options l)

-- ---- numbers within bounds

-- a number within bounds
pub within : (least most : ℕ) (number : Option ℕ) → is_between least most number ≡ true → (n : ℕ) × (number ≡ Some n) × (least ≤ n) × (n ≤ most)
within least most None h = cc
within least most (Some n) h =
    let p = and_parts (leb least n) (leb n most) h in
    (n, refl, leb-true least n p.0, leb-true n most p.1)

-- ---- the number of workers

-- an option of the command: a flag, or one with a value in form
abbrev Fits : Usage → List ℕ × List ℕ → Type 0
Fits usage option = IsOption usage option.0 option.1 ⊎ (named (options_of usage) option.0 ≡ Some Flag)

options_fit : (usage : Usage) (parts : List Part) → AllByRecursion (IsPart usage) parts → AllByRecursion (Fits usage) (flat_map option_in parts)
options_fit usage [] h = tt
options_fit usage (Plain word ∷ parts) h = options_fit usage parts h.1
options_fit usage (Alone name ∷ parts) h = (inr h.0, options_fit usage parts h.1)
options_fit usage (Apart name value ∷ parts) h = (inl h.0, options_fit usage parts h.1)
options_fit usage (Joined name value ∷ parts) h = (inl h.0, options_fit usage parts h.1)

workers_kind : (usage : Usage) → named (options_of usage) (codes "workers") ≡ Some (Number 1 64)
unfolding options_of
workers_kind Build = refl
workers_kind Replay = refl
workers_kind Grow = refl

same_kind : (a b : ValueKind) (o : Option ValueKind) → o ≡ Some a → o ≡ Some b → a ≡ b
same_kind a b o h k = cc

no_flag : (o : Option ValueKind) → o ≡ Some Flag → o ≡ Some (Number 1 64) → ⊥
no_flag o h k = cc

value_between : (value : List ℕ) → is_value (Number 1 64) value ≡ true → is_between 1 64 (number_of value) ≡ true
unfolding is_value
value_between value h = h

workers_fit : (usage : Usage) (option : List ℕ × List ℕ) → Fits usage option → option.0 ≡ codes "workers" → is_between 1 64 (number_of option.1) ≡ true
workers_fit usage option (inl h) e =
    let kind = same_kind h.kind (Number 1 64) (named (options_of usage) option.0) h.known (ap (named (options_of usage)) e ∙ workers_kind usage) in
    value_between option.1 (subst (λ k. is_value k option.1 ≡ true) kind h.fits)
workers_fit usage option (inr h) e = absurd (no_flag (named (options_of usage) option.0) h (ap (named (options_of usage)) e ∙ workers_kind usage))

-- the bounds of the number of workers
abbrev pub AreWorkers : ℕ → Type 0
AreWorkers n = (1 ≤ n) × (n ≤ 64)

workers_by : (usage : Usage) (options : List (List ℕ × List ℕ)) (value : Option (List ℕ)) → AllByRecursion (Fits usage) options → named options (codes "workers") ≡ value → AreWorkers (unwrap_or (option_and_then number_of value) 4)
workers_by usage options None h e = (omega arith, omega arith)
workers_by usage options (Some value) h e =
    let r = named_row (Fits usage) (codes "workers") value options h e in
    let fits : is_between 1 64 (number_of value) ≡ true = subst (λ v. is_between 1 64 (number_of v) ≡ true) r.2 (workers_fit usage r.0 r.1 r.3) in
    let w = within 1 64 (number_of value) fits in
    subst (λ n. AreWorkers (unwrap_or n 4)) (sym w.1) (w.2, w.3)

-- a line asks for 1 to 64 workers
pub workers_within : (words : Words) → AreSaid words → AreWorkers (workers_of words.options)
workers_within words said =
    let l = said.says in
    let each = recursion_from_All (IsPart l.usage) l.parts l.each in
    let fit = subst (AllByRecursion (Fits l.usage)) (sym l.options) (options_fit l.usage l.parts each) in
    workers_by l.usage words.options (named words.options (codes "workers")) fit refl

-- and so for at most 64
pub workers_most : (words : Words) → AreSaid words → workers_of words.options ≤ 64
workers_most words said = (workers_within words said).1

-- the number of workers that are asked for
pub workers_as : (words : Words) (n : ℕ) → AreSaid words → n ≡ workers_of words.options → AreWorkers n
workers_as words n said same = subst AreWorkers (sym same) (workers_within words said)
