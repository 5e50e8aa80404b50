-- Bytes that are read after those that are held, call after call.
use Rattle.std.proofs.Common.{◌≡◌, ◌+◌, ◌<◌, ◌≤◌, List, ℕ, [], ◌++◌, length, take, drop, append_assoc, append-nil, min, ◌⊎◌, inl, inr, length-append, length-take, arith, sym, ap, ◌∙◌, Option, Some, Result, Ok, Err, IfOk}
use Rattle.std.proofs.Math.Seq.{take-add}
use Rattle.std.proofs.lemmas.List.{drop_all, drop_at, nil_from_length, take_all, take_at, drop-append-le, take-append-drop}
use Rattle.std.proofs.lemmas.Bool.{cases_lt}
use Rattle.mt_io.specs.Told.{Reading, read_on}
use Rattle.mt_io.specs.declared.trouble.Failed.{Failed}
use Rattle.mt_io.proofs.Readings.{reading_still}
use Rattle.mt_script.specs.Reads.{Holds, IsSpent, Lacks, Takes}
use Rattle.mt_script.proofs.Advances.{read_twice}

-- nothing was read
pub holds_none : (r : Reading) (told : Option Reading) (old new : List ℕ) → told ≡ Some r → new ≡ old → Holds r told old new
holds_none r told old new e same = record { count = 0; now = e ∙ ap Some (reading_still r); held = same ∙ sym (append-nil old) }

-- some were read, and then some more
pub holds_then : (r : Reading) (told now : Option Reading) (a b c : List ℕ) (h : Holds r told a b) → Holds (read_on h.count r) now b c → Holds r now a c
holds_then r told now a b c h k = record {
  count = h.count + k.count;
  now = k.now ∙ ap Some (read_twice r h.count k.count);
  held = k.held ∙ ap (λ (xs : List ℕ). xs ++ take k.count (drop h.count r.left)) h.held ∙ append_assoc a (take h.count r.left) (take k.count (drop h.count r.left)) ∙ ap (λ (xs : List ℕ). a ++ xs) (sym (take-add h.count k.count r.left));
}

-- what one call read, after a prefix that stays
pub read_holds : (r : Reading) (told : Option Reading) (old prefix room : List ℕ) (at : ℕ) (result : Result ℕ Failed) → prefix ≡ take at old → length prefix ≡ at → IfOk result (λ n. take n room ≡ take n r.left) → IfOk result (λ n. told ≡ Some (read_on n r)) → IfOk result (λ n. Holds r told (take at old) (take (at + n) (prefix ++ room)))
read_holds r told old prefix room at (Ok n) same len written given = record {
  count = n;
  now = given;
  held = take-add at n (prefix ++ room) ∙ ap (λ (xs : List ℕ). xs ++ take n (drop at (prefix ++ room))) (take_at prefix room at len ∙ same) ∙ ap (λ (xs : List ℕ). take at old ++ xs) (ap (take n) (drop_at prefix room at len) ∙ written);
}
read_holds r told old prefix room at (Err e) same len written given = tt

-- a call that read nothing into some room
pub read_spent : (r : Reading) (told : Option Reading) (room : ℕ) (result : Result ℕ Failed) → 0 < room → IfOk result (λ n. told ≡ Some (read_on n r)) → IfOk result (λ n. 0 < room → n ≡ 0 → r.left ≡ []) → IfOk result (λ n. n ≡ 0 → IsSpent told)
read_spent r told room (Ok n) some given end = λ none. rw given (ap (drop n) (end some none) ∙ drop_all n [] (omega arith))
read_spent r told room (Err e) some given end = tt

-- the same of a part of what is held
pub holds_drop : (r : Reading) (told : Option Reading) (a b old new : List ℕ) (start : ℕ) → Holds r told a b → start ≤ length a → old ≡ drop start a → new ≡ drop start b → Holds r told old new
holds_drop r told a b old new start h fits e f = record {
  count = h.count;
  now = h.now;
  held = f ∙ ap (drop start) h.held ∙ drop-append-le start a (take h.count r.left) fits ∙ ap (λ (xs : List ℕ). xs ++ take h.count r.left) (sym e);
}

-- too few were read, after what others read
pub lacks_then : (r : Reading) (told now : Option Reading) (a b : List ℕ) (size : ℕ) (h : Holds r told a b) → now ≡ told → length b < size → Lacks r now a size
lacks_then r told now a b size h e short = record {
  count = h.count;
  now = e ∙ h.now;
  short = rw h.held at short;
}

-- where nothing is left, all is held
pub spent_all : (r : Reading) (told : Option Reading) (a b : List ℕ) → Holds r told a b → IsSpent told → b ≡ a ++ r.left
spent_all r told a b h spent =
    let none : drop h.count r.left ≡ [] = rw h.now at spent in
    h.held ∙ ap (λ (xs : List ℕ). a ++ xs) (sym (append-nil (take h.count r.left)) ∙ ap (λ (xs : List ℕ). take h.count r.left ++ xs) (sym none) ∙ take-append-drop h.count r.left)

-- all that was held and left, by what is held and left now
pub held_and_left : (r : Reading) (told : Option Reading) (a b : List ℕ) (h : Holds r told a b) → a ++ r.left ≡ b ++ drop h.count r.left
held_and_left r told a b h =
    ap (λ (xs : List ℕ). a ++ xs) (sym (take-append-drop h.count r.left)) ∙ sym (append_assoc a (take h.count r.left) (drop h.count r.left)) ∙ ap (λ (xs : List ℕ). xs ++ drop h.count r.left) (sym h.held)

-- a part of what was held and a part of what was left, and the other parts, where one of them is empty
split_all : (old left : List ℕ) (ready k : ℕ) → (length (take k left) ≡ 0) ⊎ (length old ≤ ready) → old ++ left ≡ (take ready old ++ take k left) ++ (drop ready old ++ drop k left)
split_all old left ready k (inl e) =
    let none : take k left ≡ [] = nil_from_length (take k left) e in
    let all : left ≡ drop k left = sym (take-append-drop k left) ∙ ap (λ (xs : List ℕ). xs ++ drop k left) none in
    ap (λ (xs : List ℕ). old ++ xs) all
    ∙ ap (λ (xs : List ℕ). xs ++ drop k left) (sym (take-append-drop ready old))
    ∙ append_assoc (take ready old) (drop ready old) (drop k left)
    ∙ ap (λ (xs : List ℕ). xs ++ (drop ready old ++ drop k left)) (sym (append-nil (take ready old)) ∙ ap (λ (xs : List ℕ). take ready old ++ xs) (sym none))
split_all old left ready k (inr e) =
    let prefix : take ready old ≡ old = take_all ready old e in
    let back : drop ready old ≡ [] = drop_all ready old e in
    ap (λ (xs : List ℕ). old ++ xs) (sym (take-append-drop k left))
    ∙ sym (append_assoc old (take k left) (drop k left))
    ∙ ap (λ (xs : List ℕ). (xs ++ take k left) ++ drop k left) (sym prefix)
    ∙ ap (λ (xs : List ℕ). (take ready old ++ take k left) ++ (xs ++ drop k left)) (sym back)

-- a buffer of `size` bytes before the source is read: it begins with the first of what was held
pub record IsReady (old buffer : List ℕ) (size ready : ℕ) : Type 0 where
  pub count : ready ≡ min (length old) size
  pub room : length buffer ≡ size
  pub prefix : take ready buffer ≡ take ready old

-- too few were read into it
pub lacks_all : (r : Reading) (told : Option Reading) (old buffer : List ℕ) (size ready : ℕ) → IsReady old buffer size ready → Lacks r told (take ready buffer) size → Lacks r told old size
lacks_all r told old buffer size ready i h = record {
  count = h.count;
  now = h.now;
  short = omega (arith, i.count, i.room, h.short, length-take ready buffer, length-append (take ready buffer) (take h.count r.left), length-append old (take h.count r.left));
}

-- the source ended before it was full
pub spent_short : (r : Reading) (told : Option Reading) (old buffer after : List ℕ) (size ready filled : ℕ) → IsReady old buffer size ready → length after ≡ size → filled < size → Holds r told (take ready buffer) (take filled after) → IsSpent told → length (old ++ r.left) < size
spent_short r told old buffer after size ready filled i room short h spent =
    let all = ap length (spent_all r told (take ready buffer) (take filled after) h spent) in
    omega (arith, i.count, i.room, all, length-take ready buffer, length-take filled after, length-append (take ready buffer) r.left, length-append old r.left)

-- either nothing was read, or all that was held was taken
either_full : (old size ready more : ℕ) → ready ≡ min old size → ready + more ≡ size → (more ≡ 0) ⊎ (old ≤ ready)
either_full old size ready more h full =
    elim (cases_lt old size) [ inl p ↦ inr (omega arith) | inr p ↦ inl (omega arith) ]

-- it is full
pub takes_all : (r : Reading) (told : Option Reading) (old new buffer after taken : List ℕ) (size ready filled : ℕ) → IsReady old buffer size ready → length after ≡ size → filled ≡ size → new ≡ drop ready old → taken ≡ after → Holds r told (take ready buffer) (take filled after) → Takes r told old new size taken
takes_all r told old new buffer after taken size ready filled i room full rest same h =
    let k = h.count in
    let whole : after ≡ take ready old ++ take k r.left = sym (take_all filled after (omega arith)) ∙ h.held ∙ ap (λ (xs : List ℕ). xs ++ take k r.left) i.prefix in
    let long : length (take ready old ++ take k r.left) ≡ size = ap length (sym whole) ∙ room in
    let parts = split_all old r.left ready k (either_full (length old) size ready (length (take k r.left)) i.count (omega (arith, long, length-append (take ready old) (take k r.left), length-take ready old, i.count))) in
    record {
      count = k;
      now = h.now;
      enough = omega (arith, ap length parts, long, length-append (take ready old ++ take k r.left) (drop ready old ++ drop k r.left));
      first = same ∙ whole ∙ sym (take_at (take ready old ++ take k r.left) (drop ready old ++ drop k r.left) size long) ∙ ap (take size) (sym parts);
      rest = ap (λ (xs : List ℕ). xs ++ drop k r.left) rest ∙ sym (drop_at (take ready old ++ take k r.left) (drop ready old ++ drop k r.left) size long) ∙ ap (drop size) (sym parts);
    }
