-- How the line at the start ends, and that more bytes after a line that has ended change nothing.
use Rattle.std.proofs.Common.{◌≡◌, ◌+◌, ◌<◌, ◌≤◌, inl, inr, true, false, not, cond, eqb, ltb, ◌==◌, refl, List, ℕ, [], ◌∷◌, ◌++◌, length, take, drop, get_or, sym, ap, ◌∙◌, arith, length-append, Some, None}
use Rattle.std.proofs.lemmas.Bool.{ltb-true, ltb-false, lt-ltb, le-ltb, eqb-true, eqb-false, ne_eqb, eq-eqb, cond-true, cond-false, not-false, and_parts}
use Rattle.std.proofs.lemmas.Bool.Decides.{nat_tests}
use Rattle.std.proofs.lemmas.List.{take-append-drop, drop_more}
use Rattle.std.proofs.lemmas.List.Folds.{prefix_len-append}
use Rattle.std.proofs.lemmas.List.Sums.{prefix_len-le-length, prefix_len_stops}
use Rattle.std.specs.List.{list_all, position}
use Rattle.mt_script.specs.Steps.{line_len, line_end}
use Rattle.mt_script.specs.declared.line.LineEnd.TheVariants.{Whole, TooLong, Unfinished}
use Rattle.mt_script.proofs.Conditions.{chosen, kept}

-- a line of so many bytes has ended
pub record EndsAt (bytes : List ℕ) (len : ℕ) : Type 0 where
  pub first : line_len bytes ≡ len
  pub within : len < length bytes
  pub short : len ≤ 1100

-- a line is no longer than the bytes
pub line_len_le : (bytes : List ℕ) → line_len bytes ≤ length bytes
line_len_le bytes = prefix_len-le-length (λ b. not (b == 10)) bytes

-- the cases of how a line ends
pub when_whole : (bytes : List ℕ) (len : ℕ) → line_end bytes ≡ Whole len → EndsAt bytes len
when_whole bytes len h =
    elim (chosen (ltb 1100 (line_len bytes)) TooLong (cond (eqb (line_len bytes) (length bytes)) Unfinished (Whole (line_len bytes))) (Whole len) h) [
      | inl p ↦ cc
      | inr p ↦ elim (chosen (eqb (line_len bytes) (length bytes)) Unfinished (Whole (line_len bytes)) (Whole len) p.1) [
        | inl q ↦ cc
        | inr q ↦
            let same : line_len bytes ≡ len = cc in
            let apart = eqb-false (line_len bytes) (length bytes) q.0 in
            let most = line_len_le bytes in
            let few = ltb-false 1100 (line_len bytes) p.0 in
            record { first = same; within = omega arith; short = omega arith }
      ]
    ]

pub when_long : (bytes : List ℕ) → line_end bytes ≡ TooLong → 1100 < line_len bytes
when_long bytes h =
    elim (chosen (ltb 1100 (line_len bytes)) TooLong (cond (eqb (line_len bytes) (length bytes)) Unfinished (Whole (line_len bytes))) TooLong h) [
      | inl p ↦ ltb-true 1100 (line_len bytes) p.0
      | inr p ↦ elim (chosen (eqb (line_len bytes) (length bytes)) Unfinished (Whole (line_len bytes)) TooLong p.1) [ inl q ↦ cc | inr q ↦ cc ]
    ]

pub when_unfinished : (bytes : List ℕ) → line_end bytes ≡ Unfinished → length bytes ≤ 1100
when_unfinished bytes h =
    elim (chosen (ltb 1100 (line_len bytes)) TooLong (cond (eqb (line_len bytes) (length bytes)) Unfinished (Whole (line_len bytes))) Unfinished h) [
      | inl p ↦ cc
      | inr p ↦ elim (chosen (eqb (line_len bytes) (length bytes)) Unfinished (Whole (line_len bytes)) Unfinished p.1) [
        | inl q ↦
            let few = ltb-false 1100 (line_len bytes) p.0 in
            let all = eqb-true (line_len bytes) (length bytes) q.0 in
            omega arith
        | inr q ↦ cc
      ]
    ]

-- and back
pub is_whole : (bytes : List ℕ) (len : ℕ) → EndsAt bytes len → line_end bytes ≡ Whole len
is_whole bytes len h =
    let few : ltb 1100 (line_len bytes) ≡ false = le-ltb 1100 (line_len bytes) (omega (arith, h.first, h.short)) in
    let more : eqb (line_len bytes) (length bytes) ≡ false = ne_eqb (line_len bytes) (length bytes) (λ e. omega (arith, h.first, h.within, e)) in
    rw few (rw more (ap Whole h.first))

pub is_long : (bytes : List ℕ) → 1100 < line_len bytes → line_end bytes ≡ TooLong
is_long bytes h = cond-true (ltb 1100 (line_len bytes)) _ _ (lt-ltb 1100 (line_len bytes) h)

-- a line feed that is there stays the first
len_stays : (bytes more : List ℕ) → line_len bytes < length bytes → line_len (bytes ++ more) ≡ line_len bytes
len_stays bytes more h =
    prefix_len-append (λ b. not (b == 10)) bytes more ∙ cond-false _ _ _ (ne_eqb (line_len bytes) (length bytes) (λ e. omega arith))

-- without one the line goes on
len_grows : (bytes more : List ℕ) → line_len bytes ≤ line_len (bytes ++ more)
len_grows bytes more =
    let e = prefix_len-append (λ b. not (b == 10)) bytes more in
    let most = line_len_le bytes in
    grind (arith, nat_tests)

pub whole_stays : (bytes more : List ℕ) (len : ℕ) → EndsAt bytes len → EndsAt (bytes ++ more) len
whole_stays bytes more len h =
    let first = h.first in
    let within = h.within in
    let e = len_stays bytes more (omega arith) in
    let l = length-append bytes more in
    record { first = e ∙ first; within = omega arith; short = h.short }

pub long_stays : (bytes more : List ℕ) → 1100 < line_len bytes → 1100 < line_len (bytes ++ more)
long_stays bytes more h = let e = len_grows bytes more in omega arith

-- a line, its line feed, and what follows it
pub line_parts : (bytes : List ℕ) (len : ℕ) → EndsAt bytes len → bytes ≡ take len bytes ++ 10 ∷ drop (len + 1) bytes
line_parts bytes len h =
    let first = h.first in
    let within : line_len bytes < length bytes = omega (arith, h.within) in
    let stops = prefix_len_stops (λ b. not (b == 10)) bytes 0 within in
    let feed : get_or bytes (line_len bytes) 0 ≡ 10 = eqb-true (get_or bytes (line_len bytes) 0) 10 (not-false _ stops) in
    let here : get_or bytes len 0 ≡ 10 = rw first at feed in
    sym (take-append-drop len bytes) ∙ ap (λ xs. take len bytes ++ xs) (drop_more bytes len 0 h.within ∙ ap (λ (b : ℕ). b ∷ drop (len + 1) bytes) here)

-- bytes that begin with a line without a line feed in it
pub len_of_line : (line more : List ℕ) → list_all (λ b. not (b == 10)) line ≡ true → line_len (line ++ 10 ∷ more) ≡ length line
len_of_line [] more h = refl
len_of_line (b ∷ line) more h =
    let p = and_parts (not (b == 10)) (list_all (λ x. not (x == 10)) line) h in
    ap (λ t. cond t (1 + line_len (line ++ 10 ∷ more)) 0) p.0 ∙ ap (λ n. 1 + n) (len_of_line line more p.1) ∙ omega arith

-- a line without a line feed in it, and the line feed
pub ends_line : (line more : List ℕ) → list_all (λ b. not (b == 10)) line ≡ true → length line ≤ 1100 → EndsAt (line ++ 10 ∷ more) (length line)
ends_line line more h short =
    let l = length-append line (10 ∷ more) in
    record { first = len_of_line line more h; within = omega arith; short = short }

-- a line feed at a place
found_at : (bytes : List ℕ) (len : ℕ) → position (λ b. b == 10) bytes ≡ Some len → (line_len bytes ≡ len) × (len < length bytes)
found_at bytes len h =
    let p = kept (ltb (line_len bytes) (length bytes)) (line_len bytes) len h in
    let l = ltb-true (line_len bytes) (length bytes) p.0 in
    (p.1, rw p.1 at l)

pub end_far : (bytes : List ℕ) (len : ℕ) → position (λ b. b == 10) bytes ≡ Some len → 1100 < len → TooLong ≡ line_end bytes
end_far bytes len h far = let p = found_at bytes len h in sym (is_long bytes (omega (arith, p.0)))

pub end_near : (bytes : List ℕ) (len : ℕ) → position (λ b. b == 10) bytes ≡ Some len → len ≤ 1100 → Whole len ≡ line_end bytes
end_near bytes len h near = let p = found_at bytes len h in sym (is_whole bytes len (record { first = p.0; within = p.1; short = near }))

-- no line feed
nowhere : (bytes : List ℕ) → position (λ b. b == 10) bytes ≡ None → line_len bytes ≡ length bytes
nowhere bytes h =
    elim (chosen (ltb (line_len bytes) (length bytes)) (Some (line_len bytes)) None None h) [
      | inl p ↦ absurd (let q : Some (line_len bytes) ≡ None = p.1 in cc)
      | inr p ↦ let l = ltb-false (line_len bytes) (length bytes) p.0 in let m = line_len_le bytes in omega arith
    ]

pub end_long : (bytes : List ℕ) → position (λ b. b == 10) bytes ≡ None → 1100 < length bytes → TooLong ≡ line_end bytes
end_long bytes h far = let e = nowhere bytes h in sym (is_long bytes (omega arith))

pub end_open : (bytes : List ℕ) → position (λ b. b == 10) bytes ≡ None → length bytes ≤ 1100 → Unfinished ≡ line_end bytes
end_open bytes h near =
    let e = nowhere bytes h in
    let few : ltb 1100 (line_len bytes) ≡ false = le-ltb 1100 (line_len bytes) (omega arith) in
    let all : eqb (line_len bytes) (length bytes) ≡ true = eq-eqb (line_len bytes) (length bytes) e in
    rw (few, all) refl
