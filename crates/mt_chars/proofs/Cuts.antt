-- Numbers, names and runs end between characters.
use Rattle.std.proofs.Common.{arith, ◌≡◌, ◌==◌, ◌<◌, ◌≤◌, ◌+◌, ◌-◌, ◌&&◌, ◌||◌, ℕ, zero, suc, Bool, true, false, cond, nat_lt, List, [], ◌∷◌, length, get_or, drop, refl, sym, ap, ◌∙◌, subst, inl, inr, IsUtf8, IsCharBoundary}
use Rattle.std.specs.List.{prefix_len}
use Rattle.std.proofs.lemmas.Bool.{and_parts, cases_Bool, ltb-true}
use Rattle.std.proofs.lemmas.Bool.Decides.{nat_tests}
use Rattle.std.proofs.lemmas.List.{drop-drop, get_or-drop, get_or_past}
use Rattle.std.proofs.lemmas.List.Sums.{prefix_len_passes}
use Rattle.std.proofs.lemmas.Str.{IsCharBoundary-after_ascii, IsUtf8-drop, IsUtf8-nil}
use Rattle.mt_chars.specs.Classes.{char_len, first_char, is_digit, is_hex_digit, is_number_part, is_part, is_space, is_start}
use Rattle.mt_chars.specs.Names.{code_len, name_escape_len, name_len, private_len, run_after, run_len, start_len, unit_len}
use Rattle.mt_chars.specs.Numbers.{and_after, begins_base, exponent_len, fraction_len, is_base_letter, is_digit_part, number_len, sign_len}
use Rattle.mt_chars.specs.declared.names.RunOf.{RunOf}
use Rattle.mt_chars.specs.declared.names.RunOf.TheVariants.{Blanks, NameParts, Flags}
use Rattle.mt_chars.proofs.Characters.{past_char}
use Rattle.mt_chars.proofs.Extents.{and_right, escape_within, first_of, third_of, unit_within}

-- ---- after a byte of ASCII

-- the last of so many bytes is of ASCII, where there is one
abbrev pub EndsAscii : List ℕ → ℕ → Type 0
EndsAscii rest n = 0 < n → get_or rest (n - 1) 0 < 128

pub ends_cut : (rest : List ℕ) (n : ℕ) → EndsAscii rest n → n ≤ length rest → IsUtf8 rest → IsUtf8 (drop n rest)
ends_cut rest zero a l u = u
ends_cut rest (suc m) a l u =
    let e : suc m - 1 ≡ m = omega arith in
    let low : get_or rest m 0 < 128 = subst (λ i. get_or rest i 0 < 128) e (a (omega arith)) in
    let next : m + 1 ≡ suc m = omega arith in
    IsUtf8-drop rest (suc m) u (subst (IsCharBoundary rest) next (IsCharBoundary-after_ascii rest m u (omega arith) low))

pub no_ends : (rest : List ℕ) → EndsAscii rest 0
no_ends rest h = absurd (omega arith)

if_ends : (rest : List ℕ) (test : Bool) (x : ℕ) → (test ≡ true → EndsAscii rest x) → EndsAscii rest (cond test x 0)
if_ends rest true x f = f refl
if_ends rest false x f = no_ends rest

pub either_ends : (rest : List ℕ) (test : Bool) (x y : ℕ) → (test ≡ true → EndsAscii rest x) → EndsAscii rest y → EndsAscii rest (cond test x y)
either_ends rest true x y f g = f refl
either_ends rest false x y f g = g

-- one byte
pub one_ends : (rest : List ℕ) → get_or rest 0 0 < 128 → EndsAscii rest 1
one_ends rest h p = h

-- a part, and one after it
pub then_ends : (rest : List ℕ) (k q m : ℕ) → m ≡ k + q → (q ≡ 0 → EndsAscii rest k) → EndsAscii (drop k rest) q → EndsAscii rest m
then_ends rest k zero m e a b = let is : k ≡ m = omega arith in subst (EndsAscii rest) is (a refl)
then_ends rest k (suc q) m e a b = λ p.
    let s : suc q - 1 ≡ q = omega arith in
    let i : k + q ≡ m - 1 = omega arith in
    let low : get_or (drop k rest) q 0 < 128 = subst (λ j. get_or (drop k rest) j 0 < 128) s (b (omega arith)) in
    let here : get_or rest (m - 1) 0 ≡ get_or (drop k rest) q 0 = ap (λ j. get_or rest j 0) (sym i) ∙ sym (get_or-drop k rest q 0) in
    omega (arith, low, here)

-- a run of bytes of ASCII
run_ends : (class : ℕ → Bool) → ((b : ℕ) → class b ≡ true → b < 128) → (rest : List ℕ) → EndsAscii rest (prefix_len class rest)
run_ends class low rest p = low (get_or rest (prefix_len class rest - 1) 0) (prefix_len_passes class rest (prefix_len class rest - 1) 0 (omega arith))

-- ---- escapes and runs

hex_low : (b : ℕ) → is_hex_digit b ≡ true → b < 128
hex_low b h = grind (arith, nat_tests)

code_ends : (rest : List ℕ) → EndsAscii rest (code_len rest)
code_ends rest =
    let n = prefix_len is_hex_digit (drop 2 rest) in
    let m = prefix_len is_hex_digit (drop 1 rest) in
    either_ends rest (get_or rest 1 0 == 123) (cond (nat_lt 0 n && nat_lt n 7 && get_or rest (n + 2) 0 == 125) (n + 3) 0) (cond (nat_lt 3 m) 5 0)
    (λ _. if_ends rest (nat_lt 0 n && nat_lt n 7 && get_or rest (n + 2) 0 == 125) (n + 3)
    (λ h p.
    let t = third_of (nat_lt 0 n) (nat_lt n 7) (get_or rest (n + 2) 0 == 125) h in
    let e : get_or rest (n + 2) 0 ≡ 125 = grind (arith, nat_tests) in
    let i : n + 2 ≡ n + 3 - 1 = omega arith in
    subst (λ j. get_or rest j 0 < 128) i (omega (arith, e))))
    (if_ends rest (nat_lt 3 m) 5
    (λ h p.
    let t = prefix_len_passes is_hex_digit (drop 1 rest) 3 0 (ltb-true 3 m h) in
    let low = hex_low (get_or (drop 1 rest) 3 0) t in
    let here : get_or (drop 1 rest) 3 0 ≡ get_or rest 4 0 = get_or-drop 1 rest 3 0 in
    omega (arith, low, here)))

escape_ends : (rest : List ℕ) → EndsAscii rest (name_escape_len rest)
escape_ends rest =
    let len = code_len (drop 1 rest) in
    if_ends rest (get_or rest 0 0 == 92 && get_or rest 1 0 == 117 && nat_lt 0 len) (len + 1)
    (λ h.
    let t = first_of (get_or rest 0 0 == 92) (get_or rest 1 0 == 117) (nat_lt 0 len) h in
    let low : get_or rest 0 0 < 128 = grind (arith, nat_tests) in
    then_ends rest 1 len (len + 1) (omega arith) (λ _. one_ends rest low) (code_ends (drop 1 rest)))

escape_cuts : (rest : List ℕ) → IsUtf8 rest → IsUtf8 (drop (name_escape_len rest) rest)
escape_cuts rest u = ends_cut rest (name_escape_len rest) (escape_ends rest) (escape_within rest) u

if_cuts : (rest : List ℕ) (test : Bool) (x y : ℕ) → IsUtf8 (drop x rest) → IsUtf8 (drop y rest) → IsUtf8 (drop (cond test x y) rest)
if_cuts rest true x y a b = a
if_cuts rest false x y a b = b

start_cuts : (rest : List ℕ) → IsUtf8 rest → IsUtf8 (drop (start_len rest) rest)
start_cuts rest u = if_cuts rest (is_start (first_char rest)) (char_len rest) (name_escape_len rest) (past_char rest u) (escape_cuts rest u)

unit_cuts : (of : RunOf) (rest : List ℕ) → IsUtf8 rest → IsUtf8 (drop (unit_len of rest) rest)
unit_cuts Blanks rest u = if_cuts rest (is_space (first_char rest)) (char_len rest) 0 (past_char rest u) u
unit_cuts NameParts rest u = if_cuts rest (is_part (first_char rest)) (char_len rest) (name_escape_len rest) (past_char rest u) (escape_cuts rest u)
unit_cuts Flags rest u = if_cuts rest (is_part (first_char rest)) (char_len rest) 0 (past_char rest u) u

-- one byte more before a text that is cut
shifted : (b : ℕ) (rest : List ℕ) (n m : ℕ) → m ≡ n + 1 → IsUtf8 (drop n rest) → IsUtf8 (drop m (b ∷ rest))
shifted b rest n m e u = let s : suc n ≡ m = omega arith in subst (λ k. IsUtf8 (drop k (b ∷ rest))) s u

unshifted : (b : ℕ) (rest : List ℕ) (n : ℕ) → 0 < n → IsUtf8 (drop n (b ∷ rest)) → IsUtf8 (drop (n - 1) rest)
unshifted b rest n p u = let s : n ≡ suc (n - 1) = omega arith in subst (λ k. IsUtf8 (drop k (b ∷ rest))) s u

after_cuts : (of : RunOf) (taken : ℕ) (rest : List ℕ) → IsUtf8 (drop taken rest) → taken ≤ length rest → IsUtf8 (drop (run_after of taken rest) rest)
after_cuts of taken [] u l = IsUtf8-nil
after_cuts of zero (b ∷ rest) u l = elim (cases_Bool (nat_lt 0 (unit_len of (b ∷ rest)))) [
  | inl t ↦
      let n = unit_len of (b ∷ rest) in
      let p : 0 < n = ltb-true 0 n t in
      let w = unit_within of (b ∷ rest) in
      let e : run_after of 0 (b ∷ rest) ≡ run_after of (n - 1) rest + 1 = ap (λ x. cond x (run_after of (n - 1) rest + 1) 0) t in
      shifted b rest (run_after of (n - 1) rest) (run_after of 0 (b ∷ rest)) e (after_cuts of (n - 1) rest (unshifted b rest n p (unit_cuts of (b ∷ rest) u)) (omega arith))
  | inr f ↦
      let n = unit_len of (b ∷ rest) in
      let e : 0 ≡ run_after of 0 (b ∷ rest) = sym (ap (λ x. cond x (run_after of (n - 1) rest + 1) 0) f) in
      subst (λ k. IsUtf8 (drop k (b ∷ rest))) e u
]
after_cuts of (suc taken) (b ∷ rest) u l =
    let t : nat_lt 0 (suc taken) ≡ true = grind (arith, nat_tests) in
    let f : suc taken - 1 ≡ taken = omega arith in
    let e : run_after of (suc taken) (b ∷ rest) ≡ run_after of taken rest + 1 = rw (t, f) refl in
    shifted b rest (run_after of taken rest) (run_after of (suc taken) (b ∷ rest)) e (after_cuts of taken rest u (omega arith))

pub runs_cut : (of : RunOf) (rest : List ℕ) → IsUtf8 rest → IsUtf8 (drop (run_len of rest) rest)
runs_cut of rest u = after_cuts of 0 rest u (omega arith)

-- two parts, one after the other
pub both_cut : (rest : List ℕ) (k n m : ℕ) → m ≡ k + n → IsUtf8 (drop n (drop k rest)) → IsUtf8 (drop m rest)
both_cut rest k n m e u = subst (λ j. IsUtf8 (drop j rest)) (sym e) (subst (λ ds. IsUtf8 ds) (drop-drop n k rest) u)

pub names_cut : (rest : List ℕ) → IsUtf8 rest → IsUtf8 (drop (name_len rest) rest)
names_cut rest u =
    let s = start_len rest in
    if_cuts rest (nat_lt 0 s) (s + run_len NameParts (drop s rest)) 0 (both_cut rest s (run_len NameParts (drop s rest)) (s + run_len NameParts (drop s rest)) refl (runs_cut NameParts (drop s rest) (start_cuts rest u))) u

private_by : (rest : List ℕ) (test : Bool) → (test ≡ true → (get_or rest 0 0 < 128) × (1 ≤ length rest)) → IsUtf8 rest → IsUtf8 (drop (cond test (name_len (drop 1 rest) + 1) 0) rest)
private_by rest true f u =
    let h = f refl in
    let n = name_len (drop 1 rest) in
    both_cut rest 1 n (n + 1) (omega arith) (names_cut (drop 1 rest) (ends_cut rest 1 (one_ends rest h.0) h.1 u))
private_by rest false f u = u

pub privates_cut : (rest : List ℕ) → IsUtf8 rest → IsUtf8 (drop (private_len rest) rest)
privates_cut rest u =
    let n = name_len (drop 1 rest) in
    private_by rest (get_or rest 0 0 == 35 && nat_lt 0 n)
    (λ h.
    let t = (and_parts (get_or rest 0 0 == 35) (nat_lt 0 n) h).0 in
    let e : get_or rest 0 0 ≡ 35 = grind (arith, nat_tests) in
    let past : length rest ≤ 0 → get_or rest 0 0 ≡ 0 = get_or_past rest 0 0 in
    (omega (arith, e), grind arith))
    u

-- ---- numbers

digit_low : (b : ℕ) → is_digit b ≡ true → b < 128
digit_low b h = grind (arith, nat_tests)

digit_part_low : (b : ℕ) → is_digit_part b ≡ true → b < 128
digit_part_low b h = grind (arith, nat_tests)

number_part_low : (b : ℕ) → is_number_part b ≡ true → b < 128
number_part_low b h = grind (arith, nat_tests)

and_after_ends : (p q : List ℕ → ℕ) → ((r : List ℕ) → EndsAscii r (p r)) → ((r : List ℕ) → EndsAscii r (q r)) → (r : List ℕ) → EndsAscii r (and_after p q r)
and_after_ends p q f g r = then_ends r (p r) (q (drop (p r) r)) (and_after p q r) refl (λ _. f r) (g (drop (p r) r))

fraction_ends : (r : List ℕ) → EndsAscii r (fraction_len r)
fraction_ends r =
    let n = prefix_len is_digit_part (drop 1 r) in
    if_ends r (get_or r 0 0 == 46) (n + 1)
    (λ h.
    let low : get_or r 0 0 < 128 = grind (arith, nat_tests) in
    then_ends r 1 n (n + 1) (omega arith) (λ _. one_ends r low) (run_ends is_digit_part digit_part_low (drop 1 r)))

-- a run of digits is there, where a digit is
digits_some : (r : List ℕ) → is_digit (get_or r 0 0) ≡ true → 0 < prefix_len is_digit r
digits_some [] h = absurd (cc)
digits_some (b ∷ r) h = let e : prefix_len is_digit (b ∷ r) ≡ 1 + prefix_len is_digit r = ap (λ t. cond t (1 + prefix_len is_digit r) 0) h in omega (arith, e)

exponent_ends : (r : List ℕ) → EndsAscii r (exponent_len r)
exponent_ends r =
    let at = sign_len (drop 1 r) + 1 in
    let n = prefix_len is_digit (drop at r) in
    if_ends r ((get_or r 0 0 == 101 || get_or r 0 0 == 69) && is_digit (get_or r at 0)) (n + at)
    (λ h.
    let d = and_right (get_or r 0 0 == 101 || get_or r 0 0 == 69) (is_digit (get_or r at 0)) h in
    let same : at + 0 ≡ at = omega arith in
    let here : get_or (drop at r) 0 0 ≡ get_or r at 0 = get_or-drop at r 0 0 ∙ ap (λ i. get_or r i 0) same in
    let some = digits_some (drop at r) (ap is_digit here ∙ d) in
    then_ends r at n (n + at) (omega arith) (λ z. absurd (omega (arith, some, z))) (run_ends is_digit digit_low (drop at r)))

base_ends : (r : List ℕ) → begins_base r ≡ true → EndsAscii r 2
base_ends r h p =
    let t = and_right (get_or r 0 0 == 48) (is_base_letter (get_or r 1 0)) h in
    let low : get_or r 1 0 < 128 = grind (arith, nat_tests) in
    low

pub number_ends : (r : List ℕ) → EndsAscii r (number_len r)
number_ends r =
    let part = prefix_len is_number_part in
    let parts = run_ends is_number_part number_part_low in
    either_ends r (begins_base r) (part (drop 2 r) + 2) (and_after (prefix_len is_digit_part) (and_after fraction_len (and_after exponent_len part)) r)
    (λ h. then_ends r 2 (part (drop 2 r)) (part (drop 2 r) + 2) (omega arith) (λ _. base_ends r h) (parts (drop 2 r)))
    (and_after_ends (prefix_len is_digit_part) (and_after fraction_len (and_after exponent_len part)) (run_ends is_digit_part digit_part_low)
    (and_after_ends fraction_len (and_after exponent_len part) fraction_ends (and_after_ends exponent_len part exponent_ends parts)) r)
