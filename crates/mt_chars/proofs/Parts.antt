-- The parts of a string: how long they are, and how its value goes on after them.
use Rattle.std.proofs.Common.{arith, ◌≡◌, ◌==◌, ◌<◌, ◌≤◌, ◌+◌, ◌-◌, ◌&&◌, ℕ, zero, suc, Bool, true, false, cond, nat_lt, List, [], ◌∷◌, ◌++◌, length, get_or, drop, refl, sym, ap, ◌∙◌, append_assoc, Option, Some, None}
use Rattle.std.specs.List.{prefix_len}
use Rattle.std.specs.Option.{IfSome, option_and_then, option_map}
use Rattle.std.proofs.lemmas.Bool.{and_parts}
use Rattle.std.proofs.lemmas.Bool.Decides.{nat_tests}
use Rattle.std.proofs.lemmas.List.{append-nil, drop_all, drop-drop, length-drop}
use Rattle.std.proofs.lemmas.List.Sums.{prefix_len-le-length}
use Rattle.mt_chars.specs.Classes.{char_len, first_char, is_digit, is_hex_digit}
use Rattle.mt_chars.specs.Escapes.{after_one, braced_of, char_of, character_of, cooked_from, digits_of, escape_of, is_high, is_low, line_break_len, mark_of, next_unicode, pair_of, paired, part_of, single, spelled, unicode_of, value_of}
use Rattle.mt_chars.specs.LineEnds.{begins_line_end, escape_len}
use Rattle.mt_chars.specs.declared.cooking.Code.{Code}
use Rattle.mt_chars.specs.declared.cooking.Part.{Part}
use Rattle.mt_chars.proofs.Characters.{char_len_few}
use Rattle.mt_chars.proofs.Extents.{and_right, byte_within, either_within, escape_few}
use Rattle.mt_chars.proofs.Rests.{drop_front}

-- ---- lengths

abbrev IsInside : ℕ → Code → Type 0
IsInside n c = (0 < c.len) × (c.len ≤ n)

abbrev IsPartInside : ℕ → Part → Type 0
IsPartInside n p = p.len ≤ n

if_some : {X : Type 0} (P : X → Type 0) (test : Bool) (x y : Option X) → (test ≡ true → IfSome x P) → (test ≡ false → IfSome y P) → IfSome (cond test x y) P
if_some P true x y f g = f refl
if_some P false x y f g = g refl

pub digits_inside : (count : ℕ) (rest : List ℕ) → 0 < count → IfSome (digits_of count rest) (λ c. (0 < c.len) × (c.len ≤ length rest))
digits_inside count rest p =
    let n = prefix_len is_hex_digit (drop 1 rest) in
    if_some (IsInside (length rest)) (nat_lt n count) None _ (λ _. tt)
    (λ h.
    let l : count ≤ n = grind (arith, nat_tests) in
    (omega arith, omega (arith, l, prefix_len-le-length is_hex_digit (drop 1 rest), length-drop 1 rest)))

pub braced_inside : (rest : List ℕ) → IfSome (braced_of rest) (λ c. (0 < c.len) × (c.len ≤ length rest))
braced_inside rest =
    let n = prefix_len is_hex_digit (drop 2 rest) in
    if_some (IsInside (length rest)) (nat_lt 0 n && get_or rest (n + 2) 0 == 125) _ None
    (λ h.
    let t = and_right (nat_lt 0 n) (get_or rest (n + 2) 0 == 125) h in
    let e : get_or rest (n + 2) 0 ≡ 125 = grind (arith, nat_tests) in
    let w = byte_within rest (n + 2) 125 e (omega arith) in
    (omega arith, omega (arith, w)))
    (λ _. tt)

pub unicode_inside : (rest : List ℕ) → IfSome (unicode_of rest) (λ c. (0 < c.len) × (c.len ≤ length rest))
unicode_inside rest = if_some (IsInside (length rest)) (get_or rest 1 0 == 123) (braced_of rest) (digits_of 4 rest) (λ _. braced_inside rest) (λ _. digits_inside 4 rest (omega arith))

less : (x : Option Code) (n m : ℕ) → IfSome x (λ c. (0 < c.len) × (c.len ≤ n)) → n < m → IfSome x (λ c. c.len < m)
less None n m h l = tt
less (Some c) n m h l = let w = h.1 in omega (arith, w)

pub next_inside : (rest : List ℕ) → IfSome (next_unicode rest) (λ c. c.len < length rest)
next_inside rest =
    if_some (λ (c : Code). c.len < length rest) (get_or rest 0 0 == 92 && get_or rest 1 0 == 117) (unicode_of (drop 1 rest)) None
    (λ h.
    let t = (and_parts (get_or rest 0 0 == 92) (get_or rest 1 0 == 117) h).0 in
    let e : get_or rest 0 0 ≡ 92 = grind (arith, nat_tests) in
    let w = byte_within rest 0 92 e (omega arith) in
    less (unicode_of (drop 1 rest)) (length (drop 1 rest)) (length rest) (unicode_inside (drop 1 rest)) (omega (arith, w, length-drop 1 rest)))
    (λ _. tt)

spelled_by : (len n : ℕ) (x : Option ℕ) → len ≤ n → IfSome (option_map (λ c. record { value = Some c; len = len }) x) (IsPartInside n)
spelled_by len n None l = tt
spelled_by len n (Some c) l = l

spelled_inside : (code len n : ℕ) → len ≤ n → IfSome (spelled code len) (IsPartInside n)
spelled_inside code len n l = spelled_by len n (char_of code) l

paired_inside : (high : Code) (low : Option Code) (n m : ℕ) → IfSome low (λ c. c.len < m) → high.len + m ≤ n → IfSome (paired high low) (IsPartInside n)
paired_inside high None n m h l = tt
paired_inside high (Some low) n m h l =
    if_some (IsPartInside n) (is_low low.code) (spelled (pair_of high.code low.code) (high.len + 1 + low.len)) None (λ _. spelled_inside (pair_of high.code low.code) (high.len + 1 + low.len) n (omega (arith, h))) (λ _. tt)

character_inside : (rest : List ℕ) (code : Option Code) → IfSome code (λ c. (0 < c.len) × (c.len ≤ length rest)) → IfSome (character_of rest code) (IsPartInside (length rest))
character_inside rest None h = tt
character_inside rest (Some c) h =
    let w = h.1 in
    if_some (IsPartInside (length rest)) (is_high c.code) (paired c (next_unicode (drop c.len rest))) (spelled c.code c.len)
    (λ _. paired_inside c (next_unicode (drop c.len rest)) (length rest) (length (drop c.len rest)) (next_inside (drop c.len rest)) (omega (arith, w, length-drop c.len rest)))
    (λ _. spelled_inside c.code c.len (length rest) w)

larger : (x : Option Part) (n m : ℕ) → IfSome x (IsPartInside n) → n ≤ m → IfSome x (IsPartInside m)
larger None n m h l = tt
larger (Some p) n m h l = omega (arith, h)

pub mark_inside : (b : ℕ) (rest : List ℕ) → IfSome (mark_of b rest) (IsPartInside (length rest + 3))
mark_inside b rest =
    let n = length rest + 3 in
    let P = IsPartInside n in
    if_some P (b == 120) (character_of rest (digits_of 2 rest)) _ (λ _. larger (character_of rest (digits_of 2 rest)) (length rest) n (character_inside rest (digits_of 2 rest) (digits_inside 2 rest (omega arith))) (omega arith))
    (λ _. if_some P (b == 117) (character_of rest (unicode_of rest)) _ (λ _. larger (character_of rest (unicode_of rest)) (length rest) n (character_inside rest (unicode_of rest) (unicode_inside rest)) (omega arith))
    (λ _. if_some P (b == 48) _ _ (λ _. if_some P (is_digit (get_or rest 1 0)) None (Some (record { value = Some 0; len = 1 })) (λ _. tt) (λ _. omega arith))
    (λ _. if_some P (is_digit b) None _ (λ _. tt)
    (λ _. if_some P (nat_lt b 128) (Some (record { value = Some (single b); len = 1 })) (Some (record { value = None; len = 0 })) (λ _. omega arith) (λ _. omega arith)))))

break_few : (rest : List ℕ) → line_break_len rest ≤ 3
break_few rest = let f = escape_few rest in either_within (get_or rest 0 0 == 226) 3 (escape_len rest) 3 (omega arith) (omega (arith, f))

pub escape_inside : (rest : List ℕ) → IfSome (escape_of rest) (λ p. p.len ≤ length rest + 3)
escape_inside [] = tt
escape_inside (b ∷ rest) =
    if_some (IsPartInside (length (b ∷ rest) + 3)) (begins_line_end (b ∷ rest)) (Some (record { value = None; len = line_break_len (b ∷ rest) })) (mark_of b (b ∷ rest))
    (λ _. omega (arith, break_few (b ∷ rest)))
    (λ _. mark_inside b (b ∷ rest))

one_more : (x : Option Part) (n m : ℕ) → IfSome x (IsPartInside n) → n + 1 ≤ m → IfSome (option_map after_one x) (λ p. (0 < p.len) × (p.len ≤ m))
one_more None n m h l = tt
one_more (Some p) n m h l = (omega arith, omega (arith, h))

pub part_inside : (rest : List ℕ) → 0 < length rest → IfSome (part_of rest) (λ p. (0 < p.len) × (p.len ≤ length rest + 4))
part_inside [] h = absurd (omega arith)
part_inside (b ∷ rest) h =
    let few = char_len_few (b ∷ rest) in
    let some : 0 < char_len (b ∷ rest) = omega arith in
    if_some (λ (p : Part). (0 < p.len) × (p.len ≤ length (b ∷ rest) + 4)) (b == 92) (option_map after_one (escape_of rest)) (Some (record { value = char_of (first_char (b ∷ rest)); len = char_len (b ∷ rest) }))
    (λ _. one_more (escape_of rest) (length rest + 3) (length (b ∷ rest) + 4) (escape_inside rest) (omega arith))
    (λ _. (some, omega (arith, few)))

-- ---- the value

cooked-taken : (taken : ℕ) (rest : List ℕ) → cooked_from taken rest ≡ cooked_from 0 (drop taken rest)
cooked-taken zero rest = refl
cooked-taken (suc taken) [] = refl
cooked-taken (suc taken) (b ∷ rest) =
    let t : nat_lt 0 (suc taken) ≡ true = grind (arith, nat_tests) in
    let f : suc taken - 1 ≡ taken = omega arith in
    let s : cooked_from (suc taken) (b ∷ rest) ≡ cooked_from taken rest = rw (t, f) refl in
    s ∙ cooked-taken taken rest

with_part : List ℕ → Part → Option (List ℕ)
with_part rest p = option_map (λ value. value_of p ++ value) (cooked_from (p.len - 1) rest)

cooked-step : (b : ℕ) (rest : List ℕ) (p : Part) → part_of (b ∷ rest) ≡ Some p → 0 < p.len → cooked_from 0 (b ∷ rest) ≡ option_map (λ value. value_of p ++ value) (cooked_from 0 (drop p.len (b ∷ rest)))
unfolding with_part
cooked-step b rest p e h =
    let k : p.len ≡ suc (p.len - 1) = omega arith in
    let d : drop (p.len - 1) rest ≡ drop p.len (b ∷ rest) = ap (λ n. drop n (b ∷ rest)) (sym k) in
    let s : cooked_from 0 (b ∷ rest) ≡ with_part rest p = ap (λ o. option_and_then (with_part rest) o) e in
    s ∙ ap (λ x. option_map (λ value. value_of p ++ value) x) (cooked-taken (p.len - 1) rest ∙ ap (cooked_from 0) d)

joined : (x : Option (List ℕ)) (a b : List ℕ) → option_map (λ v. a ++ v) (option_map (λ v. b ++ v) x) ≡ option_map (λ v. (a ++ b) ++ v) x
joined None a b = refl
joined (Some v) a b = ap Some (sym (append_assoc a b v))

pub cooked_more :
    (body : List ℕ) (at : ℕ) (value : List ℕ) (p : Part) → at < length body → Some p ≡ part_of (drop at body) → 0 < p.len →
    option_map (λ v. value ++ v) (cooked_from 0 (drop at body)) ≡ option_map (λ v. (value ++ value_of p) ++ v) (cooked_from 0 (drop (at + p.len) body))
cooked_more body at value p h e l =
    let b = get_or body at 0 in
    let d = drop_front body at h in
    let f : part_of (b ∷ drop (at + 1) body) ≡ Some p = ap part_of (sym d) ∙ sym e in
    let s = cooked-step b (drop (at + 1) body) p f l in
    let back : drop p.len (b ∷ drop (at + 1) body) ≡ drop (at + p.len) body = ap (λ xs. drop p.len xs) (sym d) ∙ drop-drop p.len at body in
    ap (λ xs. option_map (λ v. value ++ v) (cooked_from 0 xs)) d
    ∙ ap (λ x. option_map (λ v. value ++ v) x) s
    ∙ joined (cooked_from 0 (drop p.len (b ∷ drop (at + 1) body))) value (value_of p)
    ∙ ap (λ xs. option_map (λ v. (value ++ value_of p) ++ v) (cooked_from 0 xs)) back

pub cooked_none : (body : List ℕ) (at : ℕ) (value : List ℕ) → at < length body → None ≡ part_of (drop at body) → option_map (λ v. value ++ v) (cooked_from 0 (drop at body)) ≡ None
unfolding with_part
cooked_none body at value h e =
    let b = get_or body at 0 in
    let d = drop_front body at h in
    let f : part_of (b ∷ drop (at + 1) body) ≡ None = ap part_of (sym d) ∙ sym e in
    let s : cooked_from 0 (b ∷ drop (at + 1) body) ≡ None = ap (λ o. option_and_then (with_part (drop (at + 1) body)) o) f in
    ap (λ xs. option_map (λ v. value ++ v) (cooked_from 0 xs)) d ∙ ap (λ x. option_map (λ v. value ++ v) x) s

pub cooked_end : (body : List ℕ) (at : ℕ) (value : List ℕ) → length body ≤ at → option_map (λ v. value ++ v) (cooked_from 0 (drop at body)) ≡ Some value
cooked_end body at value h = ap (λ xs. option_map (λ v. value ++ v) (cooked_from 0 xs)) (drop_all at body h) ∙ ap Some (append-nil value)
