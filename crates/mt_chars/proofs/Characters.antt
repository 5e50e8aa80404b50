-- The character that a text begins with.
use Rattle.std.proofs.Common.{arith, ◌≡◌, ◌<◌, ◌≤◌, ◌+◌, ◌-◌, ◌*◌, ◌/◌, ℕ, zero, suc, Bool, true, false, cond, ltb, List, [], ◌∷◌, ◌++◌, length, get_or, drop, refl, sym, ap, ◌∙◌, subst}
use Rattle.std.specs.Prelude.{◌==◌, ◌&&◌, ◌||◌}
use Rattle.std.specs.Char.{is_ascii_alphabetic}
use Rattle.std.specs.Str.{IsUtf8, chars, chars_after, continuation_len, lead_bits}
use Rattle.std.proofs.lemmas.Bool.{and_parts, ltb-true}
use Rattle.std.proofs.lemmas.Bool.Decides.{nat_tests}
use Rattle.unicode_ident.proofs.IdentLemmas.{is_xid_start-ascii}
use Rattle.mt_chars.specs.Classes.{char_len, first_char, is_start}
use lib.Utf8.{encode, encodes, next, scalar, scalars}

-- ---- by its bytes

chars-lead : (a n v : ℕ) (rest : List ℕ) → continuation_len a ≡ n → lead_bits a ≡ v → chars (a ∷ rest) ≡ chars_after n v rest
unfolding chars
chars-lead a n v rest e f = λ i. chars_after (e i) (f i) rest

chars-none : chars [] ≡ []
unfolding chars
chars-none = refl

-- a character that is cut off is none
short : (n v : ℕ) (rest : List ℕ) → length rest < n → get_or (chars_after n v rest) 0 0 ≡ 0
short zero v rest h = absurd (omega arith)
short (suc n) v [] h = refl
short (suc n) v (b ∷ rest) h = short n (v * 64 + (b - 128)) rest (omega arith)

none : (v : ℕ) (rest : List ℕ) → get_or (chars_after zero v rest) 0 0 ≡ v
none v [] = refl
none v (b ∷ rest) = refl

one : (v : ℕ) (rest : List ℕ) → 1 ≤ length rest → get_or (chars_after (suc zero) v rest) 0 0 ≡ v * 64 + (get_or rest 0 0 - 128)
one v [] h = absurd (omega arith)
one v (b ∷ rest) h = none (v * 64 + (b - 128)) rest

two : (v : ℕ) (rest : List ℕ) → 2 ≤ length rest → get_or (chars_after (suc (suc zero)) v rest) 0 0 ≡ (v * 64 + (get_or rest 0 0 - 128)) * 64 + (get_or rest 1 0 - 128)
two v [] h = absurd (omega arith)
two v (b ∷ rest) h = one (v * 64 + (b - 128)) rest (omega arith)

three :
    (v : ℕ) (rest : List ℕ) → 3 ≤ length rest →
    get_or (chars_after (suc (suc (suc zero))) v rest) 0 0 ≡ ((v * 64 + (get_or rest 0 0 - 128)) * 64 + (get_or rest 1 0 - 128)) * 64 + (get_or rest 2 0 - 128)
three v [] h = absurd (omega arith)
three v (b ∷ rest) h = two (v * 64 + (b - 128)) rest (omega arith)

first_by : (a n v : ℕ) (rest : List ℕ) → continuation_len a ≡ n → lead_bits a ≡ v → first_char (a ∷ rest) ≡ get_or (chars_after n v rest) 0 0
first_by a n v rest e f = ap (λ cs. get_or cs 0 0) (chars-lead a n v rest e f)

pub first_char_short : (rest : List ℕ) → length rest < char_len rest → first_char rest ≡ 0
first_char_short [] h = absurd (omega arith)
first_char_short (a ∷ rest) h = first_by a (continuation_len a) (lead_bits a) rest refl refl ∙ short (continuation_len a) (lead_bits a) rest (omega arith)

pub first_char_two : (rest : List ℕ) → char_len rest ≡ 2 → char_len rest ≤ length rest → first_char rest ≡ (get_or rest 0 0 - 192) * 64 + (get_or rest 1 0 - 128)
first_char_two [] e h = absurd (omega arith)
first_char_two (a ∷ rest) e h =
    let n : continuation_len a ≡ 1 = omega arith in
    let v : lead_bits a ≡ a - 192 = grind (arith, nat_tests) in
    first_by a 1 (a - 192) rest n v ∙ one (a - 192) rest (omega arith)

pub first_char_three : (rest : List ℕ) → char_len rest ≡ 3 → char_len rest ≤ length rest → first_char rest ≡ ((get_or rest 0 0 - 224) * 64 + (get_or rest 1 0 - 128)) * 64 + (get_or rest 2 0 - 128)
first_char_three [] e h = absurd (omega arith)
first_char_three (a ∷ rest) e h =
    let n : continuation_len a ≡ 2 = omega arith in
    let v : lead_bits a ≡ a - 224 = grind (arith, nat_tests) in
    first_by a 2 (a - 224) rest n v ∙ two (a - 224) rest (omega arith)

pub first_char_four :
    (rest : List ℕ) → char_len rest ≡ 4 → char_len rest ≤ length rest →
    first_char rest ≡ (((get_or rest 0 0 - 240) * 64 + (get_or rest 1 0 - 128)) * 64 + (get_or rest 2 0 - 128)) * 64 + (get_or rest 3 0 - 128)
first_char_four [] e h = absurd (omega arith)
first_char_four (a ∷ rest) e h =
    let n : continuation_len a ≡ 3 = omega arith in
    let v : lead_bits a ≡ a - 240 = grind (arith, nat_tests) in
    first_by a 3 (a - 240) rest n v ∙ three (a - 240) rest (omega arith)

pub first_char_one : (rest : List ℕ) → char_len rest ≤ 1 → first_char rest ≡ get_or rest 0 0
first_char_one [] h = ap (λ cs. get_or cs 0 0) chars-none
first_char_one (a ∷ rest) h =
    let n : continuation_len a ≡ 0 = omega arith in
    let v : lead_bits a ≡ a = grind (arith, nat_tests) in
    first_by a 0 a rest n v ∙ none a rest

pub char_len_few : (rest : List ℕ) → char_len rest ≤ 4
char_len_few [] = omega arith
char_len_few (a ∷ rest) = grind (arith, nat_tests)

-- ---- what follows it

-- by how many bytes the character has
sized :
    (c : ℕ) (cs : List ℕ) (b : ℕ) (rest : List ℕ) (x y z : Bool) → ltb c 128 ≡ x → ltb c 2048 ≡ y → ltb c 65536 ≡ z → scalars cs ≡ true →
    cond x (c ∷ []) (cond y ((192 + c / 64) ∷ next c ∷ []) (cond z ((224 + c / 4096) ∷ next (c / 64) ∷ next c ∷ []) ((240 + c / 262144) ∷ next (c / 4096) ∷ next (c / 64) ∷ next c ∷ []))) ++ encodes cs ≡ b ∷ rest →
    IsUtf8 (drop (continuation_len b) rest)
sized c cs b rest true y z e f g s all =
    let is : c ≡ b = ap (λ l. get_or l 0 0) all in
    let low : c < 128 = ltb-true c 128 e in
    let n : continuation_len b ≡ 0 = grind (arith, nat_tests) in
    let r : IsUtf8 (drop 0 rest) = (cs, (s, ap (λ l. drop 1 l) all)) in
    subst (λ m. IsUtf8 (drop m rest)) (sym n) r
sized c cs b rest false true z e f g s all =
    let is : 192 + c / 64 ≡ b = ap (λ l. get_or l 0 0) all in
    let low : c < 2048 = ltb-true c 2048 f in
    let from : 192 ≤ b = omega arith in
    let to : b < 224 = omega arith in
    let n : continuation_len b ≡ 1 = grind (arith, nat_tests) in
    let r : IsUtf8 (drop 1 rest) = (cs, (s, ap (λ l. drop 2 l) all)) in
    subst (λ m. IsUtf8 (drop m rest)) (sym n) r
sized c cs b rest false false true e f g s all =
    let is : 224 + c / 4096 ≡ b = ap (λ l. get_or l 0 0) all in
    let low : c < 65536 = ltb-true c 65536 g in
    let from : 224 ≤ b = omega arith in
    let to : b < 240 = omega arith in
    let n : continuation_len b ≡ 2 = grind (arith, nat_tests) in
    let r : IsUtf8 (drop 2 rest) = (cs, (s, ap (λ l. drop 3 l) all)) in
    subst (λ m. IsUtf8 (drop m rest)) (sym n) r
sized c cs b rest false false false e f g s all =
    let is : 240 + c / 262144 ≡ b = ap (λ l. get_or l 0 0) all in
    let from : 240 ≤ b = omega arith in
    let n : continuation_len b ≡ 3 = grind (arith, nat_tests) in
    let r : IsUtf8 (drop 3 rest) = (cs, (s, ap (λ l. drop 4 l) all)) in
    subst (λ m. IsUtf8 (drop m rest)) (sym n) r

by_chars : (cs : List ℕ) (b : ℕ) (rest : List ℕ) → scalars cs ≡ true → encodes cs ≡ b ∷ rest → IsUtf8 (drop (continuation_len b) rest)
unfolding encode
by_chars [] b rest s e = absurd (cc)
by_chars (c ∷ cs) b rest s e = sized c cs b rest (ltb c 128) (ltb c 2048) (ltb c 65536) refl refl refl (and_parts (scalar c) (scalars cs) s).1 e

-- what follows the character is a text
pub past_char : (rest : List ℕ) → IsUtf8 rest → IsUtf8 (drop (char_len rest) rest)
past_char [] u = u
past_char (b ∷ rest) u =
    let e : continuation_len b + 1 ≡ suc (continuation_len b) = omega arith in
    subst (λ m. IsUtf8 (drop m (b ∷ rest))) (sym e) (by_chars u.0 b rest u.1.0 u.1.1)

-- what begins a name in ASCII
pub is_start_ascii : (c : ℕ) → c < 128 → is_start c ≡ (c == 36 || c == 95 || (scalar c && is_ascii_alphabetic c))
is_start_ascii c h = rw (is_xid_start-ascii c h) refl
