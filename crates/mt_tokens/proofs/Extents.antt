-- The lengths of comments, strings, templates and regular expressions are within the text.
use Rattle.std.proofs.Common.{ℕ, suc, Bool, true, false, ◌≡◌, ◌==◌, ◌<◌, ◌≤◌, ◌+◌, ◌-◌, ◌||◌, List, [], ◌∷◌, length, take, get_or, arith, refl, sym, ap, cond, eqb, nat_lt, Option, Some, None}
use Rattle.std.specs.Option.{option_map, IfSome}
use Rattle.std.specs.List.{starts_with}
use Rattle.std.proofs.lemmas.List.{length-take}
use Rattle.std.proofs.lemmas.Bool.Decides.{nat_tests, Decides-eqb}
use Rattle.std.proofs.lemmas.Slice.Eq.{slice_eq-Decides}
use Rattle.mt_chars.specs.LineEnds.{begins_line_end, escape_len}
use Rattle.mt_chars.proofs.Extents.{and_right, byte_within}
use Rattle.mt_tokens.specs.Regexes.{body_len, ends_body, is_class_after}
use Rattle.mt_tokens.specs.Templates.{opens_hole, piece_len, is_free}
use Rattle.mt_tokens.specs.Comments.{line_len, block_len, begins_comment}
use Rattle.mt_tokens.specs.Strings.{closing_len}

-- a text is as long as what it begins with
pub starts_within : (rest p : List ℕ) → starts_with eqb rest p ≡ true → length p ≤ length rest
starts_within rest p h =
    let same = (slice_eq-Decides Decides-eqb p (take (length p) rest) _ refl).0 h in
    omega (arith, ap length same, length-take (length p) rest)

-- a length that is counted on stays within one byte more
pub map_within : (x : Option ℕ) (m : ℕ) → IfSome x (λ n. n ≤ m) → IfSome (option_map (λ n. n + 1) x) (λ n. n ≤ suc m)
map_within None m h = tt
map_within (Some n) m h = omega arith

pub if_within : (test : Bool) (x y : Option ℕ) (m : ℕ) → (test ≡ true → IfSome x (λ n. n ≤ m)) → IfSome y (λ n. n ≤ m) → IfSome (cond test x y) (λ n. n ≤ m)
if_within true x y m f g = f refl
if_within false x y m f g = g

-- the same of a length that is not 0
pub map_inside : (x : Option ℕ) (m : ℕ) → IfSome x (λ n. (0 < n) × (n ≤ m)) → IfSome (option_map (λ n. n + 1) x) (λ n. (0 < n) × (n ≤ suc m))
map_inside None m h = tt
map_inside (Some n) m h = let w = h.1 in (omega arith, omega (arith, w))

pub if_inside : (test : Bool) (x y : Option ℕ) (m : ℕ) → (test ≡ true → IfSome x (λ n. (0 < n) × (n ≤ m))) → IfSome y (λ n. (0 < n) × (n ≤ m)) → IfSome (cond test x y) (λ n. (0 < n) × (n ≤ m))
if_inside true x y m f g = f refl
if_inside false x y m f g = g

-- the end of a comment is within the text
pub block_within : (rest : List ℕ) → IfSome (block_len rest) (λ n. n ≤ length rest)
block_within [] = tt
block_within (b ∷ rest) =
    if_within (starts_with eqb (b ∷ rest) (42 ∷ 47 ∷ [])) (Some 2) (option_map (λ n. n + 1) (block_len rest)) (length (b ∷ rest))
    (starts_within (b ∷ rest) (42 ∷ 47 ∷ []))
    (map_within (block_len rest) (length rest) (block_within rest))

-- the end of a string is within the text
pub closing_within : (quote taken : ℕ) (rest : List ℕ) → IfSome (closing_len quote taken rest) (λ n. n ≤ length rest)
closing_within quote taken [] = tt
closing_within quote taken (b ∷ rest) =
    let some : 1 ≤ length (b ∷ rest) = omega arith in
    if_within (nat_lt 0 taken) _ _ (length (b ∷ rest)) (λ _. map_within (closing_len quote (taken - 1) rest) (length rest) (closing_within quote (taken - 1) rest))
    (if_within (b == quote) (Some 1) _ (length (b ∷ rest)) (λ _. some)
    (if_within (b == 10 || b == 13) None _ (length (b ∷ rest)) (λ _. tt)
    (map_within (closing_len quote (cond (b == 92) (escape_len rest) 0) rest) (length rest) (closing_within quote (cond (b == 92) (escape_len rest) 0) rest))))

pub if_at_most : (test : Bool) (x n : ℕ) → x ≤ n → cond test 0 x ≤ n
if_at_most true x n h = omega arith
if_at_most false x n h = h

-- the line's end is within the text
pub line_within : (rest : List ℕ) → line_len rest ≤ length rest
line_within [] = omega arith
line_within (b ∷ rest) = let i = line_within rest in if_at_most (begins_line_end (b ∷ rest)) (line_len rest + 1) (length (b ∷ rest)) (omega arith)

-- a comment begins with a byte that ends no line
pub comment_some : (place b : ℕ) (rest : List ℕ) → begins_comment place (b ∷ rest) ≡ true → 0 < line_len (b ∷ rest)
comment_some place b rest h =
    let e : begins_line_end (b ∷ rest) ≡ false = grind (arith, nat_tests) in
    let l : line_len (b ∷ rest) ≡ line_len rest + 1 = ap (λ t. cond t 0 (line_len rest + 1)) e in
    omega arith

-- the same of a length that is there
pub block_end : (rest : List ℕ) (n : ℕ) → Some n ≡ block_len rest → n ≤ length rest
block_end rest n e = let w = block_within rest in rw (sym e) at w

pub closing_end : (quote : ℕ) (rest : List ℕ) (n : ℕ) → Some n ≡ closing_len quote 0 rest → n ≤ length rest
closing_end quote rest n e = let w = closing_within quote 0 rest in rw (sym e) at w

-- ---- pieces of templates, and regular expressions

hole_within : (taken : Bool) (b : ℕ) (rest : List ℕ) → opens_hole taken b (get_or rest 0 0) ≡ true → 2 ≤ length (b ∷ rest)
hole_within taken b rest h =
    let t = and_right (is_free taken b 36) (get_or rest 0 0 == 123) h in
    let e : get_or rest 0 0 ≡ 123 = grind (arith, nat_tests) in
    let w = byte_within rest 0 123 e (omega arith) in
    omega (arith, w)

pub piece_within : (taken : Bool) (rest : List ℕ) → IfSome (piece_len taken rest) (λ n. (0 < n) × (n ≤ length rest))
piece_within taken [] = tt
piece_within taken (b ∷ rest) =
    let some : 1 ≤ length (b ∷ rest) = omega arith in
    if_inside (is_free taken b 96) (Some 1) _ (length (b ∷ rest)) (λ _. (omega arith, some))
    (if_inside (opens_hole taken b (get_or rest 0 0)) (Some 2) _ (length (b ∷ rest)) (λ h. (omega arith, hole_within taken b rest h))
    (map_inside (piece_len (is_free taken b 92) rest) (length rest) (piece_within (is_free taken b 92) rest)))

pub body_within : (in_class taken : Bool) (rest : List ℕ) → IfSome (body_len in_class taken rest) (λ n. (0 < n) × (n ≤ length rest))
body_within in_class taken [] = tt
body_within in_class taken (b ∷ rest) =
    let some : 1 ≤ length (b ∷ rest) = omega arith in
    if_inside (begins_line_end (b ∷ rest)) None _ (length (b ∷ rest)) (λ _. tt)
    (if_inside (ends_body in_class taken b) (Some 1) _ (length (b ∷ rest)) (λ _. (omega arith, some))
    (map_inside (body_len (is_class_after in_class taken b) (is_free taken b 92) rest) (length rest) (body_within (is_class_after in_class taken b) (is_free taken b 92) rest)))

pub piece_end : (rest : List ℕ) (n : ℕ) → Some n ≡ piece_len false rest → (0 < n) × (n ≤ length rest)
piece_end rest n e = let w = piece_within false rest in rw (sym e) at w

pub body_end : (rest : List ℕ) (n : ℕ) → Some n ≡ body_len false false rest → (0 < n) × (n ≤ length rest)
body_end rest n e = let w = body_within false false rest in rw (sym e) at w
