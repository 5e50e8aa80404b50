-- The punctuator that a text begins with, from its first four bytes.
use Rattle.std.proofs.Common.{ℕ, ◌&&◌, ◌≡◌, List, [], ◌∷◌, get_or, cond, refl, eqb}
use Rattle.std.specs.Cmp.Lexicographic.{pointwise}
use Rattle.mt_chars.specs.Classes.{is_digit}
use Rattle.mt_tokens.specs.Punctuators.{punct_len, of_four, of_three, of_two, of_one, is_among}

-- by the four bytes, of which those past the end are 0
pub punct_len_by_bytes :
    (rest : List ℕ) →
    punct_len rest
    ≡ cond (is_among of_four (get_or rest 0 0 ∷ get_or rest 1 0 ∷ get_or rest 2 0 ∷ get_or rest 3 0 ∷ []))
    4
    (cond (is_among of_three (get_or rest 0 0 ∷ get_or rest 1 0 ∷ get_or rest 2 0 ∷ [])) 3
    (cond (pointwise eqb (get_or rest 0 0 ∷ get_or rest 1 0 ∷ []) (63 ∷ 46 ∷ []) && is_digit (get_or rest 2 0)) 1
    (cond (is_among of_two (get_or rest 0 0 ∷ get_or rest 1 0 ∷ [])) 2 (cond (is_among of_one (get_or rest 0 0 ∷ [])) 1 0))))
punct_len_by_bytes [] = refl
punct_len_by_bytes (a ∷ []) = refl
punct_len_by_bytes (a ∷ b ∷ []) = refl
punct_len_by_bytes (a ∷ b ∷ c ∷ []) = refl
punct_len_by_bytes (a ∷ b ∷ c ∷ d ∷ rest) = refl
