-- The rest of a text from a place on.
use Rattle.std.proofs.Common.{ℕ, ◌≡◌, ◌<◌, ◌+◌, ◌-◌, List, ◌∷◌, length, take, drop, get_or, arith, sym, ap, ◌∙◌, add-one}
use Rattle.std.proofs.Math.Seq.{drop-cons}
use Rattle.std.proofs.lemmas.List.{length-drop, take_all}

-- as its first byte and those after it
pub drop_front : (rest : List ℕ) (at : ℕ) → at < length rest → drop at rest ≡ get_or rest at 0 ∷ drop (at + 1) rest
drop_front rest at h = drop-cons rest at 0 h ∙ ap (λ n. get_or rest at 0 ∷ drop n rest) (sym (add-one at))

-- the slice from a place on is the rest of the text
pub slice_from : (rest : List ℕ) (at : ℕ) → take (length rest - at) (drop at rest) ≡ drop at rest
slice_from rest at = take_all (length rest - at) (drop at rest) (omega (arith, length-drop at rest))
