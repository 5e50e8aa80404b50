-- Texts of which ranges are replaced.
use Rattle.std.specs.Prelude.{ℕ, ◌-◌, List, [], ◌∷◌, ◌++◌, drop, take}
use Rattle.mt_tokens.specs.Deps.{Edit}

-- the text from a place on, with its text in the place of each range
abbrev pub replaced : List ℕ → ℕ → List Edit → List ℕ
replaced text at [] = drop at text
replaced text at (e ∷ es) = take (e.start - at) (drop at text) ++ e.text ++ replaced text e.end es
