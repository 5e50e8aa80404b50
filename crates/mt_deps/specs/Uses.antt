-- The ranges of a text that are replaced, and the names that it exports.
use Rattle.std.specs.Prelude.{ℕ, ◌≤◌, List, [], ◌∷◌, IsCharBoundary, IsUtf8}
use Rattle.mt_tokens.specs.Deps.{Edit}
use Rattle.mt_tokens.specs.declared.dep.Mark.{Mark}

-- a range begins and ends between characters, and what takes its place is UTF-8
abbrev pub IsUseCut : List ℕ → Edit → Type 0
IsUseCut text e = IsCharBoundary text e.start × IsCharBoundary text e.end × IsUtf8 e.text

-- both names of a mark are UTF-8
abbrev pub IsMarkText : Mark → Type 0
IsMarkText m = IsUtf8 m.name × IsUtf8 m.local

-- the ranges ascend from a place on, and none overlaps the next
abbrev pub AreApart : ℕ → List Edit → Type 0
AreApart at [] = Unit {0}
AreApart at (e ∷ es) = (at ≤ e.start) × (e.start ≤ e.end) × AreApart e.end es
