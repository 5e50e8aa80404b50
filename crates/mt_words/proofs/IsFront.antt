-- The words with which a line begins, and the first bad one.
use Rattle.std.proofs.Common.{◌≡◌, ◌<◌, ◌≤◌, ℕ, List, ◌++◌, length, Result, Ok, Err}
use Rattle.mt_words.specs.Lines.{IsFront}
use Rattle.mt_words.specs.Words.{line_of}
use Rattle.mt_words.specs.declared.table.CommandSet.{CommandSet}
use Rattle.mt_words.specs.declared.words.Words.{Words}
use Rattle.mt_words.proofs.Extends.{line_extends}
use Rattle.mt_words.proofs.Lines.{is_line}
use Rattle.mt_words.proofs.ReadFrom.{line_stays}
use Rattle.mt_words.proofs.Spelled.{line_read}

-- a line begins with the words before the first bad one
pub front_before : (set : CommandSet) (front back : List (List ℕ)) (n : ℕ) → line_of set (front ++ back) ≡ Err n → length front < n → IsFront set front
front_before set front back n h l = let e = line_extends set front back n h l in (e.0, e.1, is_line set (front ++ e.0) e.1 e.2)

not_both : (r : Result Words ℕ) (words : Words) (n : ℕ) → r ≡ Ok words → r ≡ Err n → ⊥
not_both (Ok x) words n h k = cc
not_both (Err x) words n h k = cc

-- and none with that one too
pub no_front : (set : CommandSet) (front back : List (List ℕ)) (n : ℕ) → line_of set (front ++ back) ≡ Err n → n ≤ length front → IsFront set front → ⊥
no_front set front back n h l p = not_both (line_of set (front ++ p.0)) p.1 n (line_read set (front ++ p.0) p.1 p.2) (line_stays set front back p.0 n h l)
