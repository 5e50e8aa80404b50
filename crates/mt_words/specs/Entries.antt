-- The entry that a word names.
use Rattle.std.specs.Prelude.{ℕ, List, [], ◌∷◌, ◌==◌, if◌then◌else◌, Option, Some, None}
use Rattle.std.specs.Option.{option_and_then}
use Rattle.std.specs.Result.{result_ok}
use Rattle.mt_path.specs.Names.{is_root}
use Rattle.mt_path.specs.Parse.{parsed}
use Rattle.mt_words.specs.Values.{is_odd}

-- a word with `/` before it, where it has none
abbrev pub rooted : List ℕ → List ℕ
rooted [] = 47 ∷ []
rooted (b ∷ bs) = if b == 47 then b ∷ bs else 47 ∷ b ∷ bs

-- the path of the entry that a word names: one other than the root
unfoldable pub entry_of : List ℕ → Option (List ℕ)
entry_of word = if is_odd word then None else option_and_then (λ path. if is_root path then None else Some path) (result_ok (parsed (rooted word)))
