-- The head that a line is, by its text.
use Rattle.std.proofs.Common.{◌≡◌, true, refl, List, ℕ, Some, None}
use Rattle.std.specs.Str.{is_utf8, IsUtf8}
use Rattle.std.proofs.lemmas.Bool.{cond-true, cond-false, false_from_ne_true}
use Rattle.std.proofs.lemmas.Str.{IsUtf8-from_is_utf8}
use Rattle.mt_script.specs.Heads.{around_last_blank, file_path, head_of, put_of, put_head, size_of, words_head}

-- a line in UTF-8
pub utf8_head : (line : List ℕ) → is_utf8 line ≡ true → head_of line ≡ words_head line
unfolding head_of
utf8_head line h = cond-true (is_utf8 line) (words_head line) None h

-- a line that isn't
pub other_head : (line : List ℕ) → (IsUtf8 line → ⊥) → head_of line ≡ None
unfolding head_of
other_head line h = cond-false (is_utf8 line) (words_head line) None (false_from_ne_true (is_utf8 line) (λ e. h (IsUtf8-from_is_utf8 line e)))

-- a `put` without a blank
pub put_none : (text : List ℕ) → around_last_blank text ≡ None → put_head text ≡ None
unfolding put_head
put_none text h = rw h refl

-- a `put` with one
pub put_parts : (text path size : List ℕ) → around_last_blank text ≡ Some (path, size) → put_head text ≡ put_of (size_of size) (file_path path)
unfolding put_head
put_parts text path size h = rw h refl
