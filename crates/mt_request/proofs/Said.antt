-- What the reader of words gives is what a line says.
use Rattle.std.proofs.Common.{◌≡◌, ◌⊎◌, inl, inr, ℕ, List, Result, Ok, Err, sym}
use Rattle.mt_words.specs.Words.{line_of, told, words_of}
use Rattle.mt_words.specs.declared.table.CommandSet.TheVariants.{Still}
use Rattle.mt_words.specs.declared.words.Words.{Words}
use Rattle.mt_words.specs.declared.words.WordsFault.{WordsFault}
use Rattle.mt_words.specs.declared.words.WordsFault.TheVariants.{NoMemory}
use Rattle.mt_words.proofs.Lines.{is_line}
use Rattle.mt_request.specs.Requests.{AreSaid}

told_ok : (read : Result Words ℕ) (words : Words) → told read ≡ Ok words → read ≡ Ok words
told_ok (Ok read) words h = cc
told_ok (Err n) words h = cc

-- what is read of a line is what it says
pub line_said : (line : List (List ℕ)) (words : Words) → words_of Still line ≡ Ok words → AreSaid words
line_said line words h = record { line = line; says = is_line Still line words (told_ok (line_of Still line) words h) }

-- what a reader of words answers
abbrev pub Reads : Result Words WordsFault → Result Words WordsFault → Type 0
Reads wanted read = (read ≡ Err NoMemory) ⊎ (read ≡ wanted)

-- and where it gives words
pub read_said : (line : List (List ℕ)) (words : Words) → Reads (words_of Still line) (Ok words) → AreSaid words
read_said line words (inl h) = absurd (cc)
read_said line words (inr h) = line_said line words (sym h)
