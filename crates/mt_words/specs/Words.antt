-- What the words of a command line say.
use Rattle.std.specs.Prelude.{ℕ, ◌+◌, List, [], ◌∷◌, min, if◌then◌else◌, Result, Ok, Err}
use Rattle.std.specs.Option.{option_map_or}
use Rattle.mt_words.specs.Fronts.{Front, is_whole, front_after, start}
use Rattle.mt_words.specs.Tables.{commands, named}
use Rattle.mt_words.specs.declared.table.CommandSet.{CommandSet}
use Rattle.mt_words.specs.declared.words.Words.{Words}
use Rattle.mt_words.specs.declared.words.WordsFault.{WordsFault}
use Rattle.mt_words.specs.declared.words.WordsFault.TheVariants.{Bad}

-- the front with all words read, of which the first has this number, or the number of the first bad word
unfoldable pub read_from : ℕ → Front → List (List ℕ) → Result Front ℕ
read_from n front [] = if is_whole front then Ok front else Err n
read_from n front (word ∷ words) = option_map_or (λ next. read_from (n + 1) next words) (front_after front word) (Err n)

-- the words of a command whose front is whole
abbrev pub words_in : List ℕ → Front → Words
words_in command front = record { command = command; positionals = front.positionals; options = front.options }

-- the words of a command whose front this is
abbrev pub words_by : List ℕ → Result Front ℕ → Result Words ℕ
words_by command (Ok front) = Ok (words_in command front)
words_by command (Err n) = Err n

-- what the words of a line say, or the number from 1 of the first bad word
unfoldable pub line_of : CommandSet → List (List ℕ) → Result Words ℕ
line_of set [] = Err 1
line_of set (command ∷ words) = option_map_or (λ usage. words_by command (read_from 2 (start usage) words)) (named (commands set) command) (Err 1)

-- the greatest number of a word that can be told
abbrev pub max_number : ℕ
max_number = 4294967295

-- the same answer, with a number that can be told
abbrev pub told : {X : Type 0} → Result X ℕ → Result X WordsFault
told (Ok x) = Ok x
told (Err n) = Err (Bad (min n max_number))

-- what the words of a line say, or that a word is bad
abbrev pub words_of : CommandSet → List (List ℕ) → Result Words WordsFault
words_of set words = told (line_of set words)
