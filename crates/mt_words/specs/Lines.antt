-- What a command line is, by the words that spell its parts.
use Rattle.std.specs.Prelude.{ℕ, ◌≡◌, ◌≤◌, true, false, List, [], ◌∷◌, ◌++◌, length, map, is_some, Some}
use Rattle.std.specs.List.{All, AllZip, flat_map, IsDistinct}
use Rattle.std.specs.Str.{bytes_eq}
use Rattle.mt_words.specs.Entries.{entry_of, rooted}
use Rattle.mt_words.specs.Fronts.{names}
use Rattle.mt_words.specs.Tables.{amounts, commands, max_entries, named, options_of}
use Rattle.mt_words.specs.Values.{is_odd, is_value}
use Rattle.mt_words.specs.declared.table.CommandSet.{CommandSet}
use Rattle.mt_words.specs.declared.table.Usage.{Usage}
use Rattle.mt_words.specs.declared.table.Usage.TheVariants.{Grow}
use Rattle.mt_words.specs.declared.value.ValueKind.{ValueKind}
use Rattle.mt_words.specs.declared.value.ValueKind.TheVariants.{Flag}
use Rattle.mt_words.specs.declared.words.Words.{Words}

-- a part of a line: a positional; a flag; an option with its value in the next word, or in the same
pub data Part : Type 0 where
  Plain : List ℕ → Part
  Alone : List ℕ → Part
  Apart : List ℕ → List ℕ → Part
  Joined : List ℕ → List ℕ → Part

-- the word of an option's name
abbrev pub dashed : List ℕ → List ℕ
dashed name = 45 ∷ 45 ∷ name

-- the words that spell a part
abbrev pub spelling : Part → List (List ℕ)
spelling (Plain word) = word ∷ []
spelling (Alone name) = dashed name ∷ []
spelling (Apart name value) = dashed name ∷ value ∷ []
spelling (Joined name value) = dashed (name ++ 61 ∷ value) ∷ []

-- the positional that a part is
abbrev pub positional_in : Part → List (List ℕ)
positional_in (Plain word) = word ∷ []
positional_in part = []

-- the option that a part is; a flag has the empty value
abbrev pub option_in : Part → List (List ℕ × List ℕ)
option_in (Plain word) = []
option_in (Alone name) = (name, []) ∷ []
option_in (Apart name value) = (name, value) ∷ []
option_in (Joined name value) = (name, value) ∷ []

-- an option of the command, with a value in form and within bounds
pub record IsOption (usage : Usage) (name value : List ℕ) : Type 0 where
  pub kind : ValueKind
  pub known : named (options_of usage) name ≡ Some kind
  pub fits : is_value kind value ≡ true

-- a part that a line of the command may have
abbrev pub IsPart : Usage → Part → Type 0
IsPart usage (Plain word) = is_odd word ≡ false
IsPart usage (Alone name) = named (options_of usage) name ≡ Some Flag
IsPart usage (Apart name value) = IsOption usage name value
IsPart usage (Joined name value) = IsOption usage name value

-- one to 16 words that name entries, none twice
pub record AreEntries (words : List (List ℕ)) : Type 0 where
  pub some : 1 ≤ length words
  pub few : length words ≤ max_entries
  pub paths : All (λ word. is_some (entry_of word) ≡ true) words
  pub once : IsDistinct bytes_eq (map rooted words)

-- the positionals of a command
abbrev pub ArePositionals : Usage → List (List ℕ) → Type 0
ArePositionals Grow words = AllZip (λ kind word. is_value kind word ≡ true) amounts words
ArePositionals usage words = AreEntries words

-- a line of a set, and what it says
pub record IsLine (set : CommandSet) (line : List (List ℕ)) (words : Words) : Type 0 where
  pub usage : Usage
  pub command : named (commands set) words.command ≡ Some usage
  pub parts : List Part
  pub spelled : line ≡ words.command ∷ flat_map spelling parts
  pub each : All (IsPart usage) parts
  pub positionals : words.positionals ≡ flat_map positional_in parts
  pub fit : ArePositionals usage words.positionals
  pub options : words.options ≡ flat_map option_in parts
  pub once : IsDistinct bytes_eq (names words.options)

-- words with which a line begins
abbrev pub IsFront : CommandSet → List (List ℕ) → Type 0
IsFront set front = (more : List (List ℕ)) × (words : Words) × IsLine set (front ++ more) words
