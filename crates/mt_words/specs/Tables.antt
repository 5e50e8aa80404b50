-- The commands of a set, and what may follow each.
use Rattle.std.specs.Prelude.{ℕ, List, [], ◌∷◌, Option, codes}
use Rattle.std.specs.List.{find}
use Rattle.std.specs.Option.{option_map}
use Rattle.std.specs.Str.{bytes_eq}
use Rattle.mt_words.specs.declared.table.CommandSet.{CommandSet}
use Rattle.mt_words.specs.declared.table.CommandSet.TheVariants.{Still}
use Rattle.mt_words.specs.declared.table.Usage.{Usage}
use Rattle.mt_words.specs.declared.table.Usage.TheVariants.{Build, Replay, Grow}
use Rattle.mt_words.specs.declared.value.ValueKind.{ValueKind}
use Rattle.mt_words.specs.declared.value.ValueKind.TheVariants.{Flag, Folder, Platform, Truth, Number}

-- what stands beside a name in a table, if the name is there
abbrev pub named : {X : Type 0} → List (List ℕ × X) → List ℕ → Option X
named table name = option_map (λ row. row.1) (find (λ row. bytes_eq name row.0) table)

-- the commands of a set
unfoldable pub commands : CommandSet → List (List ℕ × Usage)
commands Still =
    (codes "bundle", Build)
    ∷ (codes "deps", Build)
    ∷ (codes "check", Build)
    ∷ (codes "replay", Replay)
    ∷ (codes "grow", Grow)
    ∷ []

-- how many workers there may be
abbrev pub workers : List ℕ × ValueKind
workers = (codes "workers", Number 1 64)

-- the options of all commands that build
abbrev pub common : List (List ℕ × ValueKind)
common =
    (codes "root", Folder)
    ∷ (codes "platform", Platform)
    ∷ (codes "dev", Truth)
    ∷ (codes "strip", Flag)
    ∷ workers
    ∷ (codes "cache", Folder)
    ∷ []

-- the options that a command has
unfoldable pub options_of : Usage → List (List ℕ × ValueKind)
options_of Build = common
options_of Replay = (codes "full", Flag) ∷ common
options_of Grow = workers ∷ []

-- the most entries of a command
abbrev pub max_entries : ℕ
max_entries = 16

-- the numbers that `grow` is given: the seed, how many modules, how many edits
unfoldable pub amounts : List ValueKind
amounts = Number 0 18446744073709551615 ∷ Number 1 50000 ∷ Number 0 10000 ∷ []
