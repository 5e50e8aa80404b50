-- What is to be done, and how large a grown input is.
use Rattle.std.specs.Prelude.{ℕ, ◌≤◌, ◌<◌, ◌^◌, List, slice_get, if◌then◌else◌, codes}
use Rattle.std.specs.Option.{option_and_then, unwrap_or}
use Rattle.std.specs.Str.{bytes_eq}
use Rattle.mt_words.specs.Values.{number_of}
use Rattle.mt_request.specs.declared.growth.Action.{Action}
use Rattle.mt_request.specs.declared.growth.Action.TheVariants.{Bundle, Deps, Check, Replay, Grow}
use Rattle.mt_request.specs.declared.growth.Growth.{Growth}

-- the number that the word at a place is; 0 where it is none
abbrev pub amount_of : List (List ℕ) → ℕ → ℕ
amount_of words at = unwrap_or (option_and_then number_of (slice_get words at)) 0

-- the growth that the words after `grow` name: the seed, how many modules, how many edits
abbrev pub growth_of : List (List ℕ) → Growth
growth_of words = record { seed = amount_of words 0; modules = amount_of words 1; edits = amount_of words 2 }

-- what a command with these words asks to do
abbrev pub action_of : List ℕ → List (List ℕ) → Action
action_of command words =
    if bytes_eq command (codes "bundle") then Bundle
    else (if bytes_eq command (codes "deps") then Deps
    else (if bytes_eq command (codes "check") then Check
    else (if bytes_eq command (codes "replay") then Replay else Grow (growth_of words))))

-- a seed below 2^64, 1 to 50,000 modules, and at most 10,000 edits
pub record IsGrowth (growth : Growth) : Type 0 where
  pub seed : growth.seed < 2 ^ 64
  pub some : 1 ≤ growth.modules
  pub most : growth.modules ≤ 50000
  pub few : growth.edits ≤ 10000

-- what is grown is within these bounds
abbrev pub IsBounded : Action → Type 0
IsBounded (Grow growth) = IsGrowth growth
IsBounded action = Unit {0}
