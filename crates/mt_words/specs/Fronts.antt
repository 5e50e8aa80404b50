-- The front of a line: what the words say that were read so far.
use Rattle.std.specs.Prelude.{ℕ, Bool, true, false, ◌&&◌, ◌==◌, List, [], ◌∷◌, ◌++◌, length, map, drop, nat_eq, nat_le, nat_lt, slice_get, if◌then◌else◌, Option, Some, None, is_some, codes}
use Rattle.std.specs.List.{before_first, after_first, list_any, position_or_len, starts_with}
use Rattle.std.specs.Option.{is_none, option_and_then, option_map, option_map_or}
use Rattle.std.specs.Str.{bytes_eq}
use Rattle.mt_words.specs.Entries.{entry_of, rooted}
use Rattle.mt_words.specs.Tables.{amounts, max_entries, named, options_of}
use Rattle.mt_words.specs.Values.{is_odd, is_value}
use Rattle.mt_words.specs.declared.table.Usage.{Usage}
use Rattle.mt_words.specs.declared.table.Usage.TheVariants.{Grow}
use Rattle.mt_words.specs.declared.value.ValueKind.{ValueKind}
use Rattle.mt_words.specs.declared.value.ValueKind.TheVariants.{Flag}

-- what the words after the command say
pub record Front : Type 0 where
  pub usage : Usage
  pub positionals : List (List ℕ)
  pub options : List (List ℕ × List ℕ)
  -- an option whose value is the next word
  pub waiting : Option (List ℕ × ValueKind)

-- no word after the command
abbrev pub start : Usage → Front
start usage = record { usage = usage; positionals = []; options = []; waiting = None }

-- one of the texts
abbrev pub is_among : List (List ℕ) → List ℕ → Bool
is_among texts text = list_any (bytes_eq text) texts

-- the names of options
abbrev pub names : List (List ℕ × List ℕ) → List (List ℕ)
names options = map (λ o. o.0) options

-- whether the positionals of a command are entries
abbrev pub is_build : Usage → Bool
is_build Grow = false
is_build usage = true

-- the paths of the entries that the words name
abbrev pub entries : Usage → List (List ℕ) → List (List ℕ)
entries Grow words = []
entries usage words = map rooted words

-- the path of the entry that a word names, if there may be one more and no word before names it
unfoldable pub new_entry : List (List ℕ) → List ℕ → Option (List ℕ)
new_entry words word =
    if nat_lt (length words) max_entries then option_and_then (λ path. if is_among (map rooted words) path then None else Some path) (entry_of word) else None

-- whether a word may be the next positional
unfoldable pub may_follow : Usage → List (List ℕ) → List ℕ → Bool
may_follow Grow words word = option_map_or (λ kind. is_value kind word) (slice_get amounts (length words)) false
may_follow usage words word = is_some (new_entry words word)

-- with one more positional
unfoldable pub with_positional : Front → List ℕ → Option Front
with_positional front word =
    if may_follow front.usage front.positionals word then Some (record front { positionals = front.positionals ++ word ∷ [] }) else None

-- with one more option
abbrev pub with_option : Front → List ℕ → List ℕ → Front
with_option front name value = record { usage = front.usage; positionals = front.positionals; options = front.options ++ (name, value) ∷ []; waiting = None }

-- with the value of an option of this kind
abbrev pub with_value : Front → List ℕ → ValueKind → List ℕ → Option Front
with_value front name kind value = if is_value kind value then Some (with_option front name value) else None

-- with an option without a value: a flag, or one whose value is the next word
abbrev pub with_name : Front → List ℕ → ValueKind → Front
with_name front name Flag = with_option front name []
with_name front name kind = record front { waiting = Some (name, kind) }

-- whether a byte stands between a name and its value
abbrev pub is_mark : ℕ → Bool
is_mark b = b == 61

-- whether a text has that byte
abbrev pub has_mark : List ℕ → Bool
has_mark text = nat_lt (position_or_len is_mark text) (length text)

-- the kind of an option that the command has and that was not given before
unfoldable pub new_kind : Front → List ℕ → Option ValueKind
new_kind front name = if is_among (names front.options) name then None else named (options_of front.usage) name

-- with the option that `--NAME=VALUE` spells
abbrev pub with_joined : Front → List ℕ → List ℕ → Option Front
with_joined front name value = option_and_then (λ kind. with_value front name kind value) (new_kind front name)

-- with the option that `--NAME` spells
abbrev pub with_bare : Front → List ℕ → Option Front
with_bare front name = option_map (λ kind. with_name front name kind) (new_kind front name)

-- with the option that stands after `--`
unfoldable pub with_spelled : Front → List ℕ → Option Front
with_spelled front text = if has_mark text then with_joined front (before_first is_mark text) (after_first is_mark text) else with_bare front text

-- with a word that is no value
unfoldable pub with_word : Front → List ℕ → Option Front
with_word front word =
    if starts_with nat_eq word (codes "--") then with_spelled front (drop 2 word)
    else (if is_odd word then None else with_positional front word)

-- with a word: the value that the option before it waits for, or one that is no value
abbrev pub with_next : Option (List ℕ × ValueKind) → Front → List ℕ → Option Front
with_next None front word = with_word front word
with_next (Some option) front word = with_value front option.0 option.1 word

-- the front with one more word, unless the word is bad
unfoldable pub front_after : Front → List ℕ → Option Front
front_after front word = with_next front.waiting front word

-- as many positionals as the command has at least
abbrev pub least_positionals : Usage → ℕ
least_positionals Grow = 3
least_positionals usage = 1

-- whether nothing is missing
unfoldable pub is_whole : Front → Bool
is_whole front = is_none front.waiting && nat_le (least_positionals front.usage) (length front.positionals)
