-- Worked rows of command lines, and what holds of each line.
use Rattle.std.proofs.Common.{◌≡◌, ◌∙◌, ℕ, List, [], ◌∷◌, map, true, false, Some, None, Ok, Err, refl, ap, codes}
use Rattle.std.specs.List.{filter_map}
use Rattle.std.specs.Str.{bytes_eq}
use Rattle.std.proofs.lemmas.List.Elements.{recursion_from_All}
use Rattle.mt_package.specs.Options.{standard_options}
use Rattle.mt_words.specs.Entries.{entry_of, rooted}
use Rattle.mt_words.specs.Fronts.{front_after, is_whole, may_follow, new_entry, new_kind, with_positional, with_spelled, with_word}
use Rattle.mt_words.specs.Tables.{amounts, commands, options_of}
use Rattle.mt_words.specs.Values.{is_decimal, is_platform, is_value, number_of}
use Rattle.mt_words.specs.Words.{line_of, read_from, words_of}
use Rattle.mt_words.specs.declared.table.CommandSet.TheVariants.{Still}
use Rattle.mt_words.specs.declared.words.Words.{Words}
use Rattle.mt_words.specs.declared.words.WordsFault.TheVariants.{Bad}
use Rattle.mt_request.specs.Asks.{grown_ask}
use Rattle.mt_request.specs.Requests.{asked, ask_of, request_in, request_of}
use Rattle.mt_request.specs.declared.fault.WordFault.TheVariants.{BadWord}
use Rattle.mt_request.specs.declared.growth.Action.TheVariants.{Bundle, Deps, Replay, Grow}
use Rattle.mt_request.proofs.Entries.{all_rooted, names_said}
use Rattle.mt_request.proofs.Said.{line_said}

-- a line that is read asks for what it says
pub accepted_as : (line : List (List ℕ)) (words : Words) → words_of Still line ≡ Ok words → request_of line ≡ Ok (request_in words)
accepted_as line words h = ap asked h

-- a line that is refused has the same number
pub refused_as : (line : List (List ℕ)) (at : ℕ) → words_of Still line ≡ Err (Bad at) → request_of line ≡ Err (BadWord at)
refused_as line at h = ap asked h

-- the entries of a command that builds
entries_in : (words : Words) → bytes_eq words.command (codes "grow") ≡ false → (ask_of words).entries ≡ filter_map entry_of words.positionals
entries_in words h = rw h refl

-- no entry is lost
pub entries_rooted : (line : List (List ℕ)) (words : Words) → words_of Still line ≡ Ok words → bytes_eq words.command (codes "grow") ≡ false → (request_in words).ask.entries ≡ map rooted words.positionals
unfolding request_in
entries_rooted line words h other =
    let names = names_said words (line_said line words h) other in
    entries_in words other ∙ all_rooted words.positionals (recursion_from_All _ words.positionals names.paths)

-- ---- rows

pub no_word : request_of [] ≡ Err (BadWord 1)
unfolding amounts commands options_of line_of read_from front_after with_word with_spelled with_positional new_kind may_follow new_entry entry_of is_whole is_value is_decimal number_of is_platform request_in
no_word = refl

pub no_entry : request_of (codes "bundle" ∷ []) ≡ Err (BadWord 2)
unfolding amounts commands options_of line_of read_from front_after with_word with_spelled with_positional new_kind may_follow new_entry entry_of is_whole is_value is_decimal number_of is_platform request_in
no_entry = refl

pub option_twice : request_of (codes "bundle" ∷ codes "a.js" ∷ codes "--workers=9" ∷ codes "--workers" ∷ codes "3" ∷ []) ≡ Err (BadWord 4)
unfolding amounts commands options_of line_of read_from front_after with_word with_spelled with_positional new_kind may_follow new_entry entry_of is_whole is_value is_decimal number_of is_platform request_in
option_twice = refl

pub plain : request_of (codes "deps" ∷ codes "a.js" ∷ []) ≡ Ok (record { action = Deps; ask = record { options = standard_options; entries = codes "/a.js" ∷ [] }; full = false; workers = 4; root = None; cache = None })
unfolding amounts commands options_of line_of read_from front_after with_word with_spelled with_positional new_kind may_follow new_entry entry_of is_whole is_value is_decimal number_of is_platform request_in
plain = refl

pub two_entries : request_of (codes "replay" ∷ codes "--full" ∷ codes "a.js" ∷ codes "/b.js" ∷ []) ≡ Ok (record { action = Replay; ask = record { options = standard_options; entries = codes "/a.js" ∷ codes "/b.js" ∷ [] }; full = true; workers = 4; root = None; cache = None })
unfolding amounts commands options_of line_of read_from front_after with_word with_spelled with_positional new_kind may_follow new_entry entry_of is_whole is_value is_decimal number_of is_platform request_in
two_entries = refl

pub options : request_of (codes "bundle" ∷ codes "a.js" ∷ codes "--platform" ∷ codes "web" ∷ codes "--dev=false" ∷ codes "--strip" ∷ codes "--workers=9" ∷ codes "--root" ∷ codes "app" ∷ codes "--cache=store" ∷ []) ≡ Ok (record { action = Bundle; ask = record { options = record standard_options { platform = codes "web"; dev = false; strip = true }; entries = codes "/a.js" ∷ [] }; full = false; workers = 9; root = Some (codes "app"); cache = Some (codes "store") })
unfolding amounts commands options_of line_of read_from front_after with_word with_spelled with_positional new_kind may_follow new_entry entry_of is_whole is_value is_decimal number_of is_platform request_in
options = refl

pub grown : request_of (codes "grow" ∷ codes "1" ∷ codes "5000" ∷ codes "50" ∷ []) ≡ Ok (record { action = Grow (record { seed = 1; modules = 5000; edits = 50 }); ask = grown_ask; full = false; workers = 4; root = None; cache = None })
unfolding amounts commands options_of line_of read_from front_after with_word with_spelled with_positional new_kind may_follow new_entry entry_of is_whole is_value is_decimal number_of is_platform request_in
grown = refl
