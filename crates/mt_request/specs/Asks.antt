-- What builds are asked for.
use Rattle.std.specs.Prelude.{ℕ, ◌≡◌, ◌≤◌, List, [], ◌∷◌, false, length, codes}
use Rattle.std.specs.List.{All, filter_map, IsDistinct}
use Rattle.std.specs.Str.{bytes_eq}
use Rattle.mt_files.specs.Asks.{Ask}
use Rattle.mt_package.specs.Options.{standard_options}
use Rattle.mt_path.specs.Names.{is_root}
use Rattle.mt_words.specs.Entries.{entry_of}
use Rattle.mt_request.specs.Values.{build_options}

-- entries of a build: 1 to 16, each once, and none the root
pub record AreEntries (entries : List (List ℕ)) : Type 0 where
  pub some : 1 ≤ length entries
  pub most : length entries ≤ 16
  pub distinct : IsDistinct bytes_eq entries
  pub below : All (λ entry. is_root entry ≡ false) entries

-- what is asked for by the positionals and the options of a command that builds
abbrev pub build_ask : List (List ℕ) → List (List ℕ × List ℕ) → Ask
build_ask words options = record { options = build_options options; entries = filter_map entry_of words }

-- what is asked for of an input that is grown: its first module, under the options of a build that is told none
abbrev pub grown_ask : Ask
grown_ask = record { options = standard_options; entries = codes "/m0.js" ∷ [] }
