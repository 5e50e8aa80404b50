-- What the options of a line say.
use Rattle.std.specs.Prelude.{ℕ, Bool, true, List, is_some, codes}
use Rattle.std.specs.Option.{option_and_then, option_map_or, unwrap_or}
use Rattle.std.specs.Str.{bytes_eq}
use Rattle.mt_package.specs.Options.{standard_options}
use Rattle.mt_package.specs.declared.options.Options.{Options}
use Rattle.mt_words.specs.Tables.{named}
use Rattle.mt_words.specs.Values.{number_of}

-- the platform: `ios` where none is named
abbrev pub platform_of : List (List ℕ × List ℕ) → List ℕ
platform_of options = unwrap_or (named options (codes "platform")) (codes "ios")

-- for development: where `--dev` says so, or isn't given
abbrev pub dev_of : List (List ℕ × List ℕ) → Bool
dev_of options = option_map_or (λ dev. bytes_eq dev (codes "true")) (named options (codes "dev")) true

-- without comments: where `--strip` is given
abbrev pub strip_of : List (List ℕ × List ℕ) → Bool
strip_of options = is_some (named options (codes "strip"))

-- how bundles are made; the main fields and the extensions are those of every build
abbrev pub build_options : List (List ℕ × List ℕ) → Options
build_options options = record standard_options { platform = platform_of options; dev = dev_of options; strip = strip_of options }

-- the number of workers: 4 where none is given
abbrev pub workers_of : List (List ℕ × List ℕ) → ℕ
workers_of options = unwrap_or (option_and_then number_of (named options (codes "workers"))) 4
