-- The options of a build that is told none.
use Rattle.std.specs.Prelude.{[], ◌∷◌, true, false, codes}
use Rattle.mt_package.specs.declared.options.Options.{Options}

-- for iOS and for development, with comments; the main file of a package is named by the field `react-native`, `browser` or `main`
abbrev pub standard_options : Options
standard_options = record {
  platform = codes "ios";
  dev = true;
  strip = false;
  main_fields = codes "react-native" ∷ codes "browser" ∷ codes "main" ∷ [];
  source_exts = codes "js" ∷ codes "jsx" ∷ codes "json" ∷ codes "ts" ∷ codes "tsx" ∷ [];
}
