-- What a build is asked for.
use Rattle.std.specs.Prelude.{ℕ, List}
use Rattle.mt_package.specs.declared.options.Options.{Options}

-- the options of a build, and the paths of its entries
pub record Ask : Type 0 where
  pub options : Options
  pub entries : List (List ℕ)
