-- The numbers of names, by kind.
use Rattle.std.specs.Prelude.{ℕ, ◌≡◌, List, Option, Some, None, unwrap_or}
use Rattle.std.specs.Ordering.{nat_cmp}
use Rattle.std.specs.Cmp.Lexicographic.{slice_cmp}
use Rattle.std.specs.FinMap.{FinMap, get}
use Rattle.mt_tokens.specs.Deps.{Dependency, number_of, with_first}
use Rattle.mt_tokens.specs.declared.source.DepKind.{DepKind}
use Rattle.mt_tokens.specs.declared.source.DepKind.TheVariants.{Import, ImportCall, Require}
use Rattle.mt_deps.specs.declared.numbers.Row.{Row}

-- what a row says of a kind
abbrev pub at_kind : Row → DepKind → Option ℕ
at_kind r Require = r.require
at_kind r Import = r.import
at_kind r ImportCall = r.import_call

abbrev pub with_kind : Row → DepKind → ℕ → Row
with_kind r Require n = record { require = Some n; import = r.import; import_call = r.import_call }
with_kind r Import n = record { require = r.require; import = Some n; import_call = r.import_call }
with_kind r ImportCall n = record { require = r.require; import = r.import; import_call = Some n }

-- no number
abbrev pub no_row : Row
no_row = record { require = None; import = None; import_call = None }

-- the numbers of a name among the dependencies
abbrev pub row_of : List Dependency → List ℕ → Row
row_of ds name = record { require = number_of name Require ds; import = number_of name Import ds; import_call = number_of name ImportCall ds }

-- a table of the numbers that names have among these dependencies, and of nothing else
abbrev pub Numbers : FinMap (slice_cmp nat_cmp) Row → List Dependency → Type 0
Numbers numbers ds = (name : List ℕ) → unwrap_or (get numbers name) no_row ≡ row_of ds name

-- the dependencies with one more, if there is one
abbrev pub added : List Dependency → Option Dependency → List Dependency
added ds None = ds
added ds (Some d) = with_first ds d
