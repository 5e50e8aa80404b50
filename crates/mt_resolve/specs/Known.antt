-- What is known of names.
use Rattle.std.specs.Prelude.{◌≡◌, ℕ, List, IfSome, Option, option_and_then}
use Rattle.std.specs.Ordering.{nat_cmp}
use Rattle.std.specs.Cmp.Lexicographic.{slice_cmp}
use Rattle.std.specs.FinMap.{FinMap, get}
use Rattle.mt_package.specs.declared.options.Options.{Options}
use Rattle.mt_files.specs.Snapshots.{Snapshot}
use Rattle.mt_files.specs.Resolve.{resolved_in}
use Rattle.mt_files.specs.declared.target.Target.{Target}

-- where names lead, by folder and name
abbrev pub Known : Type 0
Known = FinMap (slice_cmp nat_cmp) (FinMap (slice_cmp nat_cmp) Target)

-- what is known of a name from a folder
abbrev pub known_at : Known → List ℕ → List ℕ → Option Target
known_at known folder name = option_and_then (λ names. get names name) (get known folder)

-- each name leads from the folder where it says
abbrev pub AreKnownFrom : Options → Snapshot → List ℕ → FinMap (slice_cmp nat_cmp) Target → Type 0
AreKnownFrom options files folder names = (name : List ℕ) → IfSome (get names name) (λ target. resolved_in options files folder name ≡ target)

abbrev pub AreKnown : Options → Snapshot → Known → Type 0
AreKnown options files known = (folder : List ℕ) → IfSome (get known folder) (AreKnownFrom options files folder)

-- a name leads there from this folder too
abbrev pub LeadsTo : Options → Snapshot → List ℕ → Target → List ℕ → Type 0
LeadsTo options files name target folder = resolved_in options files folder name ≡ target
