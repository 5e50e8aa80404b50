-- What is lent to a run.
use Rattle.std.specs.Prelude.{ℕ, List}
use Rattle.mt_io.specs.Causes.{Rose}
use Rattle.mt_io.specs.Files.{Files}
use Rattle.mt_io.specs.Seen.{Seen}
use Rattle.mt_io.specs.Told.{Reading}

-- what is lent to a run, as contracts see it
pub record Lent : Type 0 where
  pub folder : Seen Files
  pub script : Seen Reading
  pub out : Seen (List ℕ)

-- what is lent, by what contracts see of it
abbrev pub lent : Seen Files → Seen Reading → Seen (List ℕ) → Lent
lent folder script out = record { folder = folder; script = script; out = out }

-- the count of faults of an object didn't rise
abbrev pub Stood : {T : Type 0} → Seen T → Seen T → Type 0
Stood before after = Rose before.faults after.faults → ⊥
