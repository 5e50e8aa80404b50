-- A tree that a call leaves as it was.
use Rattle.std.proofs.Common.{◌≡◌, ℕ, List, Option, Some, ◌∙◌, refl}
use Rattle.std.specs.Prelude.{Result, Ok, Err, OnErr}
use Rattle.mt_io.specs.Files.{Files, KeepsOthers}

pub keeps_all : (path : List ℕ) (old now : Option Files) → now ≡ old → (files : Files) → old ≡ Some files → KeepsOthers files path now
keeps_all path old now same files told = record { after = files; told = same ∙ told; others = λ other apart. refl }

pub on_err : {T E P : Type 0} (r : Result T E) → P → OnErr r P
on_err (Ok x) h = tt
on_err (Err e) h = h
