-- What was read of a script.
use Rattle.std.proofs.Common.{◌≡◌, ◌++◌, ℕ, List, [], take, drop, Option, Some, refl, ap, sym, ◌∙◌, append_assoc, append-nil}
use Rattle.std.proofs.lemmas.List.{take-append-drop}
use Rattle.mt_io.specs.Told.{Reading, read_on}
use Rattle.mt_script.specs.Steps.{Found, next_of}
use Rattle.mt_script.specs.declared.command.Command.{Command}
use Rattle.mt_script.proofs.CommandTexts.{found_more, found_without}
use Rattle.metro_program.specs.Progress.{Gave}

-- at first, nothing was read
pub gave_none : (reading : Reading) → Gave reading (Some reading) []
gave_none reading = record { left = reading.left; parts = refl; now = ap (λ given. Some (record { given = given; left = reading.left })) (sym (append-nil reading.given)) }

-- a reading goes on
pub gave_on : (before now : Reading) (told : Option Reading) (read : List ℕ) (k : ℕ) → Gave before (Some now) read → told ≡ Some (read_on k now) → Gave before told (read ++ take k now.left)
gave_on before now told read k gave e =
    let same : Some now ≡ Some (record { given = before.given ++ read; left = gave.left }) = gave.now in
    let given : now.given ≡ before.given ++ read = cc in
    let left : now.left ≡ gave.left = cc in
    record {
      left = drop k now.left;
      parts = gave.parts ∙ ap (λ z. read ++ z) (sym left ∙ sym (take-append-drop k now.left)) ∙ sym (append_assoc read (take k now.left) (drop k now.left));
      now = e ∙ ap (λ given. Some (record { given = given; left = drop k now.left })) (ap (λ z. z ++ take k now.left) given ∙ append_assoc before.given read (take k now.left));
    }

-- what is left at the start is what was read and what is left now
pub gave_all : (before now : Reading) (read : List ℕ) → Gave before (Some now) read → before.left ≡ read ++ now.left
gave_all before now read gave = let left : now.left ≡ gave.left = let h = gave.now in cc in gave.parts ∙ ap (λ z. read ++ z) (sym left)

-- a command that is found among what was held and is left was read whole once so many bytes were read
pub found_read : (n k : ℕ) (held rest left : List ℕ) (c : Command) → next_of n (held ++ left) ≡ Found c (rest ++ drop k left) → (more : List ℕ) → next_of n (held ++ (take k left ++ more)) ≡ Found c (rest ++ more)
found_read n k held rest left c h more =
    let split : (held ++ take k left) ++ drop k left ≡ held ++ left = append_assoc held (take k left) (drop k left) ∙ ap (λ z. held ++ z) (take-append-drop k left) in
    ap (next_of n) (sym (append_assoc held (take k left) more))
    ∙ found_more n (held ++ take k left) more c rest (found_without n (held ++ take k left) (drop k left) c rest (ap (next_of n) split ∙ h))
