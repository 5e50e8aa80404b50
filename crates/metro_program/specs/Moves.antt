-- What calls on a state did.
use Rattle.std.specs.Prelude.{◌≡◌, ◌⊎◌, Result, Ok, Err}
use Rattle.mt_report.specs.Outcomes.{status_of}
use Rattle.mt_report.specs.declared.outcome.Outcome.{Outcome}
use Rattle.metro_program.specs.States.{State}

-- a call led where it was to lead, or ended the run so
abbrev pub IsMove : Result State Outcome → State → Result (Unit {0}) Outcome → Type 0
IsMove (Ok s) now result = (result ≡ Ok tt) × (now ≡ s)
IsMove (Err outcome) now result = result ≡ Err outcome

-- memory ran out, or a limit was met
abbrev pub IsLimited : Outcome → Type 0
IsLimited outcome = (status_of outcome ≡ 5) ⊎ (status_of outcome ≡ 6)
