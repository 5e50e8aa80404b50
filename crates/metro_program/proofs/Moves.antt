-- What a call that led on, or ended a run, says of the command that it carried out.
use Rattle.std.proofs.Common.{inl, inr, ◌⊎◌, ◌≡◌, ℕ, Bool, List, [], ◌∷◌, Result, Ok, Err, refl, ap, sym, subst, arith}
use Rattle.std.specs.List.{fold}
use Rattle.std.specs.Prelude.{IfErr, OnOk}
use Rattle.mt_io.specs.Seen.{Seen}
use Rattle.mt_io.proofs.Seen.{stopped_none, wrote_none}
use Rattle.mt_files.specs.declared.change.Change.{Change}
use Rattle.mt_report.specs.Outcomes.{IsPlanned}
use Rattle.mt_report.specs.declared.outcome.Outcome.{Outcome}
use Rattle.mt_report.specs.declared.outcome.Outcome.TheVariants.{NoMemory, ReadFailed, WriteFailed}
use Rattle.metro_program.specs.States.{State}
use Rattle.metro_program.specs.Commands.{changed, in_silence, then_changed}
use Rattle.metro_program.specs.Moves.{IsMove}
use Rattle.metro_program.specs.Progress.{Halted, Went}

-- a call led where it was to lead or ended the run so, or memory ran out
abbrev pub Changes : Result State Outcome → State → Result (Unit {0}) Outcome → Type 0
Changes m now r = (r ≡ Err NoMemory) ⊎ IsMove m now r

-- the same of a call that reads the folder
abbrev pub Rescans : Result State Outcome → State → Result (Unit {0}) Outcome → Type 0
Rescans m now r = (r ≡ Err NoMemory) ⊎ (r ≡ Err ReadFailed) ⊎ IsMove m now r

-- ---- changes one after another

-- once the run has ended, no change is made
ended_stays : (outcome : Outcome) (changes : List Change) → fold then_changed (Err outcome) changes ≡ Err outcome
ended_stays outcome [] = refl
ended_stays outcome (change ∷ changes) = ended_stays outcome changes

moved_end : (m : Result State Outcome) (now last : State) (outcome : Outcome) (changes : List Change) → IsMove m now (Err outcome) → IsMove (fold then_changed m changes) last (Err outcome)
moved_end (Ok s) now last outcome changes h = absurd (let k = h.0 in cc)
moved_end (Err wanted) now last outcome changes h = subst (λ m. IsMove m last (Err outcome)) (sym (ended_stays wanted changes)) h

-- a change that ended the run ends it, whatever changes were left
pub change_ends :
    (s now last : State) (change : Change) (changes : List Change) (outcome : Outcome) → Changes (changed s change) now (Err outcome)
    → Changes (fold then_changed (Ok s) (change ∷ changes)) last (Err outcome)
change_ends s now last change changes outcome (inl h) = inl h
change_ends s now last change changes outcome (inr h) = inr (moved_end (changed s change) now last outcome changes h)

pub led_on : (m : Result State Outcome) (now : State) → IsMove m now (Ok tt) → m ≡ Ok now
led_on (Ok s) now h = ap Ok (sym h.1)
led_on (Err wanted) now h = absurd (cc)

-- a change that led on
pub change_leads :
    (s now : State) (change : Change) (changes : List Change) → Changes (changed s change) now (Ok tt)
    → fold then_changed (Ok now) changes ≡ fold then_changed (Ok s) (change ∷ changes)
change_leads s now change changes (inl h) = absurd (cc)
change_leads s now change changes (inr h) = ap (λ m. fold then_changed m changes) (sym (led_on (changed s change) now h))

-- ---- commands that write nothing

pub no_memory : IsPlanned NoMemory → ⊥
no_memory (inl h) = absurd (omega (arith, h))
no_memory (inr h) = absurd (omega (arith, h))

pub no_read : IsPlanned ReadFailed → ⊥
no_read (inl h) = absurd (omega (arith, h))
no_read (inr h) = absurd (omega (arith, h))

pub no_write : IsPlanned WriteFailed → ⊥
no_write (inl h) = absurd (omega (arith, h))
no_write (inr h) = absurd (omega (arith, h))

module _ (full : Bool) (m : Result State Outcome) (before now : State) (a : Seen (List ℕ)) where
  went_by : (n : Result State Outcome) → IsMove n now (Ok tt) → Went full (in_silence n) before now a a
  went_by (Ok s) h = (h.1, wrote_none a)
  went_by (Err wanted) h = absurd (let k : Ok tt ≡ Err wanted = h in cc)

  halted_by : (n : Result State Outcome) (outcome : Outcome) → IsMove n now (Err outcome) → Halted full (in_silence n) before outcome a a
  halted_by (Ok s) outcome h = absurd (let k = h.0 in cc)
  halted_by (Err wanted) outcome h = (λ planned. let k : outcome ≡ wanted = cc in k, wrote_none a)

  fault_by : (n : Result State Outcome) (outcome : Outcome) → (IsPlanned outcome → ⊥) → Halted full (in_silence n) before outcome a a
  fault_by (Ok s) outcome h = (h, stopped_none a [])
  fault_by (Err wanted) outcome h = (λ planned. absurd (h planned), wrote_none a)

  -- a command that writes nothing led on
  pub went_silent : (r : Result (Unit {0}) Outcome) → Changes m now r → OnOk r (Went full (in_silence m) before now a a)
  went_silent (Ok done) (inl h) = absurd (cc)
  went_silent (Ok done) (inr h) = went_by m h
  went_silent (Err outcome) h = tt

  -- a command that writes nothing ended the run
  pub halted_silent : (r : Result (Unit {0}) Outcome) → Changes m now r → IfErr r (λ outcome. Halted full (in_silence m) before outcome a a)
  halted_silent (Ok done) h = tt
  halted_silent (Err outcome) (inl h) = let k : outcome ≡ NoMemory = cc in fault_by m outcome (subst (λ e. IsPlanned e → ⊥) (sym k) no_memory)
  halted_silent (Err outcome) (inr h) = halted_by m outcome h

  -- a rescan led on
  pub went_rescan : (r : Result (Unit {0}) Outcome) → Rescans m now r → OnOk r (Went full (in_silence m) before now a a)
  went_rescan (Ok done) (inl h) = absurd (cc)
  went_rescan (Ok done) (inr (inl h)) = absurd (cc)
  went_rescan (Ok done) (inr (inr h)) = went_by m h
  went_rescan (Err outcome) h = tt

  -- a rescan ended the run
  pub halted_rescan : (r : Result (Unit {0}) Outcome) → Rescans m now r → IfErr r (λ outcome. Halted full (in_silence m) before outcome a a)
  halted_rescan (Ok done) h = tt
  halted_rescan (Err outcome) (inl h) = let k : outcome ≡ NoMemory = cc in fault_by m outcome (subst (λ e. IsPlanned e → ⊥) (sym k) no_memory)
  halted_rescan (Err outcome) (inr (inl h)) = let k : outcome ≡ ReadFailed = cc in fault_by m outcome (subst (λ e. IsPlanned e → ⊥) (sym k) no_read)
  halted_rescan (Err outcome) (inr (inr h)) = halted_by m outcome h
