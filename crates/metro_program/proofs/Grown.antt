-- What a grown run comes to.
use Rattle.std.proofs.Common.{inl, inr, ◌≡◌, ◌∙◌, ◌<◌, ℕ, List, [], ◌∷◌, Option, Some, None, Result, Ok, Err, refl, ap, sym, subst, arith}
use Rattle.std.specs.List.{fold}
use Rattle.mt_io.specs.Seen.{Seen}
use Rattle.mt_io.proofs.Seen.{stopped_none, wrote_none}
use Rattle.mt_files.specs.declared.build_fault.BuildFault.{BuildFault}
use Rattle.mt_report.specs.Outcomes.{status_of}
use Rattle.mt_report.specs.declared.outcome.Outcome.{Outcome}
use Rattle.mt_report.specs.declared.outcome.Outcome.TheVariants as outcome
use Rattle.mt_request.specs.declared.growth.Growth.{Growth}
use Rattle.mt_script.specs.declared.command.Command.{Command}
use Rattle.mt_files.specs.Asks.{Ask}
use Rattle.mt_files.specs.Snapshots.{Snapshot}
use Rattle.mt_generator.specs.Growths.{grown}
use Rattle.mt_script.specs.declared.command.Command.TheVariants.{Build}
use Rattle.metro_program.specs.Builds.{asked_step}
use Rattle.metro_program.specs.Commands.{outcome_of}
use Rattle.metro_program.specs.Grow.{edited_plan, end_plan, state_after, state_moved, then_state}
use Rattle.metro_program.specs.Moves.{IsLimited, IsMove}
use Rattle.metro_program.specs.Plans.{Plan}
use Rattle.metro_program.specs.Progress.{IsOwn, Keeps, OnlyWrites}
use Rattle.metro_program.specs.States.{State, opened}
use Rattle.metro_program.proofs.HasDone.{keeps_fault}
use Rattle.metro_program.proofs.Moves.{Changes, led_on, no_memory}

-- ---- commands one after another

-- once the run has ended, no command is carried out
ended_stays : (found : Outcome) (commands : List Command) → fold then_state (Err found) commands ≡ Err found
ended_stays found [] = refl
ended_stays found (command ∷ commands) = ended_stays found commands

moved_end : (m : Result State Outcome) (now last : State) (found : Outcome) (commands : List Command) → IsMove m now (Err found) → IsMove (fold then_state m commands) last (Err found)
moved_end (Ok s) now last found commands h = absurd (cc)
moved_end (Err wanted) now last found commands h = subst (λ m. IsMove m last (Err found)) (sym (ended_stays wanted commands)) h

-- a command that ended the run ends it, whatever commands were left
pub state_ends :
    (s now last : State) (command : Command) (commands : List Command) (found : Outcome) → Changes (state_moved s command) now (Err found)
    → Changes (fold then_state (Ok s) (command ∷ commands)) last (Err found)
state_ends s now last command commands found (inl h) = inl h
state_ends s now last command commands found (inr h) = inr (moved_end (state_moved s command) now last found commands h)

-- a command that led on
pub state_leads :
    (s now : State) (command : Command) (commands : List Command) → Changes (state_moved s command) now (Ok tt)
    → fold then_state (Ok now) commands ≡ fold then_state (Ok s) (command ∷ commands)
state_leads s now command commands (inl h) = absurd (cc)
state_leads s now command commands (inr h) = ap (λ m. fold then_state m commands) (sym (led_on (state_moved s command) now h))

-- ---- the end

-- a run that ended at a command
limited_keeps : (growth : Growth) (m : Result State Outcome) (now : State) (found : Outcome) (out : Seen (List ℕ)) → IsMove m now (Err found) → Keeps (end_plan growth m) found out out
limited_keeps growth (Ok s) now found out h = absurd (cc)
limited_keeps growth (Err wanted) now found out h =
    let same : found ≡ wanted = cc in
    record { planned = λ p. same; written = λ p. wrote_none out; begun = stopped_none out [] }

pub ended_keeps : (growth : Growth) (m : Result State Outcome) (now : State) (found : Outcome) (out : Seen (List ℕ)) → Changes m now (Err found) → Keeps (end_plan growth m) found out out
ended_keeps growth m now found out (inl h) =
    let none : found ≡ outcome.NoMemory = cc in
    subst (λ x. Keeps (end_plan growth m) x out out) (sym none) (keeps_fault (end_plan growth m) outcome.NoMemory out out no_memory (stopped_none out (end_plan growth m).bytes))
ended_keeps growth m now found out (inr h) = limited_keeps growth m now found out h

limited_own : (found : Outcome) → IsLimited found → IsOwn found
limited_own found (inl h) = (λ two. omega (arith, h, two), λ seven. omega (arith, h, seven))
limited_own found (inr h) = (λ two. omega (arith, h, two), λ seven. omega (arith, h, seven))

not_limited : (found : Outcome) (n : ℕ) → IsLimited found → status_of found ≡ n → n < 5 → ⊥
not_limited found n (inl h) e few = omega (arith, h, e, few)
not_limited found n (inr h) e few = omega (arith, h, e, few)

-- it wrote nothing
pub ended_only : (found : Outcome) (out : Seen (List ℕ)) → IsLimited found → OnlyWrites found out out
ended_only found out limited = record {
  read = λ e. not_limited found 3 limited (ap status_of e) (omega arith);
  write = λ e. absurd (not_limited found 4 limited (ap status_of e) (omega arith));
  apart = refl;
  own = limited_own found limited;
}

-- a run ends as its last build did
refused_early : (refusal : Option BuildFault) (s : State) → s.refusal ≡ refusal → status_of (outcome_of s) < 2
refused_early None s e = rw e (omega arith)
refused_early (Some fault) s e = rw e (omega arith)

pub ends_early : (s : State) → status_of (outcome_of s) < 2
ends_early s = refused_early s.refusal s refl

-- ---- the whole

-- a call that ended the run so
abbrev pub ends_so : Outcome → Result (Unit {0}) Outcome
ends_so found = Err found

-- memory ran out, and nothing was written
pub memory_keeps : (plan : Plan) (found : Outcome) (out : Seen (List ℕ)) → ends_so found ≡ ends_so outcome.NoMemory → Keeps plan found out out
memory_keeps plan found out h =
    let none : found ≡ outcome.NoMemory = cc in
    subst (λ x. Keeps plan x out out) (sym none) (keeps_fault plan outcome.NoMemory out out no_memory (stopped_none out plan.bytes))

-- a build led on
pub rebuilt : (s built : State) → Changes (Ok (asked_step s).state) built (Ok tt) → built ≡ (asked_step s).state
rebuilt s built (inl h) = absurd (cc)
rebuilt s built (inr h) = h.1

-- the commands led on
pub led_all : (m : Result State Outcome) (now : State) → Changes m now (Ok tt) → m ≡ Ok now
led_all m now (inl h) = absurd (cc)
led_all m now (inr h) = led_on m now h

-- the plan of a snapshot, once it is built
pub edited_from :
    (ask : Ask) (growth : Growth) (files : Snapshot) (commands : List Command) (start built : State) → start ≡ opened ask files → commands ≡ (grown growth.seed growth.modules growth.edits).commands → built ≡ (asked_step start).state
    → edited_plan ask growth files ≡ end_plan growth (state_after built commands)
edited_from ask growth files commands start built s e b =
    ap (λ cs. end_plan growth (state_after (opened ask files) (Build ∷ cs))) (sym e) ∙ ap (λ x. end_plan growth (state_after (asked_step x).state commands)) (sym s) ∙ ap (λ x. end_plan growth (state_after x commands)) (sym b)
