-- The lines of a replay are those of its steps, one after another.
use Rattle.std.proofs.Common.{◌≡◌, ◌∙◌, ◌++◌, ℕ, Bool, List, [], ◌∷◌, Option, Some, None, Ok, refl, ap, sym, append_assoc}
use Rattle.std.specs.List.{fold}
use Rattle.std.specs.Option.{option_map_or}
use Rattle.std.proofs.lemmas.List.Sums.{fold-append}
use Rattle.mt_io.specs.Files.{Files}
use Rattle.mt_files.specs.Fresh.{all_faults}
use Rattle.mt_files.specs.declared.build_fault.BuildFault.{BuildFault}
use Rattle.mt_revision.specs.declared.revision.Revision.{Revision}
use Rattle.mt_script.specs.declared.command.Command.{Command}
use Rattle.metro_program.specs.States.{State}
use Rattle.metro_program.specs.Builds.{Answer, Same, Step, asked_step, build_step, build_with, fresh_build, same_number, with_refusal}
use Rattle.metro_program.specs.Replay.{History, latest_after, line_after, lines_after, lines_of, moved_by}
use Rattle.metro_program.proofs.IsKept.{IsKept, holds_after}

-- the latest revision after some answers
abbrev latest_by : Option Revision → List Answer → Option Revision
latest_by before answers = fold latest_after before answers

lines_more : (full : Bool) (before : Option Revision) (front back : List Answer) → lines_after full before (front ++ back) ≡ lines_after full before front ++ lines_after full (latest_by before front) back
lines_more full before [] back = refl
lines_more full before (a ∷ front) back =
    ap (λ z. line_after full before a ++ z) (lines_more full (latest_after before a) front back) ∙ sym (append_assoc (line_after full before a) (lines_after full (latest_after before a) front) (lines_after full (latest_by (latest_after before a) front) back))

-- the latest revision of a state is that of its answers
abbrev pub IsLed : History → Type 0
IsLed h = latest_by None h.answers ≡ h.state.latest

build_led : (s : State) (faults : List BuildFault) → latest_by s.latest (build_step s (build_with s faults)).answers ≡ (build_step s (build_with s faults)).state.latest
build_led s [] = refl
build_led s (fault ∷ faults) = refl

asked_led : (s : State) (same : Option ℕ) → (λ (step : Step). latest_by s.latest step.answers ≡ step.state.latest) (option_map_or (λ number. record { state = with_refusal s None; answers = Same number ∷ [] }) same (build_step s (fresh_build s)))
asked_led s None = build_led s (all_faults s.ask s.files)
asked_led s (Some number) = refl

kept_led : IsKept IsLed
kept_led = record {
  change = λ h c l. l;
  build = λ h l. fold-append latest_after None h.answers (asked_step h.state).answers ∙ ap (λ r. latest_by r (asked_step h.state).answers) l ∙ asked_led h.state (same_number h.state);
}

-- so it is after commands
pub led_after : (tree : Files) (h now : History) (commands : List Command) → IsLed h → moved_by tree h commands ≡ Ok now → IsLed now
led_after tree h now commands l e = holds_after IsLed kept_led tree h now commands l e

-- the lines with those of one more step
pub lines_step : (full : Bool) (h : History) (answers : List Answer) → IsLed h → lines_of full (h.answers ++ answers) ≡ lines_of full h.answers ++ lines_after full h.state.latest answers
lines_step full h answers l = lines_more full None h.answers answers ∙ ap (λ r. lines_of full h.answers ++ lines_after full r answers) l

-- the lines of some answers and more begin with those of the first
pub lines_split : (full : Bool) (front back : List Answer) → (more : List ℕ) × (lines_of full (front ++ back) ≡ lines_of full front ++ more)
lines_split full front back = (lines_after full (latest_by None front) back, lines_more full None front back)
