-- How the plan of a replay goes on, command by command.
use Rattle.std.proofs.Common.{◌≡◌, ◌+◌, ◌++◌, ◌∙◌, ℕ, Bool, List, [], ◌∷◌, Option, Result, Ok, Err, refl, ap, sym, append_assoc, append-nil}
use Rattle.std.specs.List.{fold}
use Rattle.mt_io.specs.Files.{Files}
use Rattle.mt_script.specs.Commands.{GoesOn}
use Rattle.mt_script.specs.Scripts.{script_from}
use Rattle.mt_script.specs.Steps.{Found, next_of}
use Rattle.mt_script.specs.declared.command.Command.{Command}
use Rattle.mt_script.specs.declared.command.Command.TheVariants.{Put, Del, Rescan, Build, End}
use Rattle.mt_script.specs.declared.fault.ScriptFault.{ScriptFault}
use Rattle.mt_script.proofs.Scripts.{script_found, script_ended}
use Rattle.mt_report.specs.declared.outcome.Outcome.{Outcome}
use Rattle.metro_program.specs.Builds.{Answer, Step, asked_step}
use Rattle.metro_program.specs.Commands.{moved}
use Rattle.metro_program.specs.Replay.{History, led, lines_of, moved_by, replayed, script_plan, then_moved}
use Rattle.metro_program.proofs.ChangesBy.{ended_moves}
use Rattle.metro_program.proofs.IsKept.{IsKept, holds_after}
use Rattle.metro_program.proofs.IsReport.{plan_after, replayed_step, reported}
use Rattle.metro_program.proofs.LinesOf.{lines_split}

module _ (full : Bool) (tree : Files) where
  through_step :
      (fault : Option ScriptFault) (h t : History) (command : Command) (done rest : List Command) (m : Result Step Outcome) → moved tree h.state command ≡ m → fold (then_moved tree) (led h.answers m) done ≡ Ok t
      → ((u : History) → moved_by tree u done ≡ Ok t → replayed full tree fault u (done ++ rest) ≡ replayed full tree fault t rest)
      → plan_after full tree fault h (done ++ rest) (led h.answers m) ≡ replayed full tree fault t rest
  through_step fault h t command done rest (Ok step) e k later = later (record { state = step.state; answers = h.answers ++ step.answers }) k
  through_step fault h t command done rest (Err outcome) e k later = absurd (let z : Err outcome ≡ Ok t = sym (ended_moves tree outcome done) ∙ k in cc)

  -- the plan of commands that lead on is that of those after them
  pub through : (fault : Option ScriptFault) (done rest : List Command) (h t : History) → moved_by tree h done ≡ Ok t → replayed full tree fault h (done ++ rest) ≡ replayed full tree fault t rest
  through fault [] rest h t e = ap (λ x. replayed full tree fault x rest) (let k : h ≡ t = cc in k)
  through fault (command ∷ done) rest h t e =
      replayed_step full tree fault h command (done ++ rest) ∙ through_step fault h t command done rest (moved tree h.state command) refl e (λ u k. through fault done rest u t k)

  -- ---- the next command of a script

  goes_plan : (t : History) (n : ℕ) (bytes : List ℕ) (c : Command) (rest : List ℕ) → GoesOn c → next_of n bytes ≡ Found c rest
      → script_plan full tree t (script_from n bytes) ≡ plan_after full tree (script_from (n + 1) rest).ending t (script_from (n + 1) rest).commands (led t.answers (moved tree t.state c))
  goes_plan t n bytes c rest on found = ap (script_plan full tree t) (script_found n bytes c rest on found) ∙ replayed_step full tree (script_from (n + 1) rest).ending t c (script_from (n + 1) rest).commands

  -- the plan of a command that is found, and of what follows
  pub found_plan : (t : History) (n : ℕ) (bytes : List ℕ) (c : Command) (rest : List ℕ) → next_of n bytes ≡ Found c rest
      → script_plan full tree t (script_from n bytes) ≡ plan_after full tree (script_from (n + 1) rest).ending t (script_from (n + 1) rest).commands (led t.answers (moved tree t.state c))
  found_plan t n bytes (Put path size) rest found = goes_plan t n bytes (Put path size) rest tt found
  found_plan t n bytes (Del path) rest found = goes_plan t n bytes (Del path) rest tt found
  found_plan t n bytes Rescan rest found = goes_plan t n bytes Rescan rest tt found
  found_plan t n bytes Build rest found = goes_plan t n bytes Build rest tt found
  found_plan t n bytes End rest found = ap (script_plan full tree t) (script_ended n bytes rest found)

  -- ---- answers grow

  kept_answers : (start : List Answer) → IsKept (λ h. (more : List Answer) × (h.answers ≡ start ++ more))
  kept_answers start = record {
    change = λ h c k. k;
    build = λ h k. (k.0 ++ (asked_step h.state).answers, ap (λ z. z ++ (asked_step h.state).answers) k.1 ∙ append_assoc start k.0 (asked_step h.state).answers);
  }

  more_answers : (h now : History) (commands : List Command) → moved_by tree h commands ≡ Ok now → (more : List Answer) × (now.answers ≡ h.answers ++ more)
  more_answers h now commands e = holds_after (λ x. (more : List Answer) × (x.answers ≡ h.answers ++ more)) (kept_answers h.answers) tree h now commands ([], sym (append-nil h.answers)) e

  -- the plan begins with the lines of the answers so far
  pub more_lines : (fault : Option ScriptFault) (h : History) (commands : List Command) → (more : List ℕ) × ((replayed full tree fault h commands).bytes ≡ lines_of full h.answers ++ more)
  more_lines fault h commands =
      let r = reported full tree fault commands h in
      let a = more_answers h r.now r.done r.led in
      let s = lines_split full h.answers a.0 in
      (s.0, r.lines ∙ ap (lines_of full) a.1 ∙ s.1)
