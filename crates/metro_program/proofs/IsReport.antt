-- What a replay writes are the lines of what its builds answered, up to the command at which it ended.
use Rattle.std.proofs.Common.{◌≡◌, ◌+◌, ◌++◌, ◌∙◌, ℕ, Bool, zero, suc, List, [], ◌∷◌, length, Option, Some, Result, Ok, Err, refl, ap, sym, subst}
use Rattle.std.specs.List.{All, fold}
use Rattle.mt_io.specs.Files.{Files}
use Rattle.mt_files.specs.Asks.{Ask}
use Rattle.mt_files.specs.Snapshots.{Snapshot}
use Rattle.std.proofs.lemmas.List.Elements.{All-cons, All-nil}
use Rattle.mt_script.specs.Commands.{GoesOn}
use Rattle.mt_script.specs.Scripts.{Script, script_from, script_of, script_with, script_within, with_command}
use Rattle.mt_script.specs.Steps.{Step as ScriptStep, Found, Stopped, next_of}
use Rattle.mt_script.specs.declared.command.Command.{Command}
use Rattle.mt_script.specs.declared.command.Command.TheVariants.{Put, Del, Rescan, Build, End}
use Rattle.mt_script.specs.declared.fault.ScriptFault.{ScriptFault}
use Rattle.mt_report.specs.declared.outcome.Outcome.{Outcome}
use Rattle.metro_program.specs.Builds.{Step}
use Rattle.metro_program.specs.Commands.{moved}
use Rattle.metro_program.specs.Plans.{Plan}
use Rattle.metro_program.specs.Replay.{History, ended, led, lines_of, moved_by, replayed, script_plan, then_moved, unbuilt}
use Rattle.metro_program.specs.Replays.{EndsAt, IsReport}

-- the plan after a command that leads here
abbrev pub plan_after : Bool → Files → Option ScriptFault → History → List Command → Result History Outcome → Plan
plan_after full tree fault h commands (Ok now) = replayed full tree fault now commands
plan_after full tree fault h commands (Err outcome) = ended full h outcome

pub one_after :
    (full : Bool) (tree : Files) (fault : Option ScriptFault) (h : History) (commands : List Command) (m : Result History Outcome)
    → elim m [ Ok now ↦ replayed full tree fault now commands | Err outcome ↦ ended full h outcome ] ≡ plan_after full tree fault h commands m
one_after full tree fault h commands (Ok now) = refl
one_after full tree fault h commands (Err outcome) = refl

-- the plan of a command and those after it
pub replayed_step :
    (full : Bool) (tree : Files) (fault : Option ScriptFault) (h : History) (command : Command) (commands : List Command)
    → replayed full tree fault h (command ∷ commands) ≡ plan_after full tree fault h commands (led h.answers (moved tree h.state command))
replayed_step full tree fault h command commands = one_after full tree fault h commands (led h.answers (moved tree h.state command))

-- from here, these commands are carried out in part or whole
pub record Reported (full : Bool) (tree : Files) (fault : Option ScriptFault) (h : History) (commands : List Command) (plan : Plan) : Type 0 where
  pub done : List Command
  pub rest : List Command
  pub parts : commands ≡ done ++ rest
  pub now : History
  pub led : moved_by tree h done ≡ Ok now
  pub lines : plan.bytes ≡ lines_of full now.answers
  pub ends : EndsAt tree fault now rest plan.outcome

module _ (full : Bool) (tree : Files) (fault : Option ScriptFault) where
  reported_step :
      (h : History) (command : Command) (commands : List Command) (m : Result Step Outcome) → moved tree h.state command ≡ m → ((t : History) → Reported full tree fault t commands (replayed full tree fault t commands))
      → Reported full tree fault h (command ∷ commands) (plan_after full tree fault h commands (led h.answers m))
  reported_step h command commands (Err outcome) e later = record { done = []; rest = command ∷ commands; parts = refl; now = h; led = refl; lines = refl; ends = e }
  reported_step h command commands (Ok step) e later =
      let r = later (record { state = step.state; answers = h.answers ++ step.answers }) in
      record {
        done = command ∷ r.done;
        rest = r.rest;
        parts = ap (λ z. command ∷ z) r.parts;
        now = r.now;
        led = ap (λ m. fold (then_moved tree) (led h.answers m) r.done) e ∙ r.led;
        lines = r.lines;
        ends = r.ends;
      }

  pub reported : (commands : List Command) (h : History) → Reported full tree fault h commands (replayed full tree fault h commands)
  reported [] h = record { done = []; rest = []; parts = refl; now = h; led = refl; lines = refl; ends = refl }
  reported (command ∷ commands) h =
      subst (Reported full tree fault h (command ∷ commands)) (sym (replayed_step full tree fault h command commands))
      (reported_step h command commands (moved tree h.state command) refl (reported commands))

-- the plan of a replay over a snapshot
pub report_of : (full : Bool) (tree : Files) (ask : Ask) (files : Snapshot) (script : Script) → IsReport full tree ask files script (script_plan full tree (unbuilt ask files) (with_command Build script))
report_of full tree ask files script =
    let r = reported full tree script.ending (Build ∷ script.commands) (unbuilt ask files) in
    record { done = r.done; rest = r.rest; parts = r.parts; now = r.now; led = r.led; lines = r.lines; ends = r.ends }

-- ---- a script has no `end` among its commands

go_on_step : (command : Command) (script : Script) → All GoesOn script.commands → All GoesOn (script_with command script).commands
go_on_step (Put path bytes) script h = All-cons GoesOn (Put path bytes) script.commands tt h
go_on_step (Del path) script h = All-cons GoesOn (Del path) script.commands tt h
go_on_step Rescan script h = All-cons GoesOn Rescan script.commands tt h
go_on_step Build script h = All-cons GoesOn Build script.commands tt h
go_on_step End script h = All-nil GoesOn

abbrev next_script : ℕ → ℕ → ScriptStep → Script
next_script n fuel (Found command rest) = script_with command (script_within fuel (n + 1) rest)
next_script n fuel (Stopped f) = record { commands = []; ending = Some f }

next_is : (n fuel : ℕ) (s : ScriptStep) → elim s [ Found command rest ↦ script_with command (script_within fuel (n + 1) rest) | Stopped f ↦ record { commands = []; ending = Some f } ] ≡ next_script n fuel s
next_is n fuel (Found command rest) = refl
next_is n fuel (Stopped f) = refl

go_on_by : (n fuel : ℕ) (s : ScriptStep) → ((rest : List ℕ) → All GoesOn (script_within fuel (n + 1) rest).commands) → All GoesOn (next_script n fuel s).commands
go_on_by n fuel (Found command rest) h = go_on_step command (script_within fuel (n + 1) rest) (h rest)
go_on_by n fuel (Stopped f) h = All-nil GoesOn

go_on_within : (fuel n : ℕ) (bytes : List ℕ) → All GoesOn (script_within fuel n bytes).commands
go_on_within zero n bytes = All-nil GoesOn
go_on_within (suc fuel) n bytes = subst (λ (sc : Script). All GoesOn sc.commands) (sym (next_is n fuel (next_of n bytes))) (go_on_by n fuel (next_of n bytes) (λ rest. go_on_within fuel (n + 1) rest))

pub commands_go_on : (bytes : List ℕ) → All GoesOn (script_of bytes).commands
unfolding script_from
commands_go_on bytes = go_on_within (length bytes) 0 bytes
