-- The journal of a replay has what its commands change.
use Rattle.std.proofs.Common.{◌≡◌, ◌∙◌, ℕ, List, [], ◌∷◌, ◌++◌, Option, Some, None, Result, Ok, Err, refl, ap, sym, subst, append_assoc, append-nil}
use Rattle.std.specs.List.{fold}
use Rattle.std.specs.Option.{unwrap_or, option_map_or}
use Rattle.std.specs.Result.{result_ok}
use Rattle.std.proofs.lemmas.List.Sums.{fold-append}
use Rattle.mt_io.specs.Files.{Files}
use Rattle.mt_files.specs.Asks.{Ask}
use Rattle.mt_files.specs.Changes.{stepped, stepped_by}
use Rattle.mt_files.specs.Crawl.{entry_of}
use Rattle.mt_files.specs.Fresh.{all_faults}
use Rattle.mt_files.specs.Journals.{push_answer}
use Rattle.mt_files.specs.Rescans.{rescanned}
use Rattle.mt_files.specs.Snapshots.{Snapshot}
use Rattle.mt_files.specs.declared.build_fault.BuildFault.{BuildFault}
use Rattle.mt_files.specs.declared.change.Change.{Change}
use Rattle.mt_files.specs.declared.change.Change.TheVariants as change
use Rattle.mt_files.specs.declared.fault.CrawlFault.{CrawlFault}
use Rattle.mt_files.specs.declared.journal.JournalFault.{JournalFault}
use Rattle.mt_script.specs.declared.command.Command.{Command}
use Rattle.mt_script.specs.declared.command.Command.TheVariants.{Put, Del, Rescan, Build, End}
use Rattle.mt_report.specs.declared.outcome.Outcome.{Outcome}
use Rattle.metro_program.specs.States.{State}
use Rattle.metro_program.specs.Builds.{Same, Step, asked_step, build_step, build_with, fresh_build, same_number, with_refusal}
use Rattle.metro_program.specs.Commands.{answered, changed, in_silence, moved, rescanned_by, then_changed}
use Rattle.metro_program.specs.Replay.{History, led, moved_by, then_moved, unbuilt}
use Rattle.metro_program.specs.Histories.{changes_by, changes_of}

-- from one state to another, these changes were accepted
pub record Accepts (s : State) (changes : List Change) (now : State) : Type 0 where
  pub journal : now.journal ≡ s.journal ++ changes
  pub files : now.files ≡ stepped_by s.files changes

abbrev AcceptsIf : State → List Change → Result State Outcome → Type 0
AcceptsIf s changes (Ok now) = Accepts s changes now
AcceptsIf s changes (Err outcome) = Unit

accepts_none : (s : State) → Accepts s [] s
accepts_none s = record { journal = sym (append-nil s.journal); files = refl }

push_accepts : (s t : State) (done : List Change) (c : Change) (answer : Result (Unit {0}) JournalFault) → Accepts s done t → AcceptsIf s (done ++ c ∷ []) (answered t c answer)
push_accepts s t done c (Ok room) a = record {
  journal = ap (λ j. j ++ c ∷ []) a.journal ∙ append_assoc s.journal done (c ∷ []);
  files = ap (λ f. stepped f c) a.files ∙ sym (fold-append stepped s.files done (c ∷ []));
}
push_accepts s t done c (Err fault) a = tt

next_accepts : (s : State) (m : Result State Outcome) (done : List Change) (c : Change) → AcceptsIf s done m → AcceptsIf s (done ++ c ∷ []) (then_changed m c)
next_accepts s (Ok t) done c a = push_accepts s t done c (push_answer t.journal c) a
next_accepts s (Err outcome) done c a = tt

all_accept : (s : State) (m : Result State Outcome) (done changes : List Change) → AcceptsIf s done m → AcceptsIf s (done ++ changes) (fold then_changed m changes)
all_accept s m done [] a = subst (λ cs. AcceptsIf s cs m) (sym (append-nil done)) a
all_accept s m done (c ∷ changes) a = subst (λ cs. AcceptsIf s cs (fold then_changed (then_changed m c) changes)) (append_assoc done (c ∷ []) changes) (all_accept s (then_changed m c) (done ++ c ∷ []) changes (next_accepts s m done c a))

rescan_accepts : (s : State) (found : Result (List Change) CrawlFault) → AcceptsIf s (unwrap_or (result_ok found) []) (rescanned_by s found)
rescan_accepts s (Ok changes) = all_accept s (Ok s) [] changes (accepts_none s)
rescan_accepts s (Err fault) = tt

-- ---- commands

silent_accepts : (s : State) (changes : List Change) (m : Result State Outcome) (step : Step) → AcceptsIf s changes m → in_silence m ≡ Ok step → Accepts s changes step.state
silent_accepts s changes (Ok now) step a e = subst (λ (x : Step). Accepts s changes x.state) (let k : record { state = now; answers = [] } ≡ step = cc in k) a
silent_accepts s changes (Err outcome) step a e = absurd (cc)

build_accepts : (s : State) (faults : List BuildFault) → Accepts s [] (build_step s (build_with s faults)).state
build_accepts s [] = record { journal = sym (append-nil s.journal); files = refl }
build_accepts s (fault ∷ faults) = record { journal = sym (append-nil s.journal); files = refl }

asked_accepts : (s : State) (same : Option ℕ) → (λ (step : Step). Accepts s [] step.state) (option_map_or (λ number. record { state = with_refusal s None; answers = Same number ∷ [] }) same (build_step s (fresh_build s)))
asked_accepts s None = build_accepts s (all_faults s.ask s.files)
asked_accepts s (Some number) = record { journal = sym (append-nil s.journal); files = refl }

command_accepts : (tree : Files) (s : State) (command : Command) (step : Step) → moved tree s command ≡ Ok step → Accepts s (changes_of tree s.files command) step.state
command_accepts tree s (Put path bytes) step e = let c = change.Put path (entry_of path bytes) in silent_accepts s (c ∷ []) (changed s c) step (push_accepts s s [] c (push_answer s.journal c) (accepts_none s)) e
command_accepts tree s (Del path) step e = let c = change.Del path in silent_accepts s (c ∷ []) (changed s c) step (push_accepts s s [] c (push_answer s.journal c) (accepts_none s)) e
command_accepts tree s Rescan step e = silent_accepts s (unwrap_or (result_ok (rescanned s.files tree)) []) (rescanned_by s (rescanned s.files tree)) step (rescan_accepts s (rescanned s.files tree)) e
command_accepts tree s Build step e = subst (λ (x : Step). Accepts s [] x.state) (let k : asked_step s ≡ step = cc in k) (asked_accepts s (same_number s))
command_accepts tree s End step e = absurd (cc)

-- ---- commands one after another

module _ (tree : Files) where
  -- once the run has ended, no command is carried out
  pub ended_moves : (outcome : Outcome) (commands : List Command) → fold (then_moved tree) (Err outcome) commands ≡ Err outcome
  ended_moves outcome [] = refl
  ended_moves outcome (command ∷ commands) = ended_moves outcome commands

  more_accept : (start : State) (done more : List Change) (t now : State) → Accepts start done t → Accepts t more now → Accepts start (done ++ more) now
  more_accept start done more t now a b = record {
    journal = b.journal ∙ ap (λ j. j ++ more) a.journal ∙ append_assoc start.journal done more;
    files = b.files ∙ ap (λ f. stepped_by f more) a.files ∙ sym (fold-append stepped start.files done more);
  }

  from_step :
      (h now : History) (command : Command) (commands : List Command) (m : Result Step Outcome) → moved tree h.state command ≡ m → fold (then_moved tree) (led h.answers m) commands ≡ Ok now
      → ((t : History) → moved_by tree t commands ≡ Ok now → Accepts t.state (changes_by tree t.state.files commands) now.state)
      → Accepts h.state (changes_by tree h.state.files (command ∷ commands)) now.state
  from_step h now command commands (Ok step) e k later =
      let a = command_accepts tree h.state command step e in
      let b = later (record { state = step.state; answers = h.answers ++ step.answers }) k in
      more_accept h.state (changes_of tree h.state.files command) _ step.state now.state a (subst (λ f. Accepts step.state (changes_by tree f commands) now.state) a.files b)
  from_step h now command commands (Err outcome) e k later = absurd (let z : Err outcome ≡ Ok now = sym (ended_moves outcome commands) ∙ k in cc)

  -- what commands change was accepted
  pub commands_accept : (commands : List Command) (h now : History) → moved_by tree h commands ≡ Ok now → Accepts h.state (changes_by tree h.state.files commands) now.state
  commands_accept [] h now e = subst (λ (x : History). Accepts h.state [] x.state) (let k : h ≡ now = cc in k) (accepts_none h.state)
  commands_accept (command ∷ commands) h now e = from_step h now command commands (moved tree h.state command) refl e (λ t k. commands_accept commands t now k)

  -- the journal of a replay has what its commands change
  pub journal_is : (ask : Ask) (files : Snapshot) (commands : List Command) (now : History) → moved_by tree (unbuilt ask files) commands ≡ Ok now → now.state.journal ≡ changes_by tree files commands
  journal_is ask files commands now e = (commands_accept commands (unbuilt ask files) now e).journal
