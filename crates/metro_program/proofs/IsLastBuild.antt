-- A replay ends as its last build did.
use Rattle.std.proofs.Common.{inl, inr, ◌⊎◌, ◌≡◌, ◌==◌, ◌∙◌, ◌++◌, ℕ, Bool, true, false, List, [], ◌∷◌, length, Option, Some, None, Result, Ok, Err, refl, ap, sym, subst, if◌then◌else◌}
use Rattle.std.specs.List.{All, fold}
use Rattle.std.specs.Option.{IfSome, option_and_then, option_map_or}
use Rattle.std.specs.Result.{result_err}
use Rattle.std.proofs.lemmas.Bool.{eqb-true}
use Rattle.std.proofs.lemmas.List.Elements.{All-cons, All-head, All-nil}
use Rattle.mt_io.specs.Files.{Files}
use Rattle.mt_files.specs.Asks.{Ask}
use Rattle.mt_files.specs.Crawl.{entry_of}
use Rattle.mt_files.specs.Fresh.{all_faults, decided, edges_of, fresh}
use Rattle.mt_files.specs.Journals.{push_answer}
use Rattle.mt_files.specs.Reach.{reach}
use Rattle.mt_files.specs.Rescans.{rescanned}
use Rattle.mt_files.specs.Snapshots.{Snapshot}
use Rattle.mt_files.specs.declared.build_fault.BuildFault.{BuildFault}
use Rattle.mt_files.specs.declared.change.Change.{Change}
use Rattle.mt_files.specs.declared.change.Change.TheVariants as change
use Rattle.mt_files.specs.declared.fault.CrawlFault.{CrawlFault}
use Rattle.mt_files.specs.declared.journal.JournalFault.{JournalFault}
use Rattle.mt_revision.specs.Logs.{files_at}
use Rattle.mt_revision.specs.declared.revision.Revision.{Revision}
use Rattle.mt_script.specs.declared.command.Command.{Command}
use Rattle.mt_script.specs.declared.command.Command.TheVariants.{Put, Del, Rescan, Build, End}
use Rattle.mt_report.specs.declared.outcome.Outcome.{Outcome}
use Rattle.mt_report.specs.declared.outcome.Outcome.TheVariants.{Done, Refused}
use Rattle.metro_program.specs.States.{State}
use Rattle.metro_program.specs.Builds.{Same, Step, asked_step, build_step, build_with, fresh_build, number_at, same_number, with_refusal}
use Rattle.metro_program.specs.Commands.{answered, changed, in_silence, moved, outcome_of, rescanned_by, then_changed}
use Rattle.metro_program.specs.Replay.{History, led, moved_by, then_moved, unbuilt}
use Rattle.metro_program.specs.Replays.{IsLastBuild, IsQuiet}
use Rattle.metro_program.proofs.ChangesBy.{ended_moves}
use Rattle.metro_program.proofs.IsFresh.{IsSound, all_files, sound_after}

-- ---- what a build says of the files

module _ (s : State) where
  build_refusal : (faults : List BuildFault) → all_faults s.ask s.files ≡ faults → (build_step s (build_with s faults)).state.refusal ≡ result_err (fresh s.ask s.files)
  build_refusal [] e = ap (λ fs. result_err (decided (edges_of s.ask.options s.files (reach s.ask s.files)) fs)) (sym e)
  build_refusal (fault ∷ faults) e = ap (λ fs. result_err (decided (edges_of s.ask.options s.files (reach s.ask s.files)) fs)) (sym e)

  asked_refusal : (same : Option ℕ) → (IfSome same (λ _. all_faults s.ask s.files ≡ []))
      → (λ (step : Step). step.state.refusal ≡ result_err (fresh s.ask s.files)) (option_map_or (λ number. record { state = with_refusal s None; answers = Same number ∷ [] }) same (build_step s (fresh_build s)))
  asked_refusal None h = build_refusal (all_faults s.ask s.files) refl
  asked_refusal (Some number) h = ap (λ fs. result_err (decided (edges_of s.ask.options s.files (reach s.ask s.files)) fs)) (sym h)

module _ (ask : Ask) (files : Snapshot) (h : History) (s : IsSound ask files h) where
  clean_at : (r : Revision) → all_faults ask (files_at files h.state.journal r.changes) ≡ [] → r.changes ≡ length h.state.journal → all_faults h.state.ask h.state.files ≡ []
  clean_at r clean e =
      ap (λ a. all_faults a h.state.files) s.fresh.asked
      ∙ ap (all_faults ask) (sym (ap (files_at files h.state.journal) e ∙ all_files ask files h s.fresh))
      ∙ clean

  some_clean : (r : Revision) (t : Bool) → (r.changes == length h.state.journal) ≡ t → all_faults ask (files_at files h.state.journal r.changes) ≡ [] → IfSome (if t then Some r.number else None) (λ _. all_faults h.state.ask h.state.files ≡ [])
  some_clean r true e clean = clean_at r clean (eqb-true r.changes (length h.state.journal) e)
  some_clean r false e clean = tt

  same_clean : (latest : Option Revision) → IfSome latest (λ r. all_faults ask (files_at files h.state.journal r.changes) ≡ []) → IfSome (option_and_then (number_at (length h.state.journal)) latest) (λ _. all_faults h.state.ask h.state.files ≡ [])
  same_clean None clean = tt
  same_clean (Some r) clean = some_clean r (r.changes == length h.state.journal) refl clean

  -- a build is refused by the first fault of the files, or done where they have none
  pub refusal_is : (asked_step h.state).state.refusal ≡ result_err (fresh h.state.ask h.state.files)
  refusal_is = asked_refusal h.state (same_number h.state) (same_clean h.state.latest s.clean)

-- ---- other commands leave it

abbrev KeepsRefusal : Option BuildFault → Result State Outcome → Type 0
KeepsRefusal refusal (Ok t) = t.refusal ≡ refusal
KeepsRefusal refusal (Err outcome) = Unit

change_keeps : (refusal : Option BuildFault) (s : State) (c : Change) (answer : Result (Unit {0}) JournalFault) → s.refusal ≡ refusal → KeepsRefusal refusal (answered s c answer)
change_keeps refusal s c (Ok room) e = e
change_keeps refusal s c (Err fault) e = tt

next_keeps : (refusal : Option BuildFault) (m : Result State Outcome) (c : Change) → KeepsRefusal refusal m → KeepsRefusal refusal (then_changed m c)
next_keeps refusal (Ok s) c e = change_keeps refusal s c (push_answer s.journal c) e
next_keeps refusal (Err outcome) c e = tt

all_keep : (refusal : Option BuildFault) (m : Result State Outcome) (cs : List Change) → KeepsRefusal refusal m → KeepsRefusal refusal (fold then_changed m cs)
all_keep refusal m [] e = e
all_keep refusal m (c ∷ cs) e = all_keep refusal (then_changed m c) cs (next_keeps refusal m c e)

rescan_keeps : (s : State) (found : Result (List Change) CrawlFault) → KeepsRefusal s.refusal (rescanned_by s found)
rescan_keeps s (Ok cs) = all_keep s.refusal (Ok s) cs refl
rescan_keeps s (Err fault) = tt

silent_keeps : (refusal : Option BuildFault) (m : Result State Outcome) (step : Step) → KeepsRefusal refusal m → in_silence m ≡ Ok step → step.state.refusal ≡ refusal
silent_keeps refusal (Ok s) step e k = subst (λ (x : Step). x.state.refusal ≡ refusal) (let z : record { state = s; answers = [] } ≡ step = cc in z) e
silent_keeps refusal (Err outcome) step e k = absurd (cc)

-- ---- the last build of commands

-- the last build among these commands: what it made of the state is how it is now
record LastAmong (tree : Files) (start : History) (commands : List Command) (now : History) : Type 0 where
  front : List Command
  quiet : List Command
  parts : commands ≡ front ++ Build ∷ quiet
  silent : All IsQuiet quiet
  before : History
  led : moved_by tree start front ≡ Ok before
  refusal : now.state.refusal ≡ (asked_step before.state).state.refusal

-- no build is among these commands
record NoneAmong (start : History) (commands : List Command) (now : History) : Type 0 where
  silent : All IsQuiet commands
  refusal : now.state.refusal ≡ start.state.refusal

abbrev Among : Files → History → List Command → History → Type 0
Among tree start commands now = NoneAmong start commands now ⊎ LastAmong tree start commands now

module _ (tree : Files) where
  after_last : (h t now : History) (command : Command) (commands : List Command) → then_moved tree (Ok h) command ≡ Ok t → LastAmong tree t commands now → LastAmong tree h (command ∷ commands) now
  after_last h t now command commands e l = record {
    front = command ∷ l.front;
    quiet = l.quiet;
    parts = ap (λ z. command ∷ z) l.parts;
    silent = l.silent;
    before = l.before;
    led = ap (λ m. fold (then_moved tree) m l.front) e ∙ l.led;
    refusal = l.refusal;
  }

  after_quiet : (h t now : History) (command : Command) (commands : List Command) → then_moved tree (Ok h) command ≡ Ok t → IsQuiet command → t.state.refusal ≡ h.state.refusal → Among tree t commands now → Among tree h (command ∷ commands) now
  after_quiet h t now command commands e q same (inl n) = inl (record { silent = All-cons IsQuiet command commands q n.silent; refusal = n.refusal ∙ same })
  after_quiet h t now command commands e q same (inr l) = inr (after_last h t now command commands e l)

  after_build : (h t now : History) (commands : List Command) → then_moved tree (Ok h) Build ≡ Ok t → t.state.refusal ≡ (asked_step h.state).state.refusal → Among tree t commands now → Among tree h (Build ∷ commands) now
  after_build h t now commands e same (inl n) = inr (record { front = []; quiet = commands; parts = refl; silent = n.silent; before = h; led = refl; refusal = n.refusal ∙ same })
  after_build h t now commands e same (inr l) = inr (after_last h t now Build commands e l)

  by_command :
      (h t now : History) (command : Command) (commands : List Command) (step : Step) → moved tree h.state command ≡ Ok step → t ≡ record { state = step.state; answers = h.answers ++ step.answers } → Among tree t commands now
      → Among tree h (command ∷ commands) now
  by_command h t now (Put path bytes) commands step e is a =
      let c = change.Put path (entry_of path bytes) in
      after_quiet h t now (Put path bytes) commands (ap (led h.answers) e ∙ ap Ok (sym is)) tt (ap (λ (x : History). x.state.refusal) is ∙ silent_keeps h.state.refusal (changed h.state c) step (change_keeps h.state.refusal h.state c (push_answer h.state.journal c) refl) e) a
  by_command h t now (Del path) commands step e is a =
      let c = change.Del path in
      after_quiet h t now (Del path) commands (ap (led h.answers) e ∙ ap Ok (sym is)) tt (ap (λ (x : History). x.state.refusal) is ∙ silent_keeps h.state.refusal (changed h.state c) step (change_keeps h.state.refusal h.state c (push_answer h.state.journal c) refl) e) a
  by_command h t now Rescan commands step e is a =
      after_quiet h t now Rescan commands (ap (led h.answers) e ∙ ap Ok (sym is)) tt
      (ap (λ (x : History). x.state.refusal) is ∙ silent_keeps h.state.refusal (rescanned_by h.state (rescanned h.state.files tree)) step (rescan_keeps h.state (rescanned h.state.files tree)) e) a
  by_command h t now Build commands step e is a =
      after_build h t now commands (ap (led h.answers) e ∙ ap Ok (sym is)) (ap (λ (x : History). x.state.refusal) is ∙ ap (λ (x : Step). x.state.refusal) (let k : step ≡ asked_step h.state = cc in k)) a
  by_command h t now End commands step e is a = absurd (cc)

  from_step :
      (h now : History) (command : Command) (commands : List Command) (m : Result Step Outcome) → moved tree h.state command ≡ m → fold (then_moved tree) (led h.answers m) commands ≡ Ok now
      → ((t : History) → moved_by tree t commands ≡ Ok now → Among tree t commands now) → Among tree h (command ∷ commands) now
  from_step h now command commands (Ok step) e k later =
      let t : History = record { state = step.state; answers = h.answers ++ step.answers } in
      by_command h t now command commands step e refl (later t k)
  from_step h now command commands (Err outcome) e k later = absurd (let z : Err outcome ≡ Ok now = sym (ended_moves tree outcome commands) ∙ k in cc)

  among : (commands : List Command) (h now : History) → moved_by tree h commands ≡ Ok now → Among tree h commands now
  among [] h now e = inl (record { silent = All-nil IsQuiet; refusal = ap (λ (x : History). x.state.refusal) (let k : now ≡ h = cc in k) })
  among (command ∷ commands) h now e = from_step h now command commands (moved tree h.state command) refl e (λ t k. among commands t now k)

  last_by : (ask : Ask) (files : Snapshot) (commands : List Command) (now : History) → Among tree (unbuilt ask files) (Build ∷ commands) now → IsLastBuild tree (unbuilt ask files) (Build ∷ commands) (outcome_of now.state)
  last_by ask files commands now (inl n) = absurd (All-head IsQuiet Build commands n.silent)
  last_by ask files commands now (inr l) = record {
    front = l.front;
    quiet = l.quiet;
    parts = l.parts;
    silent = l.silent;
    before = l.before;
    led = l.led;
    built = ap (λ refusal. option_map_or Refused refusal Done) (l.refusal ∙ refusal_is ask files l.before (sound_after ask files tree l.front l.before l.led));
  }

  -- where the commands of a replay lead, it ends as its last build did
  pub last_build : (ask : Ask) (files : Snapshot) (commands : List Command) (now : History) → moved_by tree (unbuilt ask files) (Build ∷ commands) ≡ Ok now → IsLastBuild tree (unbuilt ask files) (Build ∷ commands) (outcome_of now.state)
  last_build ask files commands now e = last_by ask files commands now (among (Build ∷ commands) (unbuilt ask files) now e)
