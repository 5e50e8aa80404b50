-- What one change and one build keep, commands keep.
use Rattle.std.proofs.Common.{◌≡◌, List, [], ◌∷◌, ◌++◌, Result, Ok, Err, sym, subst, append-nil}
use Rattle.std.specs.List.{fold}
use Rattle.mt_io.specs.Files.{Files}
use Rattle.mt_files.specs.Crawl.{entry_of}
use Rattle.mt_files.specs.Journals.{push_answer}
use Rattle.mt_files.specs.Rescans.{rescanned}
use Rattle.mt_files.specs.declared.change.Change.{Change}
use Rattle.mt_files.specs.declared.change.Change.TheVariants as change
use Rattle.mt_files.specs.declared.fault.CrawlFault.{CrawlFault}
use Rattle.mt_files.specs.declared.journal.JournalFault.{JournalFault}
use Rattle.mt_script.specs.declared.command.Command.{Command}
use Rattle.mt_script.specs.declared.command.Command.TheVariants.{Put, Del, Rescan, Build, End}
use Rattle.mt_report.specs.declared.outcome.Outcome.{Outcome}
use Rattle.metro_program.specs.States.{State}
use Rattle.metro_program.specs.Builds.{Answer, asked_step}
use Rattle.metro_program.specs.Commands.{answered, changed, in_silence, moved, rescanned_by, then_changed, with_change}
use Rattle.metro_program.specs.Replay.{History, led, moved_by, then_moved}

-- a change and a build keep this
pub record IsKept (P : History → Type 0) : Type 0 where
  pub change : (h : History) (c : Change) → P h → P (record { state = with_change h.state c; answers = h.answers })
  pub build : (h : History) → P h → P (record { state = (asked_step h.state).state; answers = h.answers ++ (asked_step h.state).answers })

abbrev HoldsAt : (History → Type 0) → List Answer → Result State Outcome → Type 0
HoldsAt P answers (Ok s) = P (record { state = s; answers = answers })
HoldsAt P answers (Err outcome) = Unit

abbrev pub Holds : (History → Type 0) → Result History Outcome → Type 0
Holds P (Ok h) = P h
Holds P (Err outcome) = Unit

module _ (P : History → Type 0) (kept : IsKept P) where
  push_holds : (s : State) (answers : List Answer) (c : Change) (answer : Result (Unit {0}) JournalFault) → P (record { state = s; answers = answers }) → HoldsAt P answers (answered s c answer)
  push_holds s answers c (Ok room) h = kept.change (record { state = s; answers = answers }) c h
  push_holds s answers c (Err fault) h = tt

  change_holds : (answers : List Answer) (m : Result State Outcome) (c : Change) → HoldsAt P answers m → HoldsAt P answers (then_changed m c)
  change_holds answers (Ok s) c h = push_holds s answers c (push_answer s.journal c) h
  change_holds answers (Err outcome) c h = tt

  changes_hold : (answers : List Answer) (m : Result State Outcome) (cs : List Change) → HoldsAt P answers m → HoldsAt P answers (fold then_changed m cs)
  changes_hold answers m [] h = h
  changes_hold answers m (c ∷ cs) h = changes_hold answers (then_changed m c) cs (change_holds answers m c h)

  rescan_holds : (s : State) (answers : List Answer) (found : Result (List Change) CrawlFault) → P (record { state = s; answers = answers }) → HoldsAt P answers (rescanned_by s found)
  rescan_holds s answers (Ok cs) h = changes_hold answers (Ok s) cs h
  rescan_holds s answers (Err fault) h = tt

  silence_holds : (answers : List Answer) (m : Result State Outcome) → HoldsAt P answers m → Holds P (led answers (in_silence m))
  silence_holds answers (Ok s) h = subst (λ list. P (record { state = s; answers = list })) (sym (append-nil answers)) h
  silence_holds answers (Err outcome) h = tt

  -- a command keeps it
  pub command_holds : (tree : Files) (h : History) (command : Command) → P h → Holds P (led h.answers (moved tree h.state command))
  command_holds tree h (Put path bytes) p = let c = change.Put path (entry_of path bytes) in silence_holds h.answers (changed h.state c) (change_holds h.answers (Ok h.state) c p)
  command_holds tree h (Del path) p = silence_holds h.answers (changed h.state (change.Del path)) (change_holds h.answers (Ok h.state) (change.Del path) p)
  command_holds tree h Rescan p = silence_holds h.answers (rescanned_by h.state (rescanned h.state.files tree)) (rescan_holds h.state h.answers (rescanned h.state.files tree) p)
  command_holds tree h Build p = kept.build h p
  command_holds tree h End p = tt

  next_holds : (tree : Files) (m : Result History Outcome) (command : Command) → Holds P m → Holds P (then_moved tree m command)
  next_holds tree (Ok h) command p = command_holds tree h command p
  next_holds tree (Err outcome) command p = tt

  all_hold : (tree : Files) (m : Result History Outcome) (commands : List Command) → Holds P m → Holds P (fold (then_moved tree) m commands)
  all_hold tree m [] p = p
  all_hold tree m (command ∷ commands) p = all_hold tree (then_moved tree m command) commands (next_holds tree m command p)

  -- commands one after another keep it
  pub holds_after : (tree : Files) (h now : History) (commands : List Command) → P h → moved_by tree h commands ≡ Ok now → P now
  holds_after tree h now commands p e = subst (Holds P) e (all_hold tree (Ok h) commands p)
