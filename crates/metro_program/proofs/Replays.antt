-- What the plan of a replay says.
use Rattle.std.proofs.Common.{inl, inr, ◌⊎◌, ◌≡◌, ◌<◌, ◌==◌, ◌∙◌, ◌++◌, ◌↔◌, ℕ, Bool, true, false, List, [], ◌∷◌, length, nat_lt, Option, Some, None, Result, Ok, Err, refl, ap, sym, subst, arith, if◌then◌else◌, append-nil}
use Rattle.std.specs.List.{All, fold, IsDistinct}
use Rattle.std.specs.Option.{option_and_then, option_map_or}
use Rattle.std.specs.Str.{bytes_eq}
use Rattle.std.proofs.lemmas.Bool.{eqb-false, eqb-true}
use Rattle.std.proofs.lemmas.List.Elements.{All-head, All-tail}
use Rattle.mt_io.specs.Files.{Files}
use Rattle.mt_files.specs.Asks.{Ask}
use Rattle.mt_files.specs.Crawl.{crawled, entry_of}
use Rattle.mt_files.specs.Fresh.{all_faults}
use Rattle.mt_files.specs.Journals.{full as full_fault, is_full, max_changes}
use Rattle.mt_files.specs.Limits.{MeetsLimit}
use Rattle.mt_files.specs.Rescans.{changes_between, changes_to, rescanned}
use Rattle.mt_files.specs.Snapshots.{Snapshot}
use Rattle.mt_files.specs.declared.build_fault.BuildFault.{BuildFault}
use Rattle.mt_files.specs.declared.change.Change.{Change}
use Rattle.mt_files.specs.declared.change.Change.TheVariants as change
use Rattle.mt_files.specs.declared.fault.CrawlFault.{CrawlFault}
use Rattle.mt_files.specs.declared.fault.CrawlFault.TheVariants as crawl
use Rattle.mt_files.proofs.Limits.{limits_first}
use Rattle.mt_revision.specs.declared.revision.Revision.{Revision}
use Rattle.mt_script.specs.Commands.{GoesOn}
use Rattle.mt_script.specs.Scripts.{Script, script_of, with_command}
use Rattle.mt_script.specs.declared.command.Command.{Command}
use Rattle.mt_script.specs.declared.command.Command.TheVariants.{Put, Del, Rescan, Build, End}
use Rattle.mt_script.specs.declared.fault.ScriptFault.{ScriptFault}
use Rattle.mt_script.specs.declared.fault.ScriptFault.TheVariants as script
use Rattle.mt_report.specs.Outcomes.{crawl_outcome, script_outcome, status_of}
use Rattle.mt_report.specs.declared.outcome.Outcome.{Outcome}
use Rattle.mt_report.specs.declared.outcome.Outcome.TheVariants.{Limit}
use Rattle.mt_report.specs.declared.outcome.Limit.TheVariants.{Changes, JournalBytes}
use Rattle.mt_request.specs.Asks.{AreEntries}
use Rattle.metro_program.specs.States.{State}
use Rattle.metro_program.specs.Builds.{Same, Step, asked_step, build_step, build_with, fresh_build, number_at, same_number, with_refusal}
use Rattle.metro_program.specs.Commands.{answered, changed, in_silence, moved, outcome_of, rescanned_by, then_changed}
use Rattle.metro_program.specs.Plans.{Plan, without_bytes}
use Rattle.metro_program.specs.Replay.{History, files_plan, moved_by, replay_plan, script_plan, unbuilt}
use Rattle.metro_program.specs.Replays.{EndsAt, IsCounted, IsLastBuild, IsReplay, IsReport, IsWhole, Replays}
use Rattle.metro_program.proofs.ChangesBy.{journal_is}
use Rattle.metro_program.proofs.IsFresh.{log_traversals, numbers_after, sound_after}
use Rattle.metro_program.proofs.IsLastBuild.{last_build}
use Rattle.metro_program.proofs.IsReport.{commands_go_on, report_of}

-- ---- limits

met_limit : (tree : Files) (before : List (List ℕ)) (path : List ℕ) (fault : CrawlFault) → MeetsLimit tree before path fault → status_of (crawl_outcome fault) ≡ 6
met_limit tree before path crawl.Failed h = absurd h
met_limit tree before path (crawl.FileTooLarge large size) h = refl
met_limit tree before path crawl.TooManyFiles h = refl
met_limit tree before path crawl.TooManyBytes h = refl
met_limit tree before path crawl.NoMemory h = absurd h

-- a crawl of files that are told is refused at a limit alone
pub limit_status : (tree : Files) (fault : CrawlFault) → crawled tree ≡ Err fault → status_of (crawl_outcome fault) ≡ 6
limit_status tree fault e = let first = limits_first tree fault e in met_limit tree first.before first.path fault first.met

-- ---- where commands end a run

-- a limit
abbrev pub IsLimit : Outcome → Type 0
IsLimit outcome = status_of outcome ≡ 6

abbrev LimitsAlone : Result State Outcome → Type 0
LimitsAlone (Ok s) = Unit
LimitsAlone (Err outcome) = IsLimit outcome

limit_by : (t : Bool) → IsLimit (if t then Limit JournalBytes else Limit Changes)
limit_by true = refl
limit_by false = refl

full_limits : (s : State) (c : Change) (t : Bool) → LimitsAlone (answered s c (if t then Err (full_fault s.journal) else Ok tt))
full_limits s c true = limit_by (nat_lt (length s.journal) max_changes)
full_limits s c false = tt

change_limits : (m : Result State Outcome) (c : Change) → LimitsAlone m → LimitsAlone (then_changed m c)
change_limits (Ok s) c h = full_limits s c (is_full s.journal c)
change_limits (Err outcome) c h = h

changes_limit : (m : Result State Outcome) (cs : List Change) → LimitsAlone m → LimitsAlone (fold then_changed m cs)
changes_limit m [] h = h
changes_limit m (c ∷ cs) h = changes_limit (then_changed m c) cs (change_limits m c h)

rescan_limits : (tree : Files) (s : State) (found : Result Snapshot CrawlFault) → crawled tree ≡ found → LimitsAlone (rescanned_by s (changes_to s.files found))
rescan_limits tree s (Ok files) e = changes_limit (Ok s) (changes_between s.files files) tt
rescan_limits tree s (Err fault) e = limit_status tree fault e

silent_limits : (m : Result State Outcome) (outcome : Outcome) → LimitsAlone m → in_silence m ≡ Err outcome → IsLimit outcome
silent_limits (Ok s) outcome h e = absurd (cc)
silent_limits (Err met) outcome h e = subst IsLimit (let k : met ≡ outcome = cc in k) h

-- a command after which a script goes on ends a run at a limit alone
command_limits : (tree : Files) (s : State) (command : Command) (outcome : Outcome) → GoesOn command → moved tree s command ≡ Err outcome → IsLimit outcome
command_limits tree s (Put path bytes) outcome on e = silent_limits (changed s (change.Put path (entry_of path bytes))) outcome (change_limits (Ok s) (change.Put path (entry_of path bytes)) tt) e
command_limits tree s (Del path) outcome on e = silent_limits (changed s (change.Del path)) outcome (change_limits (Ok s) (change.Del path) tt) e
command_limits tree s Rescan outcome on e = silent_limits (rescanned_by s (rescanned s.files tree)) outcome (rescan_limits tree s (crawled tree) refl) e
command_limits tree s Build outcome on e = absurd (cc)
command_limits tree s End outcome on e = absurd on

-- ---- the end of a replay

all_back : (P : Command → Type 0) (xs ys : List Command) → All P (xs ++ ys) → All P ys
all_back P [] ys h = h
all_back P (x ∷ xs) ys h = all_back P xs ys (All-tail P x (xs ++ ys) h)

script_late : (fault : ScriptFault) → status_of (script_outcome fault) < 2 → ⊥
script_late (script.Bad command) h = absurd (omega (arith, h))
script_late (script.Cut command) h = absurd (omega (arith, h))
script_late (script.FileTooLarge path size) h = absurd (omega (arith, h))
script_late script.TooManyCommands h = absurd (omega (arith, h))
script_late script.Failed h = absurd (omega (arith, h))
script_late script.NoMemory h = absurd (omega (arith, h))

module _ (full : Bool) (tree : Files) (ask : Ask) (files : Snapshot) (taken : crawled tree ≡ Ok files) (s : Script) (go : All GoesOn s.commands) (plan : Plan) where
  whole_at : (done : List Command) (now : History) → Build ∷ s.commands ≡ done ++ [] → moved_by tree (unbuilt ask files) done ≡ Ok now → s.ending ≡ None → plan.outcome ≡ outcome_of now.state → IsWhole tree ask s plan
  whole_at done now parts led over is =
      let all : Build ∷ s.commands ≡ done = parts ∙ append-nil done in
      let moved : moved_by tree (unbuilt ask files) (Build ∷ s.commands) ≡ Ok now = ap (moved_by tree (unbuilt ask files)) all ∙ led in
      record { files = files; taken = taken; over = over; now = now; led = moved; last = subst (IsLastBuild tree (unbuilt ask files) (Build ∷ s.commands)) (sym is) (last_build tree ask files s.commands now moved) }

  over_by : (done : List Command) (now : History) (fault : Option ScriptFault) → s.ending ≡ fault → Build ∷ s.commands ≡ done ++ [] → moved_by tree (unbuilt ask files) done ≡ Ok now
      → plan.outcome ≡ option_map_or script_outcome fault (outcome_of now.state) → (status_of plan.outcome < 2) ⊎ (fault ≡ None) → IsWhole tree ask s plan
  over_by done now None e parts led is h = whole_at done now parts led e is
  over_by done now (Some fault) e parts led is (inl early) = absurd (script_late fault (subst (λ o. status_of o < 2) is early))
  over_by done now (Some fault) e parts led is (inr none) = absurd (cc)

  goes_on : (done : List Command) (command : Command) (rest : List Command) → Build ∷ s.commands ≡ done ++ command ∷ rest → GoesOn command
  goes_on [] command rest e = subst GoesOn (let k : Build ≡ command = cc in k) tt
  goes_on (first ∷ done) command rest e =
      let k : s.commands ≡ done ++ command ∷ rest = cc in
      All-head GoesOn command rest (all_back GoesOn done (command ∷ rest) (subst (All GoesOn) k go))

  ends_at : (r : IsReport full tree ask files s plan) (rest : List Command) → r.rest ≡ rest → EndsAt tree s.ending r.now rest plan.outcome → (status_of plan.outcome ≡ 6) ⊎ ((status_of plan.outcome < 2) ⊎ (s.ending ≡ None) → IsWhole tree ask s plan)
  ends_at r [] is ends = inr (over_by r.done r.now s.ending refl (r.parts ∙ ap (λ z. r.done ++ z) is) r.led ends)
  ends_at r (command ∷ rest) is ends = inl (command_limits tree r.now.state command plan.outcome (goes_on r.done command rest (r.parts ∙ ap (λ z. r.done ++ z) is)) ends)

  ended_whole : IsReport full tree ask files s plan → (status_of plan.outcome ≡ 6) ⊎ ((status_of plan.outcome < 2) ⊎ (s.ending ≡ None) → IsWhole tree ask s plan)
  ended_whole r = ends_at r r.rest refl r.ends

-- ---- builds that have nothing to build

same_by : (n : ℕ) (t : Bool) → (n == n) ≡ t → t ≡ true
same_by n true e = refl
same_by n false e = absurd (eqb-false n n e refl)

same_test : (n : ℕ) → (n == n) ≡ true
same_test n = same_by n (n == n) refl

module _ (s : State) (n : ℕ) where
  abbrev Answers : Step → Type 0
  Answers step = step.answers ≡ Same n ∷ []

  new_answers : (faults : List BuildFault) → Answers (build_step s (build_with s faults)) → ⊥
  new_answers [] h = absurd (cc)
  new_answers (fault ∷ faults) h = absurd (cc)

  same_answers : (same : Option ℕ) → Answers (option_map_or (λ number. record { state = with_refusal s None; answers = Same number ∷ [] }) same (build_step s (fresh_build s))) → same ≡ Some n
  same_answers None h = absurd (new_answers (all_faults s.ask s.files) h)
  same_answers (Some number) h = let k : number ≡ n = cc in ap Some k

  number_by : (r : Revision) (t : Bool) → (r.changes == length s.journal) ≡ t → (if t then Some r.number else None) ≡ Some n → (r.number ≡ n) × (r.changes ≡ length s.journal)
  number_by r true e h = (let k : r.number ≡ n = cc in k, eqb-true r.changes (length s.journal) e)
  number_by r false e h = absurd (cc)

  counted_by : (latest : Option Revision) → s.latest ≡ latest → option_and_then (number_at (length s.journal)) latest ≡ Some n → IsCounted s n
  counted_by None e h = absurd (cc)
  counted_by (Some r) e h = let both = number_by r (r.changes == length s.journal) refl h in record { latest = r; is = e; number = both.0; counts = both.1 }

  is_same : IsCounted s n → same_number s ≡ Some n
  is_same c =
      ap (option_and_then (number_at (length s.journal))) c.is
      ∙ ap (λ t. if t then Some c.latest.number else None) (ap (λ k. k == length s.journal) c.counts ∙ same_test (length s.journal))
      ∙ ap Some c.number

  same_counted : ((asked_step s).answers ≡ Same n ∷ []) ↔ IsCounted s n
  same_counted = (
    λ h. counted_by s.latest refl (same_answers (same_number s) h),
    λ c. ap (λ same. (option_map_or (λ number. record { state = with_refusal s None; answers = Same number ∷ [] }) same (build_step s (fresh_build s))).answers) (is_same c),
  )

-- ---- the whole

replay_facts : (tree : Files) (ask : Ask) (files : Snapshot) (commands : List Command) (now : History) → IsDistinct bytes_eq ask.entries → moved_by tree (unbuilt ask files) commands ≡ Ok now → IsReplay tree ask files commands now
replay_facts tree ask files commands now distinct e =
    let s = sound_after ask files tree commands now e in
    record { accepted = journal_is tree ask files commands now e; fresh = s.fresh; traversals = log_traversals ask files now distinct s.fresh }

module _ (full : Bool) (ask : Ask) (tree : Files) (bytes : List ℕ) (are : AreEntries ask.entries) where
  by_found : (found : Result Snapshot CrawlFault) → crawled tree ≡ found → Replays full ask tree (script_of bytes) (files_plan full tree ask bytes found)
  by_found (Ok files) taken =
      let report = report_of full tree ask files (script_of bytes) in
      let plan = script_plan full tree (unbuilt ask files) (with_command Build (script_of bytes)) in
      let whole = ended_whole full tree ask files taken (script_of bytes) (commands_go_on bytes) plan report in
      record {
        limited = λ fault e. absurd (let k : Ok files ≡ Err fault = sym taken ∙ e in cc);
        limit = λ fault e. absurd (let k : Ok files ≡ Err fault = sym taken ∙ e in cc);
        report = λ others e. subst (λ f. IsReport full tree ask f (script_of bytes) plan) (let k : Ok files ≡ Ok others = sym taken ∙ e in let z : files ≡ others = cc in z) report;
        whole = λ early. elim whole [ inl six ↦ absurd (omega (arith, six, early)) | inr w ↦ w (inl early) ];
        complete = λ over. elim whole [ inl six ↦ inl six | inr w ↦ inr (w (inr over)) ];
        replay = λ fs commands now e. replay_facts tree ask fs commands now are.distinct e;
        numbers = λ before now commands e. numbers_after tree before now commands e;
        same = same_counted;
      }
  by_found (Err fault) met =
      let six = limit_status tree fault met in
      record {
        limited = λ other e. ap (λ f. without_bytes (crawl_outcome f)) (let k : Err fault ≡ Err other = sym met ∙ e in let z : fault ≡ other = cc in z);
        limit = λ other e. six;
        report = λ files e. absurd (let k : Err fault ≡ Ok files = sym met ∙ e in cc);
        whole = λ early. absurd (omega (arith, six, early));
        complete = λ over. inl six;
        replay = λ fs commands now e. replay_facts tree ask fs commands now are.distinct e;
        numbers = λ before now commands e. numbers_after tree before now commands e;
        same = same_counted;
      }

  -- what the plan of a replay says
  pub replays : Replays full ask tree (script_of bytes) (replay_plan full ask tree bytes)
  replays = by_found (crawled tree) refl
