-- How a replay goes on in its script, and how it ends.
use Rattle.std.proofs.Common.{◌≡◌, ◌+◌, ◌≤◌, ◌++◌, ◌∙◌, ℕ, Bool, List, [], ◌∷◌, take, drop, Option, Some, None, Result, Ok, Err, refl, ap, sym, subst, append-nil, arith}
use Rattle.std.specs.Prelude.{OnOk, IfErr}
use Rattle.std.proofs.lemmas.List.Sums.{fold-append}
use Rattle.mt_io.specs.Causes.{Rose}
use Rattle.mt_io.specs.Files.{Files}
use Rattle.mt_io.specs.Seen.{Seen, Stopped as Began, Tells, Wrote}
use Rattle.mt_io.specs.Told.{Reading, read_on}
use Rattle.mt_io.proofs.Seen.{stopped_all, stopped_more, stopped_then, wrote_none, wrote_then}
use Rattle.mt_script.specs.Commands.{GoesOn}
use Rattle.mt_script.specs.Reads.{Finds, Interrupted, IsOf, Progress}
use Rattle.mt_script.specs.Scripts.{Script, script_from, script_of, with_command}
use Rattle.mt_script.specs.Steps.{Found, Stopped, next_of}
use Rattle.mt_script.specs.declared.command.Command.{Command}
use Rattle.mt_script.specs.declared.command.Command.TheVariants.{Build, Rescan}
use Rattle.mt_script.specs.declared.fault.ScriptFault.{ScriptFault}
use Rattle.mt_script.specs.declared.fault.ScriptFault.TheVariants.{Bad, Cut, FileTooLarge, TooManyCommands, Failed, NoMemory}
use Rattle.mt_script.proofs.Scripts.{script_found, script_stopped}
use Rattle.mt_files.specs.Asks.{Ask}
use Rattle.mt_files.specs.Snapshots.{Snapshot}
use Rattle.mt_io.specs.declared.trouble.Trouble.{Trouble}
use Rattle.mt_io.specs.declared.trouble.Trouble.TheVariants as trouble
use Rattle.mt_report.specs.Outcomes.{IsPlanned, script_outcome, status_of, trouble_outcome}
use Rattle.mt_report.specs.declared.outcome.Outcome.{Outcome}
use Rattle.mt_report.specs.declared.outcome.Outcome.TheVariants as outcome
use Rattle.metro_program.specs.States.{State, opened}
use Rattle.metro_program.specs.Builds.{Answer, Step, asked_step}
use Rattle.metro_program.specs.Commands.{moved}
use Rattle.metro_program.specs.Lent.{Lent}
use Rattle.metro_program.specs.Plans.{Plan}
use Rattle.metro_program.specs.Progress.{Ends, Gave, Halted, HasDone, HasLines, IsBegun, IsOwn, IsStart, Keeps, Leads, Start, Went, with_commands}
use Rattle.metro_program.specs.Replay.{History, ended, files_plan, led, lines_after, lines_of, replayed, script_plan, then_moved, unbuilt}
use Rattle.metro_program.proofs.IsReport.{plan_after, replayed_step}
use Rattle.metro_program.proofs.LinesOf.{led_after, lines_step}
use Rattle.metro_program.proofs.Moves.{no_memory, no_read, no_write}
use Rattle.metro_program.proofs.HasRead as reads
use Rattle.metro_program.proofs.HasRead.{first_read, goes_read}
use Rattle.metro_program.proofs.Readings.{found_read, gave_on}
use Rattle.metro_program.proofs.Replayed.{found_plan, more_lines, through}

-- a count that rose later rose from the start
pub rose_from : (a b c : ℕ) → a ≤ b → Rose b c → Rose a c
rose_from a b c h r = grind (arith)

-- ---- keeping to a plan

-- an outcome of the plan, with its bytes
keeps_plan :
    (full : Bool) (t : History) (wanted found : Outcome) (before after : Seen (List ℕ)) → (IsPlanned found → found ≡ wanted) → Wrote before after (lines_of full t.answers) → Keeps (ended full t wanted) found before after
keeps_plan full t wanted found before after same wrote = record { planned = same; written = λ p. wrote; begun = stopped_all before after (lines_of full t.answers) wrote }

-- a fault, after a prefix of the plan's bytes
pub keeps_fault : (plan : Plan) (found : Outcome) (before after : Seen (List ℕ)) → (IsPlanned found → ⊥) → Began before after plan.bytes → Keeps plan found before after
keeps_fault plan found before after fault begun = record { planned = λ p. absurd (fault p); written = λ p. absurd (fault p); begun = begun }

-- a fault, after the lines of the answers so far
pub keeps_lines :
    (full : Bool) (tree : Files) (fault : Option ScriptFault) (t : History) (commands : List Command) (found : Outcome) (before after : Seen (List ℕ)) → (IsPlanned found → ⊥) → Wrote before after (lines_of full t.answers)
    → Keeps (replayed full tree fault t commands) found before after
keeps_lines full tree fault t commands found before after unplanned wrote =
    let more = more_lines full tree fault t commands in
    keeps_fault (replayed full tree fault t commands) found before after unplanned
    (subst (Began before after) (sym more.1) (stopped_more before after (lines_of full t.answers) more.0 (stopped_all before after (lines_of full t.answers) wrote)))

-- a fault in the lines of a step
pub keeps_step :
    (full : Bool) (tree : Files) (fault : Option ScriptFault) (t : History) (step : Step) (commands : List Command) (found : Outcome) (before now after : Seen (List ℕ)) → (IsPlanned found → ⊥)
    → lines_of full (t.answers ++ step.answers) ≡ lines_of full t.answers ++ lines_after full t.state.latest step.answers → Wrote before now (lines_of full t.answers) → Began now after (lines_after full t.state.latest step.answers)
    → Keeps (replayed full tree fault (record { state = step.state; answers = t.answers ++ step.answers }) commands) found before after
keeps_step full tree fault t step commands found before now after unplanned split wrote begun =
    let u : History = record { state = step.state; answers = t.answers ++ step.answers } in
    let more = more_lines full tree fault u commands in
    keeps_fault (replayed full tree fault u commands) found before after unplanned
    (subst (Began before after) (sym (more.1 ∙ ap (λ z. z ++ more.0) split))
    (stopped_more before after (lines_of full t.answers ++ lines_after full t.state.latest step.answers) more.0
    (stopped_then before now after (lines_of full t.answers) (lines_after full t.state.latest step.answers) wrote begun)))

-- the plan after a command that leads here
abbrev after_of : Bool → Files → Option ScriptFault → History → List Command → Result Step Outcome → Plan
after_of full tree fault t commands (Ok step) = replayed full tree fault (record { state = step.state; answers = t.answers ++ step.answers }) commands
after_of full tree fault t commands (Err wanted) = ended full t wanted

after_led :
    (full : Bool) (tree : Files) (fault : Option ScriptFault) (t : History) (commands : List Command) (m : Result Step Outcome)
    → plan_after full tree fault t commands (led t.answers m) ≡ after_of full tree fault t commands m
after_led full tree fault t commands (Ok step) = refl
after_led full tree fault t commands (Err wanted) = refl

-- a command that ended the run
keeps_halted :
    (full : Bool) (tree : Files) (fault : Option ScriptFault) (t : History) (commands : List Command) (m : Result Step Outcome) (found : Outcome) (before now after : Seen (List ℕ))
    → ((answers : List Answer) → lines_of full (t.answers ++ answers) ≡ lines_of full t.answers ++ lines_after full t.state.latest answers) → Wrote before now (lines_of full t.answers) → Halted full m t.state found now after
    → Keeps (after_of full tree fault t commands m) found before after
keeps_halted full tree fault t commands (Ok step) found before now after split wrote h = keeps_step full tree fault t step commands found before now after h.0 (split step.answers) wrote h.1
keeps_halted full tree fault t commands (Err wanted) found before now after split wrote h =
    keeps_plan full t wanted found before after h.0 (subst (Wrote before after) (append-nil (lines_of full t.answers)) (wrote_then before now after (lines_of full t.answers) [] wrote h.1))

-- ---- on the way

module _ (start : Start) (s : State) (reader : Progress) (script : Option Reading) (out : Seen (List ℕ)) (d : HasDone start s reader script out) where
  abbrev pub now : Reading
  now = reads.now start.reading reader script d.has

  gave_now : Gave start.reading (Some now) d.has.read
  gave_now = reads.gave_now start.reading reader script d.has

  -- the script of the start: the commands that were done, and that of what is held and left
  whole_script : script_of start.reading.left ≡ with_commands d.has.done (script_from reader.count (reader.held ++ now.left))
  whole_script = reads.whole_script start.reading reader script d.has

  module _ (tree : Files) (told : Tells start.lent.folder tree) where
    abbrev leads : Leads tree start (Build ∷ d.has.done) s out
    leads = d.leads tree told

    abbrev here : History
    here = record { state = s; answers = leads.answers }

    split : (answers : List Answer) → lines_of start.full (here.answers ++ answers) ≡ lines_of start.full here.answers ++ lines_after start.full s.latest answers
    split answers = lines_step start.full here answers (led_after tree (unbuilt start.ask start.files) here (Build ∷ d.has.done) refl leads.led)

    -- the plan of the start is that of what is held and left
    plan_here : files_plan start.full tree start.ask start.reading.left (Ok start.files) ≡ script_plan start.full tree here (script_from reader.count (reader.held ++ now.left))
    plan_here =
        let rest = script_from reader.count (reader.held ++ now.left) in
        ap (λ sc. script_plan start.full tree (unbuilt start.ask start.files) (with_command Build sc)) whole_script
        ∙ through start.full tree rest.ending (Build ∷ d.has.done) rest.commands (unbuilt start.ask start.files) here leads.led

    keeps_here : (found : Outcome) (after : Seen (List ℕ)) → Keeps (script_plan start.full tree here (script_from reader.count (reader.held ++ now.left))) found start.lent.out after → Keeps (files_plan start.full tree start.ask start.reading.left (Ok start.files)) found start.lent.out after
    keeps_here found after k = subst (λ plan. Keeps plan found start.lent.out after) (sym plan_here) k

    fault_keeps : (found : Outcome) → (IsPlanned found → ⊥) → Keeps (files_plan start.full tree start.ask start.reading.left (Ok start.files)) found start.lent.out out
    fault_keeps found unplanned =
        let rest = script_from reader.count (reader.held ++ now.left) in
        keeps_here found out (keeps_lines start.full tree rest.ending here rest.commands found start.lent.out out unplanned leads.wrote)

    stop_keeps : (fault : ScriptFault) → next_of reader.count (reader.held ++ now.left) ≡ Stopped fault → Keeps (files_plan start.full tree start.ask start.reading.left (Ok start.files)) (script_outcome fault) start.lent.out out
    stop_keeps fault stopped =
        keeps_here (script_outcome fault) out
        (subst (λ sc. Keeps (script_plan start.full tree here sc) (script_outcome fault) start.lent.out out) (sym (script_stopped reader.count (reader.held ++ now.left) fault stopped))
        (keeps_plan start.full here (script_outcome fault) (script_outcome fault) start.lent.out out (λ p. refl) leads.wrote))

    halt_keeps :
        (command : Command) (rest : List ℕ) (found : Outcome) (after : Seen (List ℕ)) → next_of reader.count (reader.held ++ now.left) ≡ Found command rest → Halted start.full (moved tree s command) s found out after
        → Keeps (files_plan start.full tree start.ask start.reading.left (Ok start.files)) found start.lent.out after
    halt_keeps command rest found after next halted =
        let sc = script_from (reader.count + 1) rest in
        keeps_here found after
        (subst (λ plan. Keeps plan found start.lent.out after) (sym (found_plan start.full tree here reader.count (reader.held ++ now.left) command rest next ∙ after_led start.full tree sc.ending here sc.commands (moved tree s command)))
        (keeps_halted start.full tree sc.ending here sc.commands (moved tree s command) found start.lent.out out after split leads.wrote halted))

    -- the lines where a read of the script failed
    read_lines : (lent : Lent) (k : ℕ) (fault : ScriptFault) → lent.script.told ≡ Some (read_on k now) → next_of reader.count (reader.held ++ take k now.left) ≡ Stopped fault → lent.out ≡ out
        → HasLines start.full tree start.ask start.files start.reading start.lent lent
    read_lines lent k fault on cut same =
        let whole : script_of (d.has.read ++ take k now.left) ≡ with_commands d.has.done (record { commands = []; ending = Some fault }) = d.has.left (take k now.left) ∙ ap (with_commands d.has.done) (script_stopped reader.count (reader.held ++ take k now.left) fault cut) in
        record {
          read = d.has.read ++ take k now.left;
          gave = gave_on start.reading now lent.script.told d.has.read k gave_now on;
          done = Build ∷ d.has.done;
          rest = [];
          parts = ap (λ (sc : Script). Build ∷ sc.commands) whole;
          now = here;
          led = leads.led;
          wrote = subst (λ o. Wrote start.lent.out o (lines_of start.full here.answers)) (sym same) leads.wrote;
          stopped = tt;
        }

    -- the lines where a rescan failed
    rescan_lines : (lent : Lent) (k : ℕ) (held : List ℕ) → lent.script.told ≡ Some (read_on k now) → next_of reader.count (reader.held ++ now.left) ≡ Found Rescan (held ++ drop k now.left) → lent.out ≡ out
        → Rose start.lent.folder.faults lent.folder.faults → HasLines start.full tree start.ask start.files start.reading start.lent lent
    rescan_lines lent k held on found same rose =
        let rest = script_from (reader.count + 1) (held ++ []) in
        let at : next_of reader.count (reader.held ++ take k now.left) ≡ Found Rescan (held ++ []) = ap (λ z. next_of reader.count (reader.held ++ z)) (sym (append-nil (take k now.left))) ∙ found_read reader.count k reader.held held now.left Rescan found [] in
        let whole : script_of (d.has.read ++ take k now.left) ≡ with_commands d.has.done (with_command Rescan rest) = d.has.left (take k now.left) ∙ ap (with_commands d.has.done) (script_found reader.count (reader.held ++ take k now.left) Rescan (held ++ []) tt at) in
        record {
          read = d.has.read ++ take k now.left;
          gave = gave_on start.reading now lent.script.told d.has.read k gave_now on;
          done = Build ∷ d.has.done;
          rest = Rescan ∷ rest.commands;
          parts = ap (λ (sc : Script). Build ∷ sc.commands) whole;
          now = here;
          led = leads.led;
          wrote = subst (λ o. Wrote start.lent.out o (lines_of start.full here.answers)) (sym same) leads.wrote;
          stopped = rose;
        }

  -- ---- how a turn ends the run

  stop_ends : (fault : ScriptFault) (lent : Lent) → lent.out ≡ out → (script_outcome fault ≡ outcome.ReadFailed → ⊥) → next_of reader.count (reader.held ++ now.left) ≡ Stopped fault → Ends start (script_outcome fault) lent
  stop_ends fault lent same own stopped = record {
    keeps = λ tree told. subst (Keeps (files_plan start.full tree start.ask start.reading.left (Ok start.files)) (script_outcome fault) start.lent.out) (sym same) (stop_keeps tree told fault stopped);
    lines = λ e. absurd (own e);
  }

  -- memory ran out
  pub memory_ends : (lent : Lent) → lent.out ≡ out → Ends start outcome.NoMemory lent
  memory_ends lent same = record {
    keeps = λ tree told. subst (Keeps (files_plan start.full tree start.ask start.reading.left (Ok start.files)) outcome.NoMemory start.lent.out) (sym same) (fault_keeps tree told outcome.NoMemory no_memory);
    lines = λ e. absurd (let z : outcome.NoMemory ≡ outcome.ReadFailed = e in cc);
  }

  -- a read of the script failed
  read_ends : (lent : Lent) → lent.out ≡ out → Interrupted (next_of reader.count) (reader.count + 1) now lent.script.told reader.held → Ends start outcome.ReadFailed lent
  read_ends lent same i = record {
    keeps = λ tree told. subst (Keeps (files_plan start.full tree start.ask start.reading.left (Ok start.files)) outcome.ReadFailed start.lent.out) (sym same) (fault_keeps tree told outcome.ReadFailed no_read);
    lines = λ e tree told. read_lines tree told lent i.count _ i.now i.cut same;
  }

  -- no command follows
  pub turn_stops :
      (fault : ScriptFault) (lent : Lent) → lent.out ≡ out → IsOf fault (next_of reader.count (reader.held ++ now.left)) → (fault ≡ Failed → Interrupted (next_of reader.count) (reader.count + 1) now lent.script.told reader.held)
      → Ends start (script_outcome fault) lent
  turn_stops (Bad command) lent same of cut = stop_ends (Bad command) lent same (λ e. let z : outcome.BadCommand command ≡ outcome.ReadFailed = e in cc) of
  turn_stops (Cut command) lent same of cut = stop_ends (Cut command) lent same (λ e. let z : outcome.CutCommand command ≡ outcome.ReadFailed = e in cc) of
  turn_stops (FileTooLarge path size) lent same of cut = stop_ends (FileTooLarge path size) lent same (λ e. cc) of
  turn_stops TooManyCommands lent same of cut = stop_ends TooManyCommands lent same (λ e. cc) of
  turn_stops Failed lent same of cut = read_ends lent same (cut refl)
  turn_stops NoMemory lent same of cut = memory_ends lent same

  -- a command ended the run
  pub turn_halts :
      (command : Command) (held : List ℕ) (found : Outcome) (lent : Lent) → Finds (next_of reader.count) now lent.script.told reader.held held command
      → ((tree : Files) → Tells start.lent.folder tree → Halted start.full (moved tree s command) s found out lent.out)
      → (found ≡ outcome.ReadFailed → (command ≡ Rescan) × Rose start.lent.folder.faults lent.folder.faults × (lent.out ≡ out))
      → Ends start found lent
  turn_halts command held found lent f halted failed = record {
    keeps = λ tree told. halt_keeps tree told command (held ++ drop f.count now.left) found lent.out f.found (halted tree told);
    lines = λ e tree told. let r = failed e in rescan_lines tree told lent f.count held f.now (f.found ∙ ap (λ c. Found c (held ++ drop f.count now.left)) r.0) r.2 r.1;
  }

  -- ---- how it leads on

  went_leads : (tree : Files) (told : Tells start.lent.folder tree) (command : Command) (m : Result Step Outcome) → moved tree s command ≡ m → (s' : State) (after : Seen (List ℕ)) → Went start.full m s s' out after → Leads tree start (Build ∷ (d.has.done ++ command ∷ [])) s' after
  went_leads tree told command (Ok step) e s' after went =
      let l = leads tree told in
      record {
        answers = l.answers ++ step.answers;
        led =
            fold-append (then_moved tree) (Ok (unbuilt start.ask start.files)) (Build ∷ d.has.done) (command ∷ [])
            ∙ ap (λ m. then_moved tree m command) l.led
            ∙ ap (led l.answers) e
            ∙ ap (λ x. Ok (record { state = x; answers = l.answers ++ step.answers })) (sym went.0);
        wrote = subst (Wrote start.lent.out after) (sym (split tree told step.answers)) (wrote_then start.lent.out out after (lines_of start.full l.answers) (lines_after start.full s.latest step.answers) l.wrote went.1);
      }
  went_leads tree told command (Err outcome) e s' after went = absurd went

  -- a command led on
  pub turn_goes :
      (command : Command) (s' : State) (reader' : Progress) (told : Option Reading) (after : Seen (List ℕ)) → GoesOn command → Finds (next_of reader.count) now told reader.held reader'.held command → reader'.count ≡ reader.count + 1
      → ((tree : Files) → Tells start.lent.folder tree → Went start.full (moved tree s command) s s' out after) → HasDone start s' reader' told after
  unfolding goes_read
  turn_goes command s' reader' told after on f count went = record {
    has = goes_read start.reading reader script d.has command reader' told on f count;
    leads = λ tree tells. went_leads tree tells command (moved tree s command) refl s' after (went tree tells);
  }

-- at first nothing was read
pub first_done : (start : Start) (s : State) (reader : Progress) (script : Option Reading) (out : Seen (List ℕ)) → script ≡ Some start.reading → reader.held ≡ [] → reader.count ≡ 0
    → ((tree : Files) → Tells start.lent.folder tree → Leads tree start (Build ∷ []) s out) → HasDone start s reader script out
unfolding first_read
first_done start s reader script out told held count leads = record { has = first_read start.reading reader script told held count; leads = leads }

-- ---- a turn, by its answer

module _ (start : Start) (s : State) (reader : Progress) (script : Option Reading) (out : Seen (List ℕ)) (d : HasDone start s reader script out) where
  pub turn_on :
      (full : Bool) (r : Result (Unit {0}) Outcome) (command : Command) (s' : State) (reader' : Progress) (told : Option Reading) (later : Seen (List ℕ)) → start.full ≡ full
      → ((reading : Reading) → script ≡ Some reading → Finds (next_of reader.count) reading told reader.held reader'.held command) → reader'.count ≡ reader.count + 1 → OnOk r (GoesOn command)
      → ((tree : Files) → Tells start.lent.folder tree → OnOk r (Went full (moved tree s command) s s' out later)) → OnOk r (HasDone start s' reader' told later)
  turn_on full (Ok done) command s' reader' told later whole finds count goes went =
      turn_goes start s reader script out d command s' reader' told later goes (finds (now start s reader script out d) d.has.gave.now) count
      (λ tree tells. subst (λ x. Went x (moved tree s command) s s' out later) (sym whole) (went tree tells))
  turn_on full (Err found) command s' reader' told later whole finds count goes went = tt

  pub turn_err :
      (full : Bool) (r : Result (Unit {0}) Outcome) (command : Command) (held : List ℕ) (folder : ℕ) (lent : Lent) → start.full ≡ full
      → ((reading : Reading) → script ≡ Some reading → Finds (next_of reader.count) reading lent.script.told reader.held held command) → start.lent.folder.faults ≤ folder
      → ((tree : Files) → Tells start.lent.folder tree → IfErr r (λ found. Halted full (moved tree s command) s found out lent.out))
      → IfErr r (λ found. found ≡ outcome.ReadFailed → (command ≡ Rescan) × Rose folder lent.folder.faults × (lent.out ≡ out)) → IfErr r (λ found. Ends start found lent)
  turn_err full (Ok done) command held folder lent whole finds faults halted failed = tt
  turn_err full (Err found) command held folder lent whole finds faults halted failed =
      turn_halts start s reader script out d command held found lent (finds (now start s reader script out d) d.has.gave.now)
      (λ tree tells. subst (λ x. Halted x (moved tree s command) s found out lent.out) (sym whole) (halted tree tells))
      (λ e. let f = failed e in (f.0, rose_from start.lent.folder.faults folder lent.folder.faults faults f.1, f.2))

  pub turn_stopped :
      (fault : ScriptFault) (found : Outcome) (lent : Lent) → found ≡ script_outcome fault → lent.out ≡ out → ((reading : Reading) → script ≡ Some reading → IsOf fault (next_of reader.count (reader.held ++ reading.left)))
      → ((reading : Reading) → script ≡ Some reading → fault ≡ Failed → Interrupted (next_of reader.count) (reader.count + 1) reading lent.script.told reader.held) → Ends start found lent
  turn_stopped fault found lent is same of cut =
      let r = now start s reader script out d in
      subst (λ x. Ends start x lent) (sym is) (turn_stops start s reader script out d fault lent same (of r d.has.gave.now) (λ e. cut r d.has.gave.now e))

-- ---- from the first build on

-- the first build is made, and its lines are written
pub opened_begun :
    (start : Start) (full : Bool) (ask : Ask) (files : Snapshot) (lent : Lent) (s : State) (out : Seen (List ℕ)) → IsStart start full ask files lent → s ≡ (asked_step (opened ask files)).state
    → Wrote lent.out out (lines_after full None (asked_step (opened ask files)).answers) → IsBegun start full s (record { folder = lent.folder; script = lent.script; out = out })
opened_begun start full ask files lent s out i is wrote = record {
  whole = i.whole;
  folder = i.folder;
  faults = i.faults;
  script = i.script;
  leads = λ tree told. record {
    answers = (asked_step (opened start.ask start.files)).answers;
    led = ap (λ x. Ok (record { state = x; answers = (asked_step (opened start.ask start.files)).answers })) (ap (λ a. (asked_step (opened a start.files)).state) i.asks ∙ ap (λ f. (asked_step (opened ask f)).state) i.takes ∙ sym is);
    wrote = subst (λ o. Wrote o out (lines_of start.full (asked_step (opened start.ask start.files)).answers)) (sym i.out)
        (subst (λ x. Wrote lent.out out (lines_of x (asked_step (opened start.ask start.files)).answers)) (sym i.whole)
        (subst (λ a. Wrote lent.out out (lines_of full (asked_step (opened a start.files)).answers)) (sym i.asks) (subst (λ f. Wrote lent.out out (lines_of full (asked_step (opened ask f)).answers)) (sym i.takes) wrote)));
  };
}

trouble_unplanned : (trouble : Trouble) → IsPlanned (trouble_outcome trouble) → ⊥
trouble_unplanned trouble.Failed h = no_write h
trouble_unplanned trouble.NoMemory h = no_memory h

trouble_unread : (trouble : Trouble) → trouble_outcome trouble ≡ outcome.ReadFailed → ⊥
trouble_unread trouble.Failed h = cc
trouble_unread trouble.NoMemory h = cc

-- the first build met a trouble
pub opened_fault :
    (start : Start) (full : Bool) (ask : Ask) (files : Snapshot) (lent : Lent) (trouble : Trouble) (found : Outcome) (after : Lent) → IsStart start full ask files lent → found ≡ trouble_outcome trouble
    → Began lent.out after.out (lines_after full None (asked_step (opened ask files)).answers) → Ends start found after
opened_fault start full ask files lent trouble found after i is begun =
    subst (λ x. Ends start x after) (sym is)
    (record {
      keeps = λ tree told.
          let step = asked_step (opened start.ask start.files) in
          let script = with_command Build (script_of start.reading.left) in
          let at : Began start.lent.out after.out (lines_after start.full None step.answers) =
          subst (λ o. Began o after.out (lines_after start.full None step.answers)) (sym i.out)
          (subst (λ x. Began lent.out after.out (lines_after x None step.answers)) (sym i.whole)
          (subst (λ a. Began lent.out after.out (lines_after full None (asked_step (opened a start.files)).answers)) (sym i.asks) (subst (λ f. Began lent.out after.out (lines_after full None (asked_step (opened ask f)).answers)) (sym i.takes) begun))) in
          subst (λ plan. Keeps plan (trouble_outcome trouble) start.lent.out after.out) (sym (replayed_step start.full tree script.ending (unbuilt start.ask start.files) Build (script_of start.reading.left).commands))
          (keeps_step start.full tree script.ending (unbuilt start.ask start.files) step (script_of start.reading.left).commands (trouble_outcome trouble) start.lent.out start.lent.out after.out (trouble_unplanned trouble) refl (wrote_none start.lent.out) at);
      lines = λ e. absurd (trouble_unread trouble e);
    })

-- ---- no outcome is that of a bad word

pub own_word : (r : Result (Unit {0}) Outcome) → IfErr r IsOwn → IfErr r (λ found. status_of found ≡ 2 → ⊥)
own_word (Ok done) h = h
own_word (Err found) h = h.0

pub script_word : (fault : ScriptFault) → status_of (script_outcome fault) ≡ 2 → ⊥
script_word (Bad command) h = let z : 7 ≡ 2 = h in omega (arith, z)
script_word (Cut command) h = let z : 7 ≡ 2 = h in omega (arith, z)
script_word (FileTooLarge path size) h = let z : 6 ≡ 2 = h in omega (arith, z)
script_word TooManyCommands h = let z : 6 ≡ 2 = h in omega (arith, z)
script_word Failed h = let z : 3 ≡ 2 = h in omega (arith, z)
script_word NoMemory h = let z : 5 ≡ 2 = h in omega (arith, z)

pub trouble_word : (t : Trouble) → status_of (trouble_outcome t) ≡ 2 → ⊥
trouble_word trouble.Failed h = let z : 4 ≡ 2 = h in omega (arith, z)
trouble_word trouble.NoMemory h = let z : 5 ≡ 2 = h in omega (arith, z)

pub memory_word : status_of outcome.NoMemory ≡ 2 → ⊥
memory_word h = let z : 5 ≡ 2 = h in omega (arith, z)
