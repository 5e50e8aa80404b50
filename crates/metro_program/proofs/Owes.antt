-- What a run owes, by what its parts did.
use Rattle.std.proofs.Common.{inl, inr, ◌⊎◌, ◌≡◌, ◌≤◌, ◌∙◌, ℕ, Bool, true, false, List, [], ◌∷◌, Option, Some, None, Result, Ok, Err, refl, ap, sym, subst, arith}
use Rattle.std.specs.Prelude.{IsErrOf}
use Rattle.std.specs.Option.{option_map}
use Rattle.mt_io.specs.Causes.{Rose}
use Rattle.mt_io.specs.Files.{Files}
use Rattle.mt_io.specs.Seen.{Looks, Seen, Tells, Wrote}
use Rattle.mt_io.specs.Told.{Reading}
use Rattle.mt_io.proofs.Seen.{stopped_none, wrote_none}
use Rattle.mt_files.specs.Asks.{Ask}
use Rattle.mt_files.specs.Crawl.{crawled}
use Rattle.mt_files.specs.Snapshots.{Snapshot}
use Rattle.mt_files.specs.declared.fault.CrawlFault.{CrawlFault}
use Rattle.mt_files.specs.declared.fault.CrawlFault.TheVariants as crawl
use Rattle.mt_script.specs.Scripts.{script_of}
use Rattle.mt_script.specs.declared.command.Command.TheVariants.{Build}
use Rattle.mt_report.specs.Outcomes.{IsBadWord, IsPlanned, crawl_outcome, line_of, status_of}
use Rattle.mt_report.specs.declared.outcome.Outcome.{Outcome}
use Rattle.mt_report.specs.declared.outcome.Outcome.TheVariants as outcome
use Rattle.mt_request.specs.declared.growth.Action.{Action}
use Rattle.mt_request.specs.declared.growth.Action.TheVariants.{Replay}
use Rattle.mt_request.specs.declared.request.Request.{Request}
use Rattle.mt_request.specs.declared.fault.WordFault.{WordFault}
use Rattle.mt_request.specs.declared.fault.WordFault.TheVariants as word
use Rattle.metro_program.specs.Lent.{Lent, Stood}
use Rattle.metro_program.specs.Owes.{Comes, ComesTo, Given, HasCauses, Owes, Runs, Worked}
use Rattle.metro_program.specs.Plans.{Plan, taken_plan, without_bytes}
use Rattle.metro_program.specs.Progress.{Ends, Gave, HasLines, HasReason, IsOwn, IsStart, Keeps, OnlyWrites, ReadsScript, Start}
use Rattle.metro_program.specs.Replay.{files_plan, replay_plan, unbuilt}
use Rattle.metro_program.specs.Still.{action_plan, action_reads, word_outcome, words_plan, words_read}
use Rattle.metro_program.proofs.HasDone.{keeps_fault, rose_from}
use Rattle.metro_program.proofs.HasRead.{memory_reason}
use Rattle.metro_program.proofs.Moves.{no_memory, no_read}
use Rattle.metro_program.proofs.Readings.{gave_none}

-- ---- a folder without a snapshot

-- what a crawl answers over this tree
abbrev pub Crawls : Files → Result Snapshot CrawlFault → Type 0
Crawls tree r = (r ≡ Err crawl.NoMemory) ⊎ (r ≡ Err crawl.Failed) ⊎ (r ≡ crawled tree)

-- the same of a refusal
abbrev pub CrawlAnswers : Files → CrawlFault → Type 0
CrawlAnswers tree fault = Crawls tree (Err fault)

-- a snapshot is that of the tree
pub crawl_takes : (tree : Files) (files : Snapshot) → Crawls tree (Ok files) → crawled tree ≡ Ok files
crawl_takes tree files (inl h) = absurd (cc)
crawl_takes tree files (inr (inl h)) = absurd (cc)
crawl_takes tree files (inr (inr h)) = sym h

pub unsnapped : (plan : Result Snapshot CrawlFault → Plan) → ((fault : CrawlFault) → plan (Err fault) ≡ without_bytes (crawl_outcome fault)) → (tree : Files) (fault : CrawlFault) (out : Seen (List ℕ)) → CrawlAnswers tree fault → Keeps (plan (crawled tree)) (crawl_outcome fault) out out
unsnapped plan is tree fault out (inl h) =
    let none : fault ≡ crawl.NoMemory = cc in
    subst (λ f. Keeps (plan (crawled tree)) (crawl_outcome f) out out) (sym none) (keeps_fault (plan (crawled tree)) outcome.NoMemory out out no_memory (stopped_none out (plan (crawled tree)).bytes))
unsnapped plan is tree fault out (inr (inl h)) =
    let failed : fault ≡ crawl.Failed = cc in
    subst (λ f. Keeps (plan (crawled tree)) (crawl_outcome f) out out) (sym failed) (keeps_fault (plan (crawled tree)) outcome.ReadFailed out out no_read (stopped_none out (plan (crawled tree)).bytes))
unsnapped plan is tree fault out (inr (inr h)) =
    subst (λ found. Keeps (plan found) (crawl_outcome fault) out out) h
    (subst (λ p. Keeps p (crawl_outcome fault) out out) (sym (is fault)) (record { planned = λ p. refl; written = λ p. wrote_none out; begun = stopped_none out [] }))

crawl_failed : (fault : CrawlFault) → crawl_outcome fault ≡ outcome.ReadFailed → fault ≡ crawl.Failed
crawl_failed crawl.Failed h = refl
crawl_failed (crawl.FileTooLarge path size) h = absurd (cc)
crawl_failed crawl.TooManyFiles h = absurd (cc)
crawl_failed crawl.TooManyBytes h = absurd (cc)
crawl_failed crawl.NoMemory h = absurd (cc)

crawl_writes : (fault : CrawlFault) → crawl_outcome fault ≡ outcome.WriteFailed → ⊥
crawl_writes crawl.Failed h = cc
crawl_writes (crawl.FileTooLarge path size) h = cc
crawl_writes crawl.TooManyFiles h = cc
crawl_writes crawl.TooManyBytes h = cc
crawl_writes crawl.NoMemory h = cc

pub crawl_own : (fault : CrawlFault) → IsOwn (crawl_outcome fault)
crawl_own crawl.Failed = (λ (h : 3 ≡ 2). omega (arith, h), λ (h : 3 ≡ 7). omega (arith, h))
crawl_own (crawl.FileTooLarge path size) = (λ (h : 6 ≡ 2). omega (arith, h), λ (h : 6 ≡ 7). omega (arith, h))
crawl_own crawl.TooManyFiles = (λ (h : 6 ≡ 2). omega (arith, h), λ (h : 6 ≡ 7). omega (arith, h))
crawl_own crawl.TooManyBytes = (λ (h : 6 ≡ 2). omega (arith, h), λ (h : 6 ≡ 7). omega (arith, h))
crawl_own crawl.NoMemory = (λ (h : 5 ≡ 2). omega (arith, h), λ (h : 5 ≡ 7). omega (arith, h))

module _ (before after : Lent) (fault : CrawlFault) (found : Outcome) (is : found ≡ crawl_outcome fault) (crawls : (tree : Files) → Tells before.folder tree → CrawlAnswers tree fault) (looks : Looks before.folder after.folder (fault ≡ crawl.Failed)) (script : after.script ≡ before.script) (out : after.out ≡ before.out) where
  pub crawl_owes : (meaning : Files → List ℕ → Plan) (reads : Bool) (plan : Files → List ℕ → Result Snapshot CrawlFault → Plan)
      → ((tree : Files) (bytes : List ℕ) (f : CrawlFault) → plan tree bytes (Err f) ≡ without_bytes (crawl_outcome f)) → ((tree : Files) (bytes : List ℕ) → meaning tree bytes ≡ plan tree bytes (crawled tree)) → Owes meaning reads before after found
  crawl_owes meaning reads plan errs means =
      let keeps : (tree : Files) (bytes : List ℕ) → Given reads before tree bytes → Keeps (meaning tree bytes) found before.out after.out = λ tree bytes given.
      subst (λ p. Keeps p found before.out after.out) (sym (means tree bytes))
      (subst (λ o. Keeps (plan tree bytes (crawled tree)) found before.out o) (sym out)
      (subst (λ x. Keeps (plan tree bytes (crawled tree)) x before.out before.out) (sym is) (unsnapped (plan tree bytes) (errs tree bytes) tree fault before.out (crawls tree given.folder)))) in
      record {
        planned = λ tree bytes given. (keeps tree bytes given).planned;
        written = λ tree bytes given. (keeps tree bytes given).written;
        begun = λ tree bytes given. (keeps tree bytes given).begun;
      }

  pub crawl_causes : (reads : Bool) → HasCauses reads before after found
  crawl_causes reads = record {
    read = λ e. inl (looks.cause (crawl_failed fault (sym is ∙ e)));
    write = λ e. absurd (crawl_writes fault (sym is ∙ e));
    folder = looks.same;
    apart = (looks.apart, ap (λ x. x.beside) script, ap (λ x. x.beside) out);
  }

  -- of a command that reads the folder once and no script
  pub untaken_owes : (plan : Snapshot → Plan) → Owes (λ tree bytes. taken_plan plan (crawled tree)) false before after found
  untaken_owes plan = crawl_owes (λ tree bytes. taken_plan plan (crawled tree)) false (λ tree bytes. taken_plan plan) (λ tree bytes f. refl) (λ tree bytes. refl)

  pub crawl_reads : (full : Bool) (ask : Ask) → ReadsScript full ask before after found
  crawl_reads full ask = record {
    lines = λ e tree files reading tells taken tellsS. record {
      read = [];
      gave = subst (λ told. Gave reading told []) (sym (ap (λ x. x.told) script ∙ tellsS)) (gave_none reading);
      done = [];
      rest = Build ∷ (script_of []).commands;
      parts = refl;
      now = unbuilt ask files;
      led = refl;
      wrote = subst (λ o. Wrote before.out o []) (sym out) (wrote_none before.out);
      stopped = (refl, looks.cause (crawl_failed fault (sym is ∙ e)));
    };
  }

pub crawl_reason : (fault : CrawlFault) (found : Outcome) → found ≡ crawl_outcome fault → (reading : Reading) → HasReason reading found
crawl_reason fault found is reading = record { cut = λ seven. absurd ((crawl_own fault).1 (sym (ap status_of is) ∙ seven)) }

-- what a crawl that was refused looked at
pub crawl_looks : (before after : Seen Files) (fault : CrawlFault) (r : Result Snapshot CrawlFault) → r ≡ Err fault → Looks before after (IsErrOf r crawl.Failed) → Looks before after (fault ≡ crawl.Failed)
crawl_looks before after fault r is looks = record { same = looks.same; cause = λ e. looks.cause (is ∙ ap Err e); later = looks.later; apart = looks.apart }

-- ---- a replay

no_left : (told : Option Reading) (bytes : List ℕ) → option_map (λ (r : Reading). r.left) told ≡ Some bytes → (reading : Reading) × (told ≡ Some reading) × (reading.left ≡ bytes)
no_left None bytes h = absurd (cc)
no_left (Some reading) bytes h = (reading, refl, let k : reading.left ≡ bytes = cc in k)

module _ (full : Bool) (ask : Ask) (files : Snapshot) (before between after : Lent) (found : Outcome) (takes : (tree : Files) → Tells before.folder tree → crawled tree ≡ Ok files)
    (same : between.folder.told ≡ before.folder.told) (later : before.folder.faults ≤ between.folder.faults) (script : between.script ≡ before.script) (out : between.out ≡ before.out)
    (ends : (start : Start) → IsStart start full ask files between → Ends start found after) where
  abbrev start_of : Reading → Start
  start_of reading = record { full = full; ask = ask; files = files; lent = before; reading = reading }

  is_start : (reading : Reading) → Tells before.script reading → IsStart (start_of reading) full ask files between
  is_start reading tells = record { whole = refl; asks = refl; takes = refl; folder = same; faults = later; script = ap (λ x. x.told) script ∙ tells; out = sym out }

  keeps_from : (tree : Files) (bytes : List ℕ) → Given true before tree bytes → Keeps (replay_plan full ask tree bytes) found before.out after.out
  keeps_from tree bytes given =
      let r = no_left before.script.told bytes (given.script refl) in
      let k = (ends (start_of r.0) (is_start r.0 r.1)).keeps tree given.folder in
      subst (λ x. Keeps (files_plan full tree ask x (crawled tree)) found before.out after.out) r.2
      (subst (λ x. Keeps (files_plan full tree ask r.0.left x) found before.out after.out) (sym (takes tree given.folder)) k)

  pub replay_owes : Owes (replay_plan full ask) true before after found
  replay_owes = record {
    planned = λ tree bytes given. (keeps_from tree bytes given).planned;
    written = λ tree bytes given. (keeps_from tree bytes given).written;
    begun = λ tree bytes given. (keeps_from tree bytes given).begun;
  }

  pub replay_reads : ReadsScript full ask before after found
  replay_reads = record {
    lines = λ e tree others reading tells taken tellsS.
        let z : Ok files ≡ Ok others = sym (takes tree tells) ∙ taken in
        let w : files ≡ others = cc in
        subst (λ fs. HasLines full tree ask fs reading before after) w ((ends (start_of reading) (is_start reading tellsS)).lines e tree tells);
  }

-- and its causes
pub replay_causes :
    (before between after : Lent) (found : Outcome) → between.folder.told ≡ before.folder.told → before.folder.faults ≤ between.folder.faults → between.script ≡ before.script → between.out ≡ before.out
    → (found ≡ outcome.ReadFailed → Rose between.folder.faults after.folder.faults ⊎ Rose between.script.faults after.script.faults) → (found ≡ outcome.WriteFailed → Rose between.out.faults after.out.faults)
    → after.folder.told ≡ between.folder.told → (between.folder.beside ≡ before.folder.beside) → (after.folder.beside ≡ between.folder.beside) → (after.script.beside ≡ between.script.beside) → (after.out.beside ≡ between.out.beside)
    → HasCauses true before after found
replay_causes before between after found same later script out read write told apart_one apart_two apart_script apart_out = record {
  read = λ e. elim (read e) [
    | inl rose ↦ inl (rose_from before.folder.faults between.folder.faults after.folder.faults later rose)
    | inr rose ↦ inr (refl, subst (λ (x : Seen Reading). Rose x.faults after.script.faults) script rose)
  ];
  write = λ e. subst (λ (x : Seen (List ℕ)). Rose x.faults after.out.faults) out (write e);
  folder = told ∙ same;
  apart = (apart_two ∙ apart_one, apart_script ∙ ap (λ (x : Seen Reading). x.beside) script, apart_out ∙ ap (λ (x : Seen (List ℕ)). x.beside) out);
}

-- ---- a command that reads the folder once and no script

pub files_owes :
    (plan : Snapshot → Plan) (files : Snapshot) (before after : Lent) (found : Outcome) → ((tree : Files) → Tells before.folder tree → crawled tree ≡ Ok files) → Keeps (plan files) found before.out after.out
    → Owes (λ tree bytes. taken_plan plan (crawled tree)) false before after found
files_owes plan files before after found takes keeps =
    let k : (tree : Files) → Tells before.folder tree → Keeps (taken_plan plan (crawled tree)) found before.out after.out = λ tree tells. subst (λ x. Keeps (taken_plan plan x) found before.out after.out) (sym (takes tree tells)) keeps in
    record {
      planned = λ tree bytes given. (k tree given.folder).planned;
      written = λ tree bytes given. (k tree given.folder).written;
      begun = λ tree bytes given. (k tree given.folder).begun;
    }

pub files_causes :
    (before after : Lent) (found : Outcome) → OnlyWrites found before.out after.out → after.folder.told ≡ before.folder.told → after.folder.beside ≡ before.folder.beside → after.script.beside ≡ before.script.beside
    → HasCauses false before after found
files_causes before after found only told apart_folder apart_script = record {
  read = λ e. absurd (only.read e);
  write = only.write;
  folder = told;
  apart = (apart_folder, apart_script, only.apart);
}

-- ---- a command that reads nothing

pub kept_owes : (plan : Plan) (before after : Lent) (found : Outcome) → Keeps plan found before.out after.out → Owes (λ tree bytes. plan) false before after found
kept_owes plan before after found keeps = record { planned = λ tree bytes given. keeps.planned; written = λ tree bytes given. keeps.written; begun = λ tree bytes given. keeps.begun }

-- ---- a run

-- a run that owes for one outcome owes for running out of memory
memory_owes : (meaning : Files → List ℕ → Plan) (reads : Bool) (before after : Lent) (found : Outcome) → Owes meaning reads before after found → Owes meaning reads before after outcome.NoMemory
memory_owes meaning reads before after found o = record { planned = λ tree bytes given p. absurd (no_memory p); written = λ tree bytes given p. absurd (no_memory p); begun = o.begun }

memory_causes : (reads : Bool) (before after : Lent) (found : Outcome) → HasCauses reads before after found → HasCauses reads before after outcome.NoMemory
memory_causes reads before after found c = record {
  read = λ e. absurd (let z : outcome.NoMemory ≡ outcome.ReadFailed = e in cc);
  write = λ e. absurd (let z : outcome.NoMemory ≡ outcome.WriteFailed = e in cc);
  folder = c.folder;
  apart = c.apart;
}

memory_reads : (full : Bool) (ask : Ask) (before after : Lent) → ReadsScript full ask before after outcome.NoMemory
memory_reads full ask before after = record { lines = λ e. absurd (let z : outcome.NoMemory ≡ outcome.ReadFailed = e in cc) }

-- where nothing failed, the plan was come to, or memory ran out
module _ (meaning : Files → List ℕ → Plan) (reads : Bool) (before after : Lent) where
  came : (found : Outcome) → Owes meaning reads before after found → (tree : Files) (bytes : List ℕ) → Given reads before tree bytes → IsPlanned found → ComesTo (meaning tree bytes) (status_of found) before.out after.out
  came found o tree bytes given p = inr (ap status_of (o.planned tree bytes given p), o.written tree bytes given p)

  completes : (found : Outcome) → Owes meaning reads before after found → HasCauses reads before after found → (tree : Files) (bytes : List ℕ) → Given reads before tree bytes → Worked reads before after → ComesTo (meaning tree bytes) (status_of found) before.out after.out
  completes outcome.Done o c tree bytes given w = came outcome.Done o tree bytes given (inl (omega arith))
  completes (outcome.Refused fault) o c tree bytes given w = came (outcome.Refused fault) o tree bytes given (inl (omega arith))
  completes outcome.Faulty o c tree bytes given w = came outcome.Faulty o tree bytes given (inl (omega arith))
  completes (outcome.BadWord at) o c tree bytes given w = came (outcome.BadWord at) o tree bytes given (inl (omega arith))
  completes outcome.ReadFailed o c tree bytes given w = elim (c.read refl) [ inl rose ↦ absurd (w.folder rose) | inr rose ↦ absurd (w.script rose.0 rose.1) ]
  completes outcome.WriteFailed o c tree bytes given w = absurd (w.out (c.write refl))
  completes outcome.NoMemory o c tree bytes given w = inl refl
  completes (outcome.Limit limit) o c tree bytes given w = came (outcome.Limit limit) o tree bytes given (inr (omega arith))
  completes (outcome.BadCommand command) o c tree bytes given w = came (outcome.BadCommand command) o tree bytes given (inr (omega arith))
  completes (outcome.CutCommand command) o c tree bytes given w = came (outcome.CutCommand command) o tree bytes given (inr (omega arith))

-- what is to be done means the plans of its action
pub action_request : (action : Action) (request : Request) (before after : Lent) (found : Outcome) → request.action ≡ action → Owes (action_plan action request) (action_reads action) before after found → Owes (words_plan (Ok request)) (words_read (Ok request)) before after found
action_request action request before after found e o = subst (λ a. Owes (action_plan a request) (action_reads a) before after found) (sym e) o

pub action_causes : (action : Action) (request : Request) (before after : Lent) (found : Outcome) → request.action ≡ action → HasCauses (action_reads action) before after found → HasCauses (words_read (Ok request)) before after found
action_causes action request before after found e o = subst (λ a. HasCauses (action_reads a) before after found) (sym e) o

-- words that ask for nothing
pub refused_owes : (fault : WordFault) (lent : Lent) → Owes (words_plan (Err fault)) false lent lent (word_outcome fault)
refused_owes (word.BadWord at) lent = record { planned = λ tree bytes given p. refl; written = λ tree bytes given p. wrote_none lent.out; begun = λ tree bytes given. stopped_none lent.out [] }
refused_owes word.NoMemory lent = record { planned = λ tree bytes given p. absurd (no_memory p); written = λ tree bytes given p. absurd (no_memory p); begun = λ tree bytes given. stopped_none lent.out [] }

-- nothing was touched, and no call failed
untouched : (reads : Bool) (lent : Lent) (found : Outcome) → (found ≡ outcome.ReadFailed → ⊥) → (found ≡ outcome.WriteFailed → ⊥) → HasCauses reads lent lent found
untouched reads lent found read write = record { read = λ e. absurd (read e); write = λ e. absurd (write e); folder = refl; apart = (refl, refl, refl) }

refused_causes : (fault : WordFault) (reads : Bool) (lent : Lent) → HasCauses reads lent lent (word_outcome fault)
refused_causes (word.BadWord at) reads lent = untouched reads lent (outcome.BadWord at) (λ e. cc) (λ e. cc)
refused_causes word.NoMemory reads lent = untouched reads lent outcome.NoMemory (λ e. cc) (λ e. cc)

module _ (sure : Type 0) (request : Result Request WordFault) where
  pub memory_comes : (before after : Lent) (found : Outcome) → Comes sure request before after found → Comes sure request before after outcome.NoMemory
  memory_comes before after found c = record {
    owes = λ is. memory_owes (words_plan request) (words_read request) before after found (c.owes is);
    script = λ is asked e at. memory_reads asked.full asked.ask before after;
    causes = memory_causes (words_read request) before after found c.causes;
    reason = λ asked e at reading tells. memory_reason reading;
    refused = λ fault e. inr refl;
    word = λ two. absurd (let z : 5 ≡ 2 = two in omega (arith, z));
  }

  -- a request that was run
  pub request_comes :
      (asked : Request) (before after : Lent) (found : Outcome) → request ≡ Ok asked → (sure → Owes (words_plan (Ok asked)) (words_read (Ok asked)) before after found)
      → (sure → asked.action ≡ Replay → ReadsScript asked.full asked.ask before after found) → HasCauses (words_read (Ok asked)) before after found
      → (asked.action ≡ Replay → (reading : Reading) → Tells before.script reading → HasReason reading found) → (IsBadWord found → ⊥) → Comes sure request before after found
  request_comes asked before after found is owes script causes reason word =
      subst (λ r. Comes sure r before after found) (sym is)
      (record {
        owes = owes;
        script = λ known other e at. let z : asked ≡ other = cc in subst (λ (x : Request). ReadsScript x.full x.ask before after found) z (script known (ap (λ (x : Request). x.action) z ∙ at));
        causes = causes;
        reason = λ other e at. let z : asked ≡ other = cc in reason (ap (λ (x : Request). x.action) z ∙ at);
        refused = λ fault e. absurd (cc);
        word = λ two. absurd (word two);
      })

  -- words that ask for nothing
  pub fault_comes : (fault : WordFault) (lent : Lent) → request ≡ Err fault → Comes sure request lent lent (word_outcome fault)
  fault_comes fault lent is =
      subst (λ r. Comes sure r lent lent (word_outcome fault)) (sym is)
      (record {
        owes = λ known. refused_owes fault lent;
        script = λ known asked e. absurd (cc);
        causes = refused_causes fault false lent;
        reason = λ asked e. absurd (cc);
        refused = λ other e. let z : fault ≡ other = cc in inl (ap word_outcome z);
        word = λ two. refl;
      })

  -- the words could not be read
  pub unread_comes : (lent : Lent) → Comes sure request lent lent outcome.NoMemory
  unread_comes lent = record {
    owes = λ known. record { planned = λ tree bytes given p. absurd (no_memory p); written = λ tree bytes given p. absurd (no_memory p); begun = λ tree bytes given. stopped_none lent.out (words_plan request tree bytes).bytes };
    script = λ known asked e at. memory_reads asked.full asked.ask lent lent;
    causes = untouched (words_read request) lent outcome.NoMemory (λ e. cc) (λ e. cc);
    reason = λ asked e at reading tells. memory_reason reading;
    refused = λ fault e. inr refl;
    word = λ two. absurd (let z : 5 ≡ 2 = two in omega (arith, z));
  }

-- what a reader of words answers
abbrev pub Refuses : Result Request WordFault → Result Request WordFault → Type 0
Refuses request r = (r ≡ Err word.NoMemory) ⊎ (r ≡ request)

pub refused_comes : (sure : Type 0) (request : Result Request WordFault) (fault : WordFault) (found : Outcome) (lent : Lent) → Refuses request (Err fault) → found ≡ word_outcome fault → Comes sure request lent lent found
refused_comes sure request fault found lent (inl h) is =
    let none : fault ≡ word.NoMemory = cc in
    subst (Comes sure request lent lent) (sym (is ∙ ap word_outcome none)) (unread_comes sure request lent)
refused_comes sure request fault found lent (inr h) is = subst (Comes sure request lent lent) (sym is) (fault_comes sure request fault lent (sym h))

-- the run, once its line is on the log
pub runs_of :
    (sure : Type 0) (request : Result Request WordFault) (before after : Lent) (log_before log_after : Seen (List ℕ)) (found told : Outcome) (status : ℕ) → Comes sure request before after found
    → (told ≡ found) ⊎ (told ≡ outcome.NoMemory) → status ≡ status_of told → (Stood log_before log_after → Wrote log_before log_after (line_of told)) → log_after.beside ≡ log_before.beside
    → Runs sure request before after log_before log_after status
runs_of sure request before after log_before log_after found told status comes is answer line apart =
    let c : Comes sure request before after told = elim is [
      | inl same ↦ subst (Comes sure request before after) (sym same) comes
      | inr none ↦ subst (Comes sure request before after) (sym none) (memory_comes sure request before after found comes)
    ] in
    record {
      outcome = told;
      is = answer;
      comes = c;
      complete = λ known tree bytes given worked.
          subst (λ n. ComesTo (words_plan request tree bytes) n before.out after.out) (sym answer) (completes (words_plan request) (words_read request) before after told (c.owes known) c.causes tree bytes given worked);
      line = line;
      log = apart;
    }
