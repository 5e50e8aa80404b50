-- Wherever the commands of a replay lead, its log is legal and its revisions are traversals.
use Rattle.std.proofs.Common.{◌≡◌, ◌≤◌, ◌∙◌, ℕ, zero, suc, List, [], ◌∷◌, ◌++◌, length, take, Option, Some, None, Ok, Err, refl, ap, sym, subst, arith, append_assoc, append-nil, length-append}
use Rattle.std.specs.List.{IsDistinct}
use Rattle.std.specs.Option.{IfSome, option_map_or}
use Rattle.std.specs.Str.{bytes_eq}
use Rattle.std.proofs.lemmas.List.Sums.{fold-append}
use Rattle.std.proofs.lemmas.List.Elements.{filter_map-append}
use Rattle.mt_io.specs.Files.{Files}
use Rattle.mt_files.specs.Asks.{Ask}
use Rattle.mt_files.specs.Changes.{stepped, stepped_by}
use Rattle.mt_files.specs.Fresh.{all_faults, decided, edges_of, fresh}
use Rattle.mt_files.specs.Reach.{reach}
use Rattle.mt_files.specs.Snapshots.{Snapshot}
use Rattle.mt_files.specs.declared.build_fault.BuildFault.{BuildFault}
use Rattle.mt_files.specs.declared.change.Change.{Change}
use Rattle.mt_revision.specs.Contents.{HasContent}
use Rattle.mt_revision.specs.Logs.{Accepted, Denied, IsAccepted, IsLegal, IsLegalAfter, IsNext, Logged, Reached, files_at, numbering_at, reached_after, reached_by, unlogged}
use Rattle.mt_revision.specs.Numberings.{extended}
use Rattle.mt_revision.specs.declared.revision.Revision.{Revision}
use Rattle.mt_revision.proofs.Bundles.{content_bundle}
use Rattle.mt_revision.proofs.EdgesNamed.{content_graph}
use Rattle.mt_revision.proofs.Extensions.{ascending_distinct, extended_distinct, extended_more}
use Rattle.mt_revision.proofs.Logs.{legal_longer, legal_more, reached_distinct, reached_longer, reached_more}
use Rattle.mt_revision.proofs.Revisions.{after_content, after_made}
use Rattle.mt_files.proofs.Reach.{reach_ascending}
use Rattle.mt_script.specs.declared.command.Command.{Command}
use Rattle.metro_program.specs.States.{State}
use Rattle.metro_program.specs.Builds.{Answer, Built, Same, Step, build_step, build_with, fresh_build, next_build, numbering_after, same_number, with_refusal}
use Rattle.metro_program.specs.Commands.{with_change}
use Rattle.metro_program.specs.Replay.{History, moved_by, unbuilt}
use Rattle.metro_program.specs.Histories.{AreTraversals, IsFresh, IsTraversal, KeepsNumbers, last_refusal, log_of, logged, refusal_of}
use Rattle.metro_program.proofs.Bounded.{all_numbered}
use Rattle.metro_program.proofs.IsKept.{IsKept, holds_after}

-- ---- one more change

take_front : (xs ys : List Change) (n : ℕ) → n ≤ length xs → take n (xs ++ ys) ≡ take n xs
take_front xs ys zero h = refl
take_front [] ys (suc n) h = absurd (omega (arith, h))
take_front (x ∷ xs) ys (suc n) h = ap (λ z. x ∷ z) (take_front xs ys n (omega (arith, h)))

take_whole : (xs : List Change) → take (length xs) xs ≡ xs
take_whole [] = refl
take_whole (x ∷ xs) = ap (λ z. x ∷ z) (take_whole xs)

longer : (journal : List Change) (c : Change) (n : ℕ) → n ≤ length journal → n ≤ length (journal ++ c ∷ [])
longer journal c n h = let both = length-append journal (c ∷ []) in omega (arith, both, h)

-- the last of the answers says why the last build was refused
last_more : (answers : List Answer) (answer : Answer) → last_refusal (answers ++ answer ∷ []) ≡ refusal_of answer
last_more answers answer = fold-append (λ before a. refusal_of a) None answers (answer ∷ [])

module _ (ask : Ask) (files : Snapshot) where
  changed_fresh : (h : History) (c : Change) → IsFresh ask files h → IsFresh ask files (record { state = with_change h.state c; answers = h.answers })
  changed_fresh h c f = record {
    asked = f.asked;
    changed = ap (λ x. stepped x c) f.changed ∙ sym (fold-append stepped files h.state.journal (c ∷ []));
    legal = legal_longer ask files h.state.journal (c ∷ []) unlogged (log_of h.answers) f.legal;
    count = f.count;
    reached = reached_longer ask files h.state.journal (c ∷ []) unlogged (log_of h.answers) f.legal ∙ f.reached;
    counted = longer h.state.journal c f.count f.counted;
    refused = f.refused;
  }

  -- ---- one more build

  -- the files that all accepted changes lead to
  pub all_files : (h : History) → IsFresh ask files h → files_at files h.state.journal (length h.state.journal) ≡ h.state.files
  all_files h f = ap (stepped_by files) (take_whole h.state.journal) ∙ sym f.changed

  module _ (h : History) (f : IsFresh ask files h) where
    abbrev so_far : Reached
    so_far = record { latest = h.state.latest; count = f.count; numbering = h.state.numbering }

    abbrev made : Revision
    made = (next_build h.state).revision

    same_numbering : numbering_after h.state ≡ numbering_at ask so_far (files_at files h.state.journal (length h.state.journal))
    same_numbering = ap (λ (a : Ask). extended h.state.numbering a.entries (reach a h.state.files)) f.asked ∙ ap (λ x. numbering_at ask so_far x) (sym (all_files h f))

    has_content : all_faults h.state.ask h.state.files ≡ [] → HasContent ask made (numbering_at ask so_far (files_at files h.state.journal (length h.state.journal))) (files_at files h.state.journal (length h.state.journal))
    has_content clean =
        let c : HasContent h.state.ask made (numbering_after h.state) h.state.files = after_content h.state.ask h.state.latest (length h.state.journal) (numbering_after h.state) h.state.files clean (all_numbered h.state) in
        subst (λ x. HasContent ask made (numbering_at ask so_far x) x) (sym (all_files h f))
        (subst (λ n. HasContent ask made n h.state.files) (ap (λ (a : Ask). extended h.state.numbering a.entries (reach a h.state.files)) f.asked)
        (subst (λ a. HasContent a made (numbering_after h.state) h.state.files) f.asked c))

    is_accepted : all_faults h.state.ask h.state.files ≡ [] → IfSome h.state.latest (λ b. b.dev ≡ h.state.ask.options.dev) → IsAccepted ask files h.state.journal so_far made
    is_accepted clean dev = record {
      later = f.counted;
      counted = omega arith;
      made = after_made h.state.ask h.state.latest (length h.state.journal) (numbering_after h.state) h.state.files dev;
      content = has_content clean;
    }

    first_fault : (fault : BuildFault) (faults : List BuildFault) → all_faults h.state.ask h.state.files ≡ fault ∷ faults → fresh ask (files_at files h.state.journal (length h.state.journal)) ≡ Err fault
    first_fault fault faults e =
        ap (fresh ask) (all_files h f)
        ∙ ap (λ a. fresh a h.state.files) (sym f.asked)
        ∙ ap (decided (edges_of h.state.ask.options h.state.files (reach h.state.ask h.state.files))) e

    -- the log with one more build
    log_more : (build : Logged) → log_of (h.answers ++ Built build ∷ []) ≡ log_of h.answers ++ build ∷ []
    log_more build = filter_map-append logged h.answers (Built build ∷ [])

    legal_next : (build : Logged) → IsNext ask files h.state.journal so_far build → IsLegal ask files h.state.journal (log_of (h.answers ++ Built build ∷ []))
    legal_next build next =
        subst (IsLegal ask files h.state.journal) (sym (log_more build))
        (legal_more ask files h.state.journal unlogged (log_of h.answers) build f.legal (subst (λ r. IsNext ask files h.state.journal r build) (sym f.reached) next))

    reached_next : (build : Logged) → reached_by ask files h.state.journal unlogged (log_of (h.answers ++ Built build ∷ [])) ≡ reached_after ask files h.state.journal so_far build
    reached_next build = ap (reached_by ask files h.state.journal unlogged) (log_more build) ∙ reached_more ask files h.state.journal unlogged (log_of h.answers) build ∙ ap (λ r. reached_after ask files h.state.journal r build) f.reached

    build_fresh :
        IfSome h.state.latest (λ b. b.dev ≡ h.state.ask.options.dev) → (faults : List BuildFault) → all_faults h.state.ask h.state.files ≡ faults
        → IsFresh ask files (record { state = (build_step h.state (build_with h.state faults)).state; answers = h.answers ++ (build_step h.state (build_with h.state faults)).answers })
    build_fresh dev [] e = record {
      asked = f.asked;
      changed = f.changed;
      legal = legal_next (Accepted made) (is_accepted e dev);
      count = length h.state.journal;
      reached = reached_next (Accepted made) ∙ ap (λ n. record { latest = Some made; count = length h.state.journal; numbering = n }) (sym same_numbering);
      counted = omega arith;
      refused = sym (last_more h.answers (Built (Accepted made)));
    }
    build_fresh dev (fault ∷ faults) e = record {
      asked = f.asked;
      changed = f.changed;
      legal = legal_next (Denied (length h.state.journal) fault) (record { later = f.counted; counted = omega arith; first = first_fault fault faults e });
      count = length h.state.journal;
      reached = reached_next (Denied (length h.state.journal) fault);
      counted = omega arith;
      refused = sym (last_more h.answers (Built (Denied (length h.state.journal) fault)));
    }

    -- where nothing is built, nothing is logged
    same_fresh : (number : ℕ) → IsFresh ask files (record { state = with_refusal h.state None; answers = h.answers ++ Same number ∷ [] })
    same_fresh number =
        let log : log_of h.answers ≡ log_of (h.answers ++ Same number ∷ []) = sym (filter_map-append logged h.answers (Same number ∷ []) ∙ append-nil (log_of h.answers)) in
        record {
          asked = f.asked;
          changed = f.changed;
          legal = subst (IsLegal ask files h.state.journal) log f.legal;
          count = f.count;
          reached = ap (reached_by ask files h.state.journal unlogged) (sym log) ∙ f.reached;
          counted = f.counted;
          refused = sym (last_more h.answers (Same number));
        }

    asked_fresh :
        IfSome h.state.latest (λ b. b.dev ≡ h.state.ask.options.dev) → (same : Option ℕ)
        → (λ (step : Step). IsFresh ask files (record { state = step.state; answers = h.answers ++ step.answers })) (option_map_or (λ number. record { state = with_refusal h.state None; answers = Same number ∷ [] }) same (build_step h.state (fresh_build h.state)))
    asked_fresh dev None = build_fresh dev (all_faults h.state.ask h.state.files) refl
    asked_fresh dev (Some number) = same_fresh number

-- ---- a replay

-- facts that commands keep: the latest revision is of the kind that is asked for, counts no more changes than were accepted, and the files that it counts have no fault
pub record IsSound (ask : Ask) (files : Snapshot) (h : History) : Type 0 where
  pub fresh : IsFresh ask files h
  pub dev : IfSome h.state.latest (λ r. r.dev ≡ h.state.ask.options.dev)
  pub counts : IfSome h.state.latest (λ r. r.changes ≤ length h.state.journal)
  pub clean : IfSome h.state.latest (λ r. all_faults ask (files_at files h.state.journal r.changes) ≡ [])

counts_more : (journal : List Change) (c : Change) (latest : Option Revision) → IfSome latest (λ r. r.changes ≤ length journal) → IfSome latest (λ r. r.changes ≤ length (journal ++ c ∷ []))
counts_more journal c None h = tt
counts_more journal c (Some r) h = longer journal c r.changes h

module _ (ask : Ask) (files : Snapshot) where
  clean_more : (journal : List Change) (c : Change) (latest : Option Revision) → IfSome latest (λ r. r.changes ≤ length journal) → IfSome latest (λ r. all_faults ask (files_at files journal r.changes) ≡ [])
      → IfSome latest (λ r. all_faults ask (files_at files (journal ++ c ∷ []) r.changes) ≡ [])
  clean_more journal c None h k = tt
  clean_more journal c (Some r) h k = ap (λ cs. all_faults ask (stepped_by files cs)) (take_front journal (c ∷ []) r.changes h) ∙ k

  change_sound : (h : History) (c : Change) → IsSound ask files h → IsSound ask files (record { state = with_change h.state c; answers = h.answers })
  change_sound h c s = record {
    fresh = changed_fresh ask files h c s.fresh;
    dev = s.dev;
    counts = counts_more h.state.journal c h.state.latest s.counts;
    clean = clean_more h.state.journal c h.state.latest s.counts s.clean;
  }

  module _ (h : History) (s : IsSound ask files h) where
    build_sound : (faults : List BuildFault) → all_faults h.state.ask h.state.files ≡ faults
        → IsSound ask files (record { state = (build_step h.state (build_with h.state faults)).state; answers = h.answers ++ (build_step h.state (build_with h.state faults)).answers })
    build_sound [] e = record {
      fresh = build_fresh ask files h s.fresh s.dev [] e;
      dev = refl;
      counts = omega arith;
      clean = ap (all_faults ask) (all_files ask files h s.fresh) ∙ ap (λ a. all_faults a h.state.files) (sym s.fresh.asked) ∙ e;
    }
    build_sound (fault ∷ faults) e = record { fresh = build_fresh ask files h s.fresh s.dev (fault ∷ faults) e; dev = s.dev; counts = s.counts; clean = s.clean }

    asked_sound :
        (same : Option ℕ)
        → (λ (step : Step). IsSound ask files (record { state = step.state; answers = h.answers ++ step.answers })) (option_map_or (λ number. record { state = with_refusal h.state None; answers = Same number ∷ [] }) same (build_step h.state (fresh_build h.state)))
    asked_sound None = build_sound (all_faults h.state.ask h.state.files) refl
    asked_sound (Some number) = record { fresh = same_fresh ask files h s.fresh number; dev = s.dev; counts = s.counts; clean = s.clean }

  kept_sound : IsKept (IsSound ask files)
  kept_sound = record { change = change_sound; build = λ h s. asked_sound h s (same_number h.state) }

  opened_sound : IsSound ask files (unbuilt ask files)
  opened_sound = record {
    fresh = record { asked = refl; changed = refl; legal = tt; count = 0; reached = refl; counted = omega arith; refused = refl };
    dev = tt;
    counts = tt;
    clean = tt;
  }

  -- wherever the commands of a replay lead
  pub sound_after : (tree : Files) (commands : List Command) (now : History) → moved_by tree (unbuilt ask files) commands ≡ Ok now → IsSound ask files now
  sound_after tree commands now e = holds_after (IsSound ask files) kept_sound tree (unbuilt ask files) now commands opened_sound e

  -- ---- traversals

  -- a revision with this content is a traversal
  pub content_traversal : (r : Revision) (numbering : List (List ℕ)) (at : Snapshot) → IsDistinct bytes_eq numbering → HasContent ask r numbering at → IsTraversal ask numbering at r
  content_traversal r numbering at distinct c = record { modules = c.modules; edges = content_graph ask r numbering at c; bundle = content_bundle ask r numbering at c distinct }

  -- what a legal log has at a place may come next there
  next_at : (journal : List Change) (before : Reached) (front back : List Logged) (build : Logged) → IsLegalAfter ask files journal before (front ++ build ∷ back) → IsNext ask files journal (reached_by ask files journal before front) build
  next_at journal before [] back build h = h.0
  next_at journal before (b ∷ front) back build h = next_at journal (reached_after ask files journal before b) front back build h.1

  distinct_at : (reached : Reached) (at : Snapshot) → IsDistinct bytes_eq ask.entries → IsDistinct bytes_eq reached.numbering → IsDistinct bytes_eq (numbering_at ask reached at)
  distinct_at reached at e d = extended_distinct reached.numbering ask.entries (reach ask at) d e (ascending_distinct (reach ask at) (reach_ascending ask at))

  none_distinct : IsDistinct bytes_eq []
  unfolding IsDistinct
  none_distinct = tt

  -- each revision of the log is a traversal
  pub log_traversals : (h : History) → IsDistinct bytes_eq ask.entries → IsFresh ask files h → AreTraversals ask files h
  log_traversals h distinct f front back r e =
      let legal : IsLegal ask files h.state.journal (front ++ Accepted r ∷ back) = subst (IsLegal ask files h.state.journal) e f.legal in
      let next : IsAccepted ask files h.state.journal (reached_by ask files h.state.journal unlogged front) r = next_at h.state.journal unlogged front back (Accepted r) legal in
      let reached = reached_by ask files h.state.journal unlogged front in
      let at = files_at files h.state.journal r.changes in
      content_traversal r (numbering_at ask reached at) at (distinct_at reached at distinct (reached_distinct ask files h.state.journal unlogged front distinct none_distinct)) next.content

-- ---- numbers are kept

module _ (start : State) where
  more_numbers : (s : State) (faults : List BuildFault) → KeepsNumbers start s → KeepsNumbers start (build_step s (build_with s faults)).state
  more_numbers s [] k =
      let more = extended_more s.numbering s.ask.entries (reach s.ask s.files) in
      (k.0 ++ more.0, more.1 ∙ ap (λ ps. ps ++ more.0) k.1 ∙ append_assoc start.numbering k.0 more.0)
  more_numbers s (fault ∷ faults) k = k

  asked_numbers : (s : State) (same : Option ℕ) → KeepsNumbers start s
      → (λ (step : Step). KeepsNumbers start step.state) (option_map_or (λ number. record { state = with_refusal s None; answers = Same number ∷ [] }) same (build_step s (fresh_build s)))
  asked_numbers s None k = more_numbers s (all_faults s.ask s.files) k
  asked_numbers s (Some number) k = k

  kept_numbers : IsKept (λ h. KeepsNumbers start h.state)
  kept_numbers = record { change = λ h c k. k; build = λ h k. asked_numbers h.state (same_number h.state) k }

-- wherever commands lead, they keep the numbers
pub numbers_after : (tree : Files) (before now : History) (commands : List Command) → moved_by tree before commands ≡ Ok now → KeepsNumbers before.state now.state
numbers_after tree before now commands e = holds_after (λ h. KeepsNumbers before.state h.state) (kept_numbers before.state) tree before now commands ([], sym (append-nil before.state.numbering)) e
