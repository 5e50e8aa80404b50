-- Searches one after another.
use Rattle.std.proofs.Common.{◌≡◌, ◌∙◌, ℕ, Bool, true, false, cond, List, [], ◌∷◌, ◌++◌, map, length, take, Option, Some, None, Result, Ok, Err, is_some, refl, ap, sym, subst, append_assoc, append-nil}
use Rattle.std.specs.Prelude.{IfOk}
use Rattle.std.proofs.lemmas.Grind.{flat_map-append}
use Rattle.mt_files.specs.Snapshots.{Snapshot, has_source}
use Rattle.mt_files.specs.Resolve.{Candidate, asked, first_stop, or_first, stop_at}
use Rattle.mt_files.specs.Resolve.Candidate.{Source}
use Rattle.mt_files.specs.declared.target.Target.{Target}
use Rattle.mt_files.specs.declared.target.Target.TheVariants.{File}
use Rattle.mt_resolve.specs.Runs.{paths_in, run_paths, with_run}
use Rattle.mt_resolve.specs.Searches.{Ends}
use Rattle.mt_resolve.specs.declared.probes.Log.{Log}
use Rattle.mt_resolve.specs.declared.probes.Run.{Run}

-- ---- the first stop of two lists of candidates

found_by : (o : Option Target) (t : Target) (a b : Option Target) → (Some t ≡ a → Some t ≡ b) → Some t ≡ or_first o a → Some t ≡ or_first o b
found_by (Some u) t a b k h = h
found_by None t a b k h = k h

asked_by : (o : Option Target) (t : Target) (p : List ℕ) (rest : Option Target) (a b : List (List ℕ)) → (Some t ≡ rest → a ≡ b) → Some t ≡ or_first o rest → p ∷ cond (is_some o) [] a ≡ p ∷ cond (is_some o) [] b
asked_by (Some u) t p rest a b k h = refl
asked_by None t p rest a b k h = ap (λ ps. p ∷ ps) (k h)

-- a stop among the first is the stop
pub stop_before : (files : Snapshot) (t : Target) (cs ds : List Candidate) → Some t ≡ first_stop files cs → (Some t ≡ first_stop files (cs ++ ds)) × (asked files cs ≡ asked files (cs ++ ds))
stop_before files t [] ds h = absurd (cc)
stop_before files t (c ∷ cs) ds h = (
  found_by (stop_at files c) t (first_stop files cs) (first_stop files (cs ++ ds)) (λ k. (stop_before files t cs ds k).0) h,
  asked_by (stop_at files c) t _ (first_stop files cs) (asked files cs) (asked files (cs ++ ds)) (λ k. (stop_before files t cs ds k).1) h,
)

passed_by : (o : Option Target) (a b d : Option Target) → (None ≡ a → d ≡ b) → None ≡ or_first o a → d ≡ or_first o b
passed_by (Some u) a b d k h = absurd (cc)
passed_by None a b d k h = k h

asked_on : (o : Option Target) (p : List ℕ) (rest : Option Target) (a b d : List (List ℕ)) → (None ≡ rest → a ++ d ≡ b) → None ≡ or_first o rest → (p ∷ cond (is_some o) [] a) ++ d ≡ p ∷ cond (is_some o) [] b
asked_on (Some u) p rest a b d k h = absurd (cc)
asked_on None p rest a b d k h = ap (λ ps. p ∷ ps) (k h)

-- with none there the search goes on among the others
pub stop_after : (files : Snapshot) (cs ds : List Candidate) → None ≡ first_stop files cs → (first_stop files ds ≡ first_stop files (cs ++ ds)) × (asked files cs ++ asked files ds ≡ asked files (cs ++ ds))
stop_after files [] ds h = (refl, refl)
stop_after files (c ∷ cs) ds h = (
  passed_by (stop_at files c) (first_stop files cs) (first_stop files (cs ++ ds)) (first_stop files ds) (λ k. (stop_after files cs ds k).0) h,
  asked_on (stop_at files c) _ (first_stop files cs) (asked files cs) (asked files (cs ++ ds)) (asked files ds) (λ k. (stop_after files cs ds k).1) h,
)

-- ---- ends of searches

pub ends_none : (endings : List (List ℕ)) (files : Snapshot) (log : Log) → Ends endings files log log None []
ends_none endings files log = record { target = refl; logged = record { keep = refl; paths = λ h. sym (append-nil (paths_in endings log.runs)) } }

pub ends_stop : (endings : List (List ℕ)) (files : Snapshot) (before after : Log) (t : Target) (cs ds : List Candidate) → Ends endings files before after (Some t) cs → Ends endings files before after (Some t) (cs ++ ds)
ends_stop endings files before after t cs ds e =
    let s = stop_before files t cs ds e.target in
    record { target = s.0; logged = record { keep = e.logged.keep; paths = λ h. e.logged.paths h ∙ ap (λ ps. paths_in endings before.runs ++ ps) s.1 } }

pub ends_then :
    (endings : List (List ℕ)) (files : Snapshot) (before between after : Log) (found : Option Target) (cs ds : List Candidate)
    → Ends endings files before between None cs → Ends endings files between after found ds → Ends endings files before after found (cs ++ ds)
ends_then endings files before between after found cs ds e k =
    let s = stop_after files cs ds e.target in
    record {
      target = k.target ∙ s.0;
      logged = record {
        keep = k.logged.keep ∙ e.logged.keep;
        paths = λ h.
            k.logged.paths (e.logged.keep ∙ h) ∙ ap (λ ps. ps ++ asked files ds) (e.logged.paths h) ∙ append_assoc (paths_in endings before.runs) (asked files cs) (asked files ds)
            ∙ ap (λ ps. paths_in endings before.runs ++ ps) s.1;
      };
    }

-- the same of equal candidates
pub ends_at : (endings : List (List ℕ)) (files : Snapshot) (before after : Log) (found : Option Target) (cs ds : List Candidate) → cs ≡ ds → Ends endings files before after found cs → Ends endings files before after found ds
ends_at endings files before after found cs ds e k = subst (Ends endings files before after found) e k

-- the same of a result that is equal
pub ends_found : (endings : List (List ℕ)) (files : Snapshot) (before after : Log) (found other : Option Target) (cs : List Candidate) → found ≡ other → Ends endings files before after found cs → Ends endings files before after other cs
ends_found endings files before after found other cs e k = subst (λ o. Ends endings files before after o cs) e k

kept_run : (b : Bool) (endings : List (List ℕ)) (runs : List Run) (run : Run) → b ≡ true → paths_in endings (cond b (runs ++ run ∷ []) runs) ≡ paths_in endings runs ++ run_paths endings run
kept_run true endings runs run h =
    flat_map-append (run_paths endings) runs (run ∷ []) ∙ ap (λ ps. paths_in endings runs ++ ps) (append-nil (run_paths endings run))
kept_run false endings runs run h = absurd (cc)

-- a search whose paths are those of one run
pub ends_run :
    (endings : List (List ℕ)) (files : Snapshot) (log : Log) (run : Run) (found : Option Target) (cs : List Candidate)
    → found ≡ first_stop files cs → run_paths endings run ≡ asked files cs → Ends endings files log (with_run log run) found cs
ends_run endings files log run found cs f a = record {
  target = f;
  logged = record { keep = refl; paths = λ h. kept_run log.keep endings log.runs run h ∙ ap (λ ps. paths_in endings log.runs ++ ps) a };
}

asked_there : (b : Bool) (t : Target) (p : List ℕ) (ps rest : List (List ℕ)) → take (length rest) ps ≡ rest → take (length (p ∷ cond (is_some (cond b (Some t) None)) [] rest)) (p ∷ ps) ≡ p ∷ cond (is_some (cond b (Some t) None)) [] rest
asked_there true t p ps rest h = refl
asked_there false t p ps rest h = ap (λ qs. p ∷ qs) h

-- those that are asked about are the first
pub asked_first : (files : Snapshot) (ps : List (List ℕ)) → take (length (asked files (map Source ps))) ps ≡ asked files (map Source ps)
asked_first files [] = refl
asked_first files (p ∷ ps) = asked_there (has_source files p) (File p) p ps (asked files (map Source ps)) (asked_first files ps)

-- what follows from what a call says of its result
pub ok_then : {X E : Type 0} {P Q : X → Type 0} (r : Result X E) → IfOk r P → ((x : X) → P x → Q x) → IfOk r Q
ok_then (Ok x) h k = k x h
ok_then (Err e) h k = tt
