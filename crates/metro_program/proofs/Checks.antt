-- What the plan of a check says, and what a run of it fulfils.
use Rattle.std.proofs.Common.{◌≡◌, ◌≤◌, ◌∙◌, ℕ, Bool, true, false, cond, List, [], ◌∷◌, length, nat_lt, Result, Ok, Err, refl, ap, sym, subst, arith}
use Rattle.std.specs.Prelude.{IfOk}
use Rattle.std.specs.List.{flat_map}
use Rattle.std.proofs.lemmas.Bool.{ltb-false}
use Rattle.mt_io.specs.Files.{Files}
use Rattle.mt_io.specs.Seen.{Seen, WritesOrLacks}
use Rattle.mt_io.specs.declared.trouble.Trouble.{Trouble}
use Rattle.mt_package.specs.declared.options.Options.{Options}
use Rattle.mt_files.specs.Asks.{Ask}
use Rattle.mt_files.specs.Crawl.{crawled}
use Rattle.mt_files.specs.Edges.{faults_at}
use Rattle.mt_files.specs.Fresh.{all_faults, max_modules, members}
use Rattle.mt_files.specs.Reach.{reach}
use Rattle.mt_files.specs.Snapshots.{Snapshot}
use Rattle.mt_files.specs.declared.build_fault.BuildFault.{BuildFault}
use Rattle.mt_files.specs.declared.build_fault.BuildFault.TheVariants.{TooManyModules}
use Rattle.mt_files.specs.declared.fault.CrawlFault.{CrawlFault}
use Rattle.mt_fresh.specs.Calls.{dynamic_calls}
use Rattle.mt_fresh.specs.declared.fresh.AllFaults.{AllFaults}
use Rattle.mt_report.specs.Listings.{fault_lines, ok_line}
use Rattle.mt_report.specs.Outcomes.{crawl_outcome}
use Rattle.mt_report.specs.declared.outcome.Outcome.{Outcome}
use Rattle.mt_report.specs.declared.outcome.Outcome.TheVariants.{Done, Faulty}
use Rattle.metro_program.specs.Check.{AreFaults, Checks, check_plan, checked_plan, clean_line, found_plan, listed_plan}
use Rattle.metro_program.specs.Plans.{sent_outcome, taken_plan, without_bytes}
use Rattle.metro_program.specs.Progress.{Fulfils}
use Rattle.metro_program.proofs.Fulfils.{fulfils_sent}
use Rattle.metro_program.proofs.Replays.{limit_status}

module _ (ask : Ask) (tree : Files) where
  same_files : (files others : Snapshot) → crawled tree ≡ Ok files → crawled tree ≡ Ok others → files ≡ others
  same_files files others e k = let z : Ok files ≡ Ok others = sym e ∙ k in cc

  of_list : (files : Snapshot) → crawled tree ≡ Ok files → (faults : List BuildFault) → all_faults ask files ≡ faults → Checks ask tree (listed_plan (clean_line ask files) faults)
  of_list files taken [] e = record {
    passed = λ others k clean. refl;
    listed = λ others first more k h. absurd (let z : [] ≡ first ∷ more = sym e ∙ ap (all_faults ask) (same_files files others taken k) ∙ h in cc);
    limited = λ fault k. absurd (let z : Ok files ≡ Err fault = sym taken ∙ k in cc);
    limit = λ fault k. absurd (let z : Ok files ≡ Err fault = sym taken ∙ k in cc);
    clean = λ status. record { files = files; taken = taken; faultless = e; line = refl };
    faulty = λ (status : 0 ≡ 1). absurd (omega (arith, status));
    full = λ (status : 0 ≡ 6). absurd (omega (arith, status));
  }
  of_list files taken (first ∷ faults) e = record {
    passed = λ others k clean. absurd (let z : first ∷ faults ≡ [] = sym e ∙ ap (all_faults ask) (same_files files others taken k) ∙ clean in cc);
    listed = λ others one more k h. ap (λ fs. record { outcome = Faulty; bytes = fault_lines fs }) (sym e ∙ ap (all_faults ask) (same_files files others taken k));
    limited = λ fault k. absurd (let z : Ok files ≡ Err fault = sym taken ∙ k in cc);
    limit = λ fault k. absurd (let z : Ok files ≡ Err fault = sym taken ∙ k in cc);
    clean = λ (status : 1 ≡ 0). absurd (omega (arith, status));
    faulty = λ status. record { files = files; taken = taken; first = first; others = faults; faults = e; lines = ap fault_lines (sym e) };
    full = λ (status : 1 ≡ 6). absurd (omega (arith, status));
  }

  by_found : (found : Result Snapshot CrawlFault) → crawled tree ≡ found → Checks ask tree (taken_plan (checked_plan ask) found)
  by_found (Ok files) taken = of_list files taken (all_faults ask files) refl
  by_found (Err fault) met =
      let six = limit_status tree fault met in
      record {
        passed = λ files k clean. absurd (let z : Err fault ≡ Ok files = sym met ∙ k in cc);
        listed = λ files first more k h. absurd (let z : Err fault ≡ Ok files = sym met ∙ k in cc);
        limited = λ other k. ap (λ f. without_bytes (crawl_outcome f)) (let z : Err fault ≡ Err other = sym met ∙ k in let w : fault ≡ other = cc in w);
        limit = λ other k. six;
        clean = λ status. absurd (omega (arith, six, status));
        faulty = λ status. absurd (omega (arith, six, status));
        full = λ status. (fault, met);
      }

  -- what the plan of a check says
  pub checks : Checks ask tree (check_plan ask tree)
  checks = by_found (crawled tree) refl

-- ---- what was found

-- where there is no fault there are not too many modules
few_by : (b : Bool) (n : ℕ) (faults : List BuildFault) → nat_lt max_modules n ≡ b → cond b (TooManyModules ∷ []) faults ≡ [] → n ≤ max_modules
few_by true n faults e h = absurd (cc)
few_by false n faults e h = ltb-false max_modules n e

few_modules : (ask : Ask) (files : Snapshot) → all_faults ask files ≡ [] → length (reach ask files) ≤ max_modules
few_modules ask files h = few_by (nat_lt max_modules (length (reach ask files))) (length (reach ask files)) (flat_map (faults_at ask.options files) (members ask files)) refl h

plan_by : (ask : Ask) (files : Snapshot) (found : AllFaults) (faults : List BuildFault) → all_faults ask files ≡ faults → AreFaults ask files found → listed_plan (ok_line found.modules found.calls) faults ≡ listed_plan (clean_line ask files) faults
plan_by ask files found [] e h =
    let few : found.modules ≤ max_modules = subst (λ n. n ≤ max_modules) (sym h.modules) (few_modules ask files e) in
    ap (λ n. listed_plan (ok_line n found.calls) []) h.modules ∙ ap (λ n. listed_plan (ok_line (length (reach ask files)) n) []) (h.calls few)
plan_by ask files found (first ∷ faults) e h = refl

-- what the traversal found, as it was asked for
pub found_all :
    {E : Type 0} (ask : Ask) (options : Options) (entries : List (List ℕ)) (files : Snapshot) (r : Result AllFaults E) → options ≡ ask.options → entries ≡ ask.entries
    → IfOk r (λ found. found.list ≡ all_faults (record { options = options; entries = entries }) files) → IfOk r (λ found. found.modules ≡ length (reach (record { options = options; entries = entries }) files))
    → IfOk r (λ found. found.modules ≤ max_modules → found.calls ≡ dynamic_calls (record { options = options; entries = entries }) files) → IfOk r (AreFaults ask files)
found_all ask options entries files (Ok found) o e list modules calls =
    let same : record { options = options; entries = entries } ≡ ask = ap (λ x. record { options = x; entries = entries }) o ∙ ap (λ x. record { options = ask.options; entries = x }) e in
    record {
      list = list ∙ ap (λ a. all_faults a files) same;
      modules = modules ∙ ap (λ a. length (reach a files)) same;
      calls = λ few. calls few ∙ ap (λ a. dynamic_calls a files) same;
    }
found_all ask options entries files (Err fault) o e list modules calls = tt

-- what was found has the plan of the files
pub found_as : (ask : Ask) (files : Snapshot) (found : AllFaults) → AreFaults ask files found → found_plan found ≡ checked_plan ask files
found_as ask files found h = ap (listed_plan (ok_line found.modules found.calls)) h.list ∙ plan_by ask files found (all_faults ask files) refl h

-- ---- what a run fulfils

-- there is no fault, and the line that says so was sent
pub fulfils_clean : (ok : List ℕ) (list : List BuildFault) (before after : Seen (List ℕ)) (r : Result (Unit {0}) Trouble) (found : Outcome) → list ≡ [] → found ≡ sent_outcome Done r → WritesOrLacks before after ok r → Fulfils (listed_plan ok list) found before after
fulfils_clean ok list before after r found none is w =
    subst (λ l. Fulfils (listed_plan ok l) found before after) (sym none) (subst (λ o. Fulfils (listed_plan ok []) o before after) (sym is) (fulfils_sent (listed_plan ok []) before after r (omega arith) w))

-- there are faults, and their lines were sent
pub fulfils_faulty : (ok : List ℕ) (list : List BuildFault) (before after : Seen (List ℕ)) (r : Result (Unit {0}) Trouble) (found : Outcome) → (list ≡ [] → ⊥) → found ≡ sent_outcome Faulty r → WritesOrLacks before after (fault_lines list) r → Fulfils (listed_plan ok list) found before after
fulfils_faulty ok [] before after r found some is w = absurd (some refl)
fulfils_faulty ok (first ∷ faults) before after r found some is w =
    subst (λ o. Fulfils (listed_plan ok (first ∷ faults)) o before after) (sym is) (fulfils_sent (listed_plan ok (first ∷ faults)) before after r (omega arith) w)
