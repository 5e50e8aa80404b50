-- What the plan of a command says that makes one build, and what a run of it fulfils.
use Rattle.std.proofs.Common.{inl, inr, ◌≡◌, ◌∙◌, ℕ, List, [], ◌∷◌, Result, Ok, Err, refl, ap, sym, subst, arith}
use Rattle.std.specs.List.{IsDistinct}
use Rattle.std.specs.Str.{bytes_eq}
use Rattle.mt_io.specs.Files.{Files}
use Rattle.mt_io.specs.Seen.{Seen}
use Rattle.mt_io.proofs.Seen.{wrote_none}
use Rattle.mt_files.specs.Asks.{Ask}
use Rattle.mt_files.specs.Crawl.{crawled}
use Rattle.mt_files.specs.Fresh.{all_faults}
use Rattle.mt_files.specs.Reach.{reach}
use Rattle.mt_files.specs.Snapshots.{Snapshot}
use Rattle.mt_files.specs.declared.build_fault.BuildFault.{BuildFault}
use Rattle.mt_files.specs.declared.build_fault.BuildFault.TheVariants as fault_of
use Rattle.mt_files.specs.declared.fault.CrawlFault.{CrawlFault}
use Rattle.mt_files.proofs.Reach.{reach_ascending}
use Rattle.mt_revision.proofs.Extensions.{ascending_distinct, extended_distinct}
use Rattle.mt_revision.proofs.Revisions.{after_content}
use Rattle.mt_revision.specs.Contents.{HasContent}
use Rattle.mt_revision.specs.declared.revision.Revision.{Revision}
use Rattle.mt_report.specs.Outcomes.{build_outcome, crawl_outcome}
use Rattle.mt_report.specs.declared.outcome.Outcome.{Outcome}
use Rattle.mt_report.specs.declared.outcome.Outcome.TheVariants.{Refused}
use Rattle.metro_program.specs.declared.state.NextBuild.{NextBuild}
use Rattle.metro_program.specs.Progress.{Fulfils, Keeps}
use Rattle.mt_request.specs.Asks.{AreEntries}
use Rattle.metro_program.specs.States.{State, opened}
use Rattle.metro_program.specs.Builds.{build_with, fresh_build, next_build, numbering_after}
use Rattle.metro_program.specs.First.{WritesFirst, built_plan, first_numbering, first_plan, snapshot_plan}
use Rattle.metro_program.specs.Plans.{taken_plan, without_bytes}
use Rattle.metro_program.proofs.Bounded.{all_numbered}
use Rattle.metro_program.proofs.Fulfils.{fulfils_memory, fulfils_wrote}
use Rattle.metro_program.proofs.IsFresh.{content_traversal}
use Rattle.metro_program.proofs.NextBuild.{IsBuild}
use Rattle.metro_program.proofs.Replays.{limit_status}

none_distinct : IsDistinct bytes_eq []
unfolding IsDistinct
none_distinct = tt

module _ (text : Revision → List ℕ) (ask : Ask) (tree : Files) (are : AreEntries ask.entries) where
  pub first_distinct : (files : Snapshot) → IsDistinct bytes_eq (first_numbering ask files)
  first_distinct files = extended_distinct [] ask.entries (reach ask files) none_distinct are.distinct (ascending_distinct (reach ask files) (reach_ascending ask files))

  first_content : (files : Snapshot) → all_faults ask files ≡ [] → HasContent ask (next_build (opened ask files)).revision (first_numbering ask files) files
  first_content files clean =
      let s : State = opened ask files in
      after_content ask s.latest 0 (numbering_after s) files clean (all_numbered s)

  same_files : (files others : Snapshot) → crawled tree ≡ Ok files → crawled tree ≡ Ok others → files ≡ others
  same_files files others e k = let z : Ok files ≡ Ok others = sym e ∙ k in cc

  of_faults : (files : Snapshot) → crawled tree ≡ Ok files → (faults : List BuildFault) → all_faults ask files ≡ faults → WritesFirst text ask tree (built_plan text (build_with (opened ask files) faults))
  of_faults files taken [] e = record {
    made = λ others k clean. refl;
    refused = λ fault h. absurd (let z : [] ≡ fault ∷ h.others = sym e ∙ ap (all_faults ask) (same_files files h.files taken h.taken) ∙ h.faults in cc);
    limited = λ fault k. absurd (let z : Ok files ≡ Err fault = sym taken ∙ k in cc);
    limit = λ fault k. absurd (let z : Ok files ≡ Err fault = sym taken ∙ k in cc);
    written = λ status. record {
      files = files;
      taken = taken;
      faultless = e;
      build = next_build (opened ask files);
      numbering = refl;
      content = first_content files e;
      traversal = content_traversal ask files (next_build (opened ask files)).revision (first_numbering ask files) files (first_distinct files) (first_content files e);
      text_is = refl;
    };
    fault = λ (status : 0 ≡ 1). absurd (omega (arith, status));
    full = λ (status : 0 ≡ 6). absurd (omega (arith, status));
  }
  of_faults files taken (first ∷ faults) e = record {
    made = λ others k clean. absurd (let z : first ∷ faults ≡ [] = sym e ∙ ap (all_faults ask) (same_files files others taken k) ∙ clean in cc);
    refused = λ fault h. let z : first ∷ faults ≡ fault ∷ h.others = sym e ∙ ap (all_faults ask) (same_files files h.files taken h.taken) ∙ h.faults in let w : first ≡ fault = cc in ap (λ f. without_bytes (Refused f)) w;
    limited = λ fault k. absurd (let z : Ok files ≡ Err fault = sym taken ∙ k in cc);
    limit = λ fault k. absurd (let z : Ok files ≡ Err fault = sym taken ∙ k in cc);
    written = λ (status : 1 ≡ 0). absurd (omega (arith, status));
    fault = λ status. (first, record { files = files; taken = taken; others = faults; faults = e });
    full = λ (status : 1 ≡ 6). absurd (omega (arith, status));
  }

  by_found : (found : Result Snapshot CrawlFault) → crawled tree ≡ found → WritesFirst text ask tree (taken_plan (snapshot_plan text ask) found)
  by_found (Ok files) taken = of_faults files taken (all_faults ask files) refl
  by_found (Err fault) met =
      let six = limit_status tree fault met in
      record {
        made = λ files k clean. absurd (let z : Err fault ≡ Ok files = sym met ∙ k in cc);
        refused = λ other h. absurd (let z : Err fault ≡ Ok h.files = sym met ∙ h.taken in cc);
        limited = λ other k. ap (λ f. without_bytes (crawl_outcome f)) (let z : Err fault ≡ Err other = sym met ∙ k in let w : fault ≡ other = cc in w);
        limit = λ other k. six;
        written = λ status. absurd (omega (arith, six, status));
        fault = λ status. absurd (omega (arith, six, status));
        full = λ status. (fault, met);
      }

  -- what the plan of a command says that makes one build
  pub writes_first : WritesFirst text ask tree (first_plan text ask tree)
  writes_first = by_found (crawled tree) refl

-- ---- what a run of it fulfils

pub built_ok : (s : State) (build : NextBuild) → IsBuild s (Ok build) → fresh_build s ≡ Ok build
built_ok s build (inl h) = absurd (cc)
built_ok s build (inr h) = sym h

built_err : (s : State) (fault : BuildFault) → (fault ≡ fault_of.NoMemory → ⊥) → IsBuild s (Err fault) → fresh_build s ≡ Err fault
built_err s fault other (inl h) = absurd (other (let k : fault ≡ fault_of.NoMemory = cc in k))
built_err s fault other (inr h) = sym h

-- of a build that this is the build of
module _ (text : Revision → List ℕ) (s : State) where
  pub keeps_built : (build : NextBuild) (found : Outcome) (before after : Seen (List ℕ)) → IsBuild s (Ok build) → Keeps (built_plan text (Ok build)) found before after → Keeps (built_plan text (fresh_build s)) found before after
  keeps_built build found before after is h = subst (λ r. Keeps (built_plan text r) found before after) (sym (built_ok s build is)) h

  refused_by : (fault : BuildFault) (out : Seen (List ℕ)) → (fault ≡ fault_of.NoMemory → ⊥) → IsBuild s (Err fault) → Fulfils (built_plan text (fresh_build s)) (Refused fault) out out
  refused_by fault out other h = subst (λ r. Fulfils (built_plan text r) (Refused fault) out out) (sym (built_err s fault other h)) (fulfils_wrote (without_bytes (Refused fault)) out out (omega arith) (wrote_none out))

  fulfils_refused : (fault : BuildFault) (out : Seen (List ℕ)) → IsBuild s (Err fault) → Fulfils (built_plan text (fresh_build s)) (build_outcome fault) out out
  fulfils_refused (fault_of.EntryMissing path) out h = refused_by (fault_of.EntryMissing path) out (λ e. cc) h
  fulfils_refused (fault_of.Source path fault) out h = refused_by (fault_of.Source path fault) out (λ e. cc) h
  fulfils_refused (fault_of.Unresolved path place name) out h = refused_by (fault_of.Unresolved path place name) out (λ e. cc) h
  fulfils_refused (fault_of.Package path place package_path) out h = refused_by (fault_of.Package path place package_path) out (λ e. cc) h
  fulfils_refused fault_of.TooManyModules out h = refused_by fault_of.TooManyModules out (λ e. cc) h
  fulfils_refused fault_of.NoMemory out h = fulfils_memory (built_plan text (fresh_build s)) out

  -- the build was refused, and nothing was written; or memory ran out
  pub keeps_refused : (fault : BuildFault) (found : Outcome) (out : Seen (List ℕ)) → found ≡ build_outcome fault → IsBuild s (Err fault) → Keeps (built_plan text (fresh_build s)) found out out
  keeps_refused fault found out is h = subst (λ x. Keeps (built_plan text (fresh_build s)) x out out) (sym is) (fulfils_refused fault out h).keeps
