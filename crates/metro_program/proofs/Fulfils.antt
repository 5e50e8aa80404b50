-- What a run fulfils of a plan, by what it wrote.
use Rattle.std.proofs.Common.{◌≡◌, ◌<◌, ℕ, List, [], Result, Ok, Err, refl, ap, sym, subst, arith}
use Rattle.mt_io.specs.Causes.{Rose}
use Rattle.mt_io.specs.Seen.{Seen, Stopped as Began, WritesOrLacks, Wrote}
use Rattle.mt_io.specs.declared.trouble.Trouble.{Trouble}
use Rattle.mt_io.specs.declared.trouble.Trouble.TheVariants as trouble
use Rattle.mt_io.proofs.Seen.{stopped_all, stopped_apart, stopped_none, wrote_apart, wrote_none}
use Rattle.mt_files.specs.declared.build_fault.BuildFault.{BuildFault}
use Rattle.mt_files.specs.declared.build_fault.BuildFault.TheVariants as fault_of
use Rattle.mt_report.specs.Outcomes.{build_outcome, status_of}
use Rattle.mt_report.specs.declared.outcome.Outcome.{Outcome}
use Rattle.mt_report.specs.declared.outcome.Outcome.TheVariants.{NoMemory, Refused, WriteFailed}
use Rattle.metro_program.specs.Plans.{Plan, sent_outcome}
use Rattle.metro_program.specs.Progress.{Fulfils, OnlyWrites}
use Rattle.metro_program.proofs.HasDone.{keeps_fault}
use Rattle.metro_program.proofs.Moves.{no_memory, no_write}

-- ---- what was only written

only_wrote : (found : Outcome) (before after : Seen (List ℕ)) (bytes : List ℕ) → status_of found < 2 → Wrote before after bytes → OnlyWrites found before after
only_wrote found before after bytes early wrote = record {
  read = λ e. let three : status_of found ≡ 3 = ap status_of e in omega (arith, early, three);
  write = λ e. absurd (let four : status_of found ≡ 4 = ap status_of e in omega (arith, early, four));
  apart = wrote_apart before after bytes wrote;
  own = (λ two. omega (arith, early, two), λ seven. omega (arith, early, seven));
}

only_cut : (before after : Seen (List ℕ)) (bytes : List ℕ) → Rose before.faults after.faults → Began before after bytes → OnlyWrites WriteFailed before after
only_cut before after bytes rose begun = record {
  read = λ e. absurd (cc);
  write = λ e. rose;
  apart = stopped_apart before after bytes begun;
  own = (λ (h : 4 ≡ 2). omega (arith, h), λ (h : 4 ≡ 7). omega (arith, h));
}

only_lack : (before after : Seen (List ℕ)) (bytes : List ℕ) → Began before after bytes → OnlyWrites NoMemory before after
only_lack before after bytes begun = record {
  read = λ e. absurd (cc);
  write = λ e. absurd (cc);
  apart = stopped_apart before after bytes begun;
  own = (λ (h : 5 ≡ 2). omega (arith, h), λ (h : 5 ≡ 7). omega (arith, h));
}

refused_only : (fault : BuildFault) (out : Seen (List ℕ)) → OnlyWrites (build_outcome fault) out out
refused_only (fault_of.EntryMissing path) out = only_wrote (Refused (fault_of.EntryMissing path)) out out [] (omega arith) (wrote_none out)
refused_only (fault_of.Source path fault) out = only_wrote (Refused (fault_of.Source path fault)) out out [] (omega arith) (wrote_none out)
refused_only (fault_of.Unresolved path place name) out = only_wrote (Refused (fault_of.Unresolved path place name)) out out [] (omega arith) (wrote_none out)
refused_only (fault_of.Package path place package_path) out = only_wrote (Refused (fault_of.Package path place package_path)) out out [] (omega arith) (wrote_none out)
refused_only fault_of.TooManyModules out = only_wrote (Refused fault_of.TooManyModules) out out [] (omega arith) (wrote_none out)
refused_only fault_of.NoMemory out = only_lack out out [] (stopped_none out [])

-- a build that was refused, or for which memory ran out, writes nothing
pub only_refused : (fault : BuildFault) (found : Outcome) (out : Seen (List ℕ)) → found ≡ build_outcome fault → OnlyWrites found out out
only_refused fault found out is = subst (λ x. OnlyWrites x out out) (sym is) (refused_only fault out)

-- ---- plans

-- the bytes of a plan that is done or refused were written
pub fulfils_wrote : (plan : Plan) (before after : Seen (List ℕ)) → status_of plan.outcome < 2 → Wrote before after plan.bytes → Fulfils plan plan.outcome before after
fulfils_wrote plan before after early wrote = record { keeps = record { planned = λ p. refl; written = λ p. wrote; begun = stopped_all before after plan.bytes wrote }; only = only_wrote plan.outcome before after plan.bytes early wrote }

-- the output failed, after a prefix of the bytes
pub fulfils_cut : (plan : Plan) (before after : Seen (List ℕ)) → Rose before.faults after.faults → Began before after plan.bytes → Fulfils plan WriteFailed before after
fulfils_cut plan before after rose begun = record { keeps = keeps_fault plan WriteFailed before after no_write begun; only = only_cut before after plan.bytes rose begun }

-- memory ran out, after a prefix of the bytes
fulfils_lack : (plan : Plan) (before after : Seen (List ℕ)) → Began before after plan.bytes → Fulfils plan NoMemory before after
fulfils_lack plan before after begun = record { keeps = keeps_fault plan NoMemory before after no_memory begun; only = only_lack before after plan.bytes begun }

-- memory ran out before the first byte
pub fulfils_memory : (plan : Plan) (out : Seen (List ℕ)) → Fulfils plan NoMemory out out
fulfils_memory plan out = fulfils_lack plan out out (stopped_none out plan.bytes)

-- the bytes were sent
pub fulfils_sent : (plan : Plan) (before after : Seen (List ℕ)) (r : Result (Unit {0}) Trouble) → status_of plan.outcome < 2 → WritesOrLacks before after plan.bytes r → Fulfils plan (sent_outcome plan.outcome r) before after
fulfils_sent plan before after (Ok all) early w = fulfils_wrote plan before after early w.all
fulfils_sent plan before after (Err trouble.Failed) early w = fulfils_cut plan before after (w.cause refl) w.stop
fulfils_sent plan before after (Err trouble.NoMemory) early w = fulfils_lack plan before after w.stop
