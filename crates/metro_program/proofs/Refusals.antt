-- What a build answers that was asked for, by what it found.
use Rattle.std.proofs.Common.{inl, inr, ◌≡◌, ◌∙◌, ℕ, Bool, List, [], ◌∷◌, None, Result, Ok, Err, ap, sym, subst}
use Rattle.std.specs.Prelude.{OnOk, OnErr}
use Rattle.std.specs.Option.{option_map_or}
use Rattle.mt_io.specs.Seen.{Seen, Stopped, WritesOrLacks, Wrote}
use Rattle.mt_io.specs.declared.trouble.Trouble.{Trouble}
use Rattle.mt_io.specs.declared.trouble.Trouble.TheVariants as trouble
use Rattle.mt_io.proofs.Seen.{stopped_none}
use Rattle.mt_files.specs.declared.build_fault.BuildFault.{BuildFault}
use Rattle.mt_files.specs.declared.build_fault.BuildFault.TheVariants.{NoMemory}
use Rattle.metro_program.specs.declared.state.NextBuild.{NextBuild}
use Rattle.metro_program.specs.Builds.{Same, Step, asked_step, build_step, fresh_build, same_number, with_refusal}
use Rattle.metro_program.specs.Replay.{lines_after}
use Rattle.metro_program.specs.States.{State}
use Rattle.metro_program.proofs.NextBuild.{IsBuild}

-- where the latest revision counts fewer changes, the files are built
pub asked_new : (s : State) → same_number s ≡ None → asked_step s ≡ build_step s (fresh_build s)
asked_new s new = ap (λ same. option_map_or (λ number. record { state = with_refusal s None; answers = Same number ∷ [] }) same (build_step s (fresh_build s))) new

module _ (s now : State) (before after : Seen (List ℕ)) (r : Result (Unit {0}) Trouble) (new : same_number s ≡ None) where
  -- a build of the files led on
  pub built_state : (build : NextBuild) → IsBuild s (Ok build) → OnOk r (now ≡ (build_step s (Ok build)).state) → OnOk r (now ≡ (asked_step s).state)
  built_state build (inl h) led = absurd (cc)
  built_state build (inr h) led = subst (λ (step : Step). OnOk r (now ≡ step.state)) (ap (build_step s) h ∙ sym (asked_new s new)) led

  -- and its line was written
  pub built_writes : (full : Bool) (build : NextBuild) → IsBuild s (Ok build) → WritesOrLacks before after (lines_after full s.latest (build_step s (Ok build)).answers) r → WritesOrLacks before after (lines_after full s.latest (asked_step s).answers) r
  built_writes full build (inl h) wrote = absurd (cc)
  built_writes full build (inr h) wrote = subst (λ (step : Step). WritesOrLacks before after (lines_after full s.latest step.answers) r) (ap (build_step s) h ∙ sym (asked_new s new)) wrote

  -- a refused build of the files led on, unless memory ran out
  pub refused_state : (fault : BuildFault) → IsBuild s (Err fault) → (fault ≡ NoMemory → (r ≡ Err trouble.NoMemory) × (after ≡ before)) → OnOk r (now ≡ (build_step s (Err fault)).state) → OnOk r (now ≡ (asked_step s).state)
  refused_state fault (inl h) stops led = let none : fault ≡ NoMemory = cc in subst (λ x. OnOk x (now ≡ (asked_step s).state)) (sym (stops none).0) tt
  refused_state fault (inr h) stops led = subst (λ (step : Step). OnOk r (now ≡ step.state)) (ap (build_step s) h ∙ sym (asked_new s new)) led

  -- and its line was written
  pub refused_writes :
      (full : Bool) (fault : BuildFault) → IsBuild s (Err fault) → (fault ≡ NoMemory → (r ≡ Err trouble.NoMemory) × (after ≡ before)) → WritesOrLacks before after (lines_after full s.latest (build_step s (Err fault)).answers) r
      → WritesOrLacks before after (lines_after full s.latest (asked_step s).answers) r
  refused_writes full fault (inl h) stops wrote =
      let none : fault ≡ NoMemory = cc in
      let stop = stops none in
      let line = lines_after full s.latest (asked_step s).answers in
      record {
        all = subst (λ x. OnOk x (Wrote before after line)) (sym stop.0) tt;
        stop = subst (λ x. OnErr x (Stopped before after line)) (sym stop.0) (subst (λ x. Stopped before x line) (sym stop.1) (stopped_none before line));
        cause = wrote.cause;
        later = wrote.later;
      }
  refused_writes full fault (inr h) stops wrote = subst (λ (step : Step). WritesOrLacks before after (lines_after full s.latest step.answers) r) (ap (build_step s) h ∙ sym (asked_new s new)) wrote
