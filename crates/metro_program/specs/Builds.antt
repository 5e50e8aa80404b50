-- What a build makes of a state, and what it answers.
use Rattle.std.specs.Prelude.{◌≡◌, ◌⊎◌, ℕ, true, ◌==◌, List, [], ◌∷◌, ◌++◌, length, if◌then◌else◌, Option, Some, None, Result, Ok, Err}
use Rattle.std.specs.FinMap.{contains_key}
use Rattle.std.specs.List.{All, IsDistinct}
use Rattle.std.specs.Option.{option_and_then, option_map_or}
use Rattle.std.specs.Str.{bytes_eq}
use Rattle.mt_files.specs.Fresh.{all_faults}
use Rattle.mt_files.specs.Reach.{reach}
use Rattle.mt_files.specs.declared.build_fault.BuildFault.{BuildFault}
use Rattle.mt_revision.specs.Contents.{numbers_of, revision_after}
use Rattle.mt_revision.specs.Logs.{Logged, Accepted, Denied}
use Rattle.mt_revision.specs.Numberings.{extended, has_path}
use Rattle.mt_revision.specs.Revisions.{WasMadeAfter}
use Rattle.mt_revision.specs.declared.revision.Revision.{Revision}
use Rattle.metro_program.specs.declared.state.NextBuild.{NextBuild}
use Rattle.metro_program.specs.States.{State}

-- ---- a build of the files

-- the numbered paths once the entries and the modules of the files have numbers
abbrev pub numbering_after : State → List (List ℕ)
numbering_after s = extended s.numbering s.ask.entries (reach s.ask s.files)

-- the build of files that have no fault: its revision comes after the latest, and counts all accepted changes
abbrev pub next_build : State → NextBuild
next_build s = record { numbering = numbering_after s; revision = revision_after s.ask s.latest (length s.journal) (numbering_after s) s.files }

-- the build of files that have these faults, or the first of them
abbrev pub build_with : State → List BuildFault → Result NextBuild BuildFault
build_with s [] = Ok (next_build s)
build_with s (fault ∷ faults) = Err fault

-- the build of the files, or their first fault
abbrev pub fresh_build : State → Result NextBuild BuildFault
fresh_build s = build_with s (all_faults s.ask s.files)

-- ---- each build

-- what a build is, whoever found its modules: no number is given up or changed, those that get one are files, and each entry has one; and its revision is for development where the options are, starts the entries, comes after the latest one and counts all accepted changes
pub record IsNext (s : State) (build : NextBuild) : Type 0 where
  pub kept : (more : List (List ℕ)) × (build.numbering ≡ s.numbering ++ more)
  pub numbered : (path : List ℕ) → has_path build.numbering path ≡ true → (has_path s.numbering path ≡ true) ⊎ (contains_key s.files path ≡ true)
  pub distinct : IsDistinct bytes_eq build.numbering
  pub entries : All (λ entry. has_path build.numbering entry ≡ true) s.ask.entries
  pub starts : build.revision.entries ≡ numbers_of build.numbering s.ask.entries
  pub made : WasMadeAfter s.latest build.revision
  pub dev : build.revision.dev ≡ s.ask.options.dev
  pub changes : build.revision.changes ≡ length s.journal

-- ---- answers

-- what a build answers: a revision or a refusal, which the log has, or that the latest revision counts all accepted changes
pub data Answer : Type 0 where
  Built : Logged → Answer
  Same : ℕ → Answer

-- where a step of a replay leads, and what it answers
pub record Step : Type 0 where
  pub state : State
  pub answers : List Answer

-- the state with what a build gave
abbrev pub with_build : State → NextBuild → State
with_build s build = record { ask = s.ask; files = s.files; journal = s.journal; numbering = build.numbering; latest = Some build.revision; refusal = None }

-- the state once the last build was refused, or not: it gives no number and no revision
abbrev pub with_refusal : State → Option BuildFault → State
with_refusal s refusal = record { ask = s.ask; files = s.files; journal = s.journal; numbering = s.numbering; latest = s.latest; refusal = refusal }

-- where a build leads
abbrev pub build_step : State → Result NextBuild BuildFault → Step
build_step s (Ok build) = record { state = with_build s build; answers = Built (Accepted build.revision) ∷ [] }
build_step s (Err fault) = record { state = with_refusal s (Some fault); answers = Built (Denied (length s.journal) fault) ∷ [] }

-- the number of a revision, if it counts so many changes
abbrev pub number_at : ℕ → Revision → Option ℕ
number_at count revision = if revision.changes == count then Some revision.number else None

-- the number of the latest revision, if it counts all accepted changes
abbrev pub same_number : State → Option ℕ
same_number s = option_and_then (number_at (length s.journal)) s.latest

-- where a build leads that is asked for: it builds nothing where the latest revision counts all accepted changes
abbrev pub asked_step : State → Step
asked_step s = option_map_or (λ number. record { state = with_refusal s None; answers = Same number ∷ [] }) (same_number s) (build_step s (fresh_build s))
