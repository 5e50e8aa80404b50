-- How a state is stored, so that proofs can tell states apart.
use Rattle.std.specs.Prelude.{ℕ, List, Option, refl}
use Rattle.std.specs.Coded.{Coded, code_by, coded×, coded_list, coded_option, coded_ℕ}
use Rattle.mt_files.specs.Asks.{Ask}
use Rattle.mt_files.specs.Snapshots.{Snapshot}
use Rattle.mt_files.specs.declared.build_fault.BuildFault.{BuildFault}
use Rattle.mt_files.specs.declared.change.Change.{Change}
use Rattle.mt_files.specs.contracts.build_fault.BuildFault as fault_row
use Rattle.mt_files.specs.contracts.file_map.FileMap as files_row
use Rattle.mt_files.specs.contracts.journal.Journal as journal_row
use Rattle.mt_package.specs.declared.options.Options.{Options}
use Rattle.mt_package.specs.contracts.options.Options as options_row
use Rattle.mt_revision.specs.declared.revision.Revision.{Revision}
use Rattle.mt_revision.specs.contracts.revision.Revision as revision_row
use Rattle.metro_program.specs.States.{State}

-- what builds are asked for is stored as the pair of its fields
abbrev pub ask_code : Coded Ask
ask_code = code_by (Options × List (List ℕ)) (coded× options_row.the_row.coded (coded_list (coded_list coded_ℕ))) (λ a. (a.options, a.entries)) (λ p. record { options = p.0; entries = p.1 }) (λ _. refl)

-- a state is stored as the tuple of its fields
abbrev pub state_code : Coded State
state_code =
    code_by (Ask × (Snapshot × (List Change × (List (List ℕ) × (Option Revision × Option BuildFault)))))
    (coded× ask_code (coded× files_row.the_row.coded (coded× journal_row.the_row.coded (coded× (coded_list (coded_list coded_ℕ)) (coded× (coded_option revision_row.the_row.coded) (coded_option fault_row.the_row.coded))))))
    (λ s. (s.ask, (s.files, (s.journal, (s.numbering, (s.latest, s.refusal))))))
    (λ t. record { ask = t.0; files = t.1.0; journal = t.1.1.0; numbering = t.1.1.1.0; latest = t.1.1.1.1.0; refusal = t.1.1.1.1.1 }) (λ _. refl)
