-- The lines that tell of builds.
use Rattle.std.specs.Prelude.{ℕ, List, ◌++◌, length, Option, codes}
use Rattle.std.specs.Fmt.{decimal}
use Rattle.std.specs.FinMap.{len}
use Rattle.sha2.specs.Sha256.{sha256}
use Rattle.hex.specs.Hex.{encode_lower}
use Rattle.mt_files.specs.declared.build_fault.BuildFault.{BuildFault}
use Rattle.mt_files.specs.FaultText.{text_of}
use Rattle.mt_revision.specs.Held.{delta, lengths_of}
use Rattle.mt_revision.specs.Revisions.{bundle_of, held_before, held_of}
use Rattle.mt_revision.specs.declared.delta_lengths.DeltaLengths.{DeltaLengths}
use Rattle.mt_revision.specs.declared.revision.Revision.{Revision}

-- a name and a number before the rest of a line
abbrev pub field : List ℕ → ℕ → List ℕ → List ℕ
field name number rest = name ++ (decimal number ++ rest)

-- how many modules a revision adds, changes and takes out, before the rest of a line
abbrev pub delta_fields : DeltaLengths → List ℕ → List ℕ
delta_fields lengths rest = field (codes " added ") lengths.added (field (codes " modified ") lengths.modified (field (codes " deleted ") lengths.deleted rest))

-- the length of a bundle, and its digest in hexadecimal, which end a line
abbrev pub bundle_fields : ℕ → List ℕ → List ℕ
bundle_fields size digest = field (codes " bytes ") size (codes " digest " ++ (digest ++ codes "\n"))

-- the number of a revision, and its changes and modules, which begin a line
abbrev pub count_fields : ℕ → ℕ → ℕ → List ℕ
count_fields number changes modules = codes "revision " ++ (decimal number ++ (codes " changes " ++ (decimal changes ++ (codes " modules " ++ decimal modules))))

-- the line of a revision with this number, so many changes and modules, these lengths of a delta, and this length and digest of a bundle
abbrev pub figures_line : ℕ → ℕ → ℕ → DeltaLengths → ℕ → List ℕ → List ℕ
figures_line number changes modules lengths size digest = count_fields number changes modules ++ delta_fields lengths (bundle_fields size digest)

-- the line of a build that gave a revision, which comes after this one, if there is one
abbrev pub revision_line : Option Revision → Revision → List ℕ
revision_line before revision =
    figures_line revision.number revision.changes (len revision.modules) (lengths_of (delta (held_before before) (held_of revision))) (length (bundle_of revision)) (encode_lower (sha256 (bundle_of revision)))

-- the line of a build before which no change was accepted since the revision with this number
abbrev pub same_line : ℕ → List ℕ
same_line number = field (codes "same ") number (codes "\n")

-- the line of a build that was refused once so many changes were accepted
abbrev pub refused_line : ℕ → BuildFault → List ℕ
refused_line changes fault = field (codes "refused changes ") changes (codes " " ++ (text_of fault ++ codes "\n"))

-- the numbers of modules, edits and revisions of a generated run, which begin its line
abbrev pub grown_counts : ℕ → ℕ → ℕ → List ℕ
grown_counts modules edits revisions = codes "grown modules " ++ (decimal modules ++ (codes " edits " ++ (decimal edits ++ (codes " revisions " ++ decimal revisions))))

-- the line of a generated run: how many modules and edits were asked for, and of the last revision its number, how many modules live, how many paths have numbers, and the length and digest of its bundle
abbrev pub grown_figures : ℕ → ℕ → ℕ → ℕ → ℕ → ℕ → List ℕ → List ℕ
grown_figures modules edits revisions live numbered size digest = grown_counts modules edits revisions ++ field (codes " live ") live (field (codes " numbered ") numbered (bundle_fields size digest))

-- the same of a last revision
abbrev pub grown_line : ℕ → ℕ → ℕ → Revision → List ℕ
grown_line modules edits numbered revision =
    grown_figures modules edits revision.number (len revision.modules) numbered (length (bundle_of revision)) (encode_lower (sha256 (bundle_of revision)))
