-- Snapshots that agree on what one is asked about.
use Rattle.std.specs.Prelude.{◌≡◌, ℕ, List, All}
use Rattle.mt_package.specs.declared.options.Options.{Options}
use Rattle.mt_tokens.specs.declared.source.DepKind.{DepKind}
use Rattle.mt_files.specs.Resolve.{AgreeAt, probes, resolved}
use Rattle.mt_files.specs.Snapshots.{Snapshot}

-- they agree on each path that the first is asked about for a name
abbrev pub Agree : Options → Snapshot → Snapshot → List ℕ → List ℕ → DepKind → Type 0
Agree options f g origin name kind = All (AgreeAt f g) (probes options f origin name kind)

-- the name leads to the same target in both
abbrev pub SameTarget : Options → Snapshot → Snapshot → List ℕ → List ℕ → DepKind → Type 0
SameTarget options f g origin name kind = resolved options f origin name kind ≡ resolved options g origin name kind

-- both are asked about the same paths
abbrev pub SameProbes : Options → Snapshot → Snapshot → List ℕ → List ℕ → DepKind → Type 0
SameProbes options f g origin name kind = probes options f origin name kind ≡ probes options g origin name kind
