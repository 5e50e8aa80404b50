-- What a source becomes, as an output.
use Rattle.std.specs.Prelude.{◌≡◌, ℕ, Bool, List, map, Result, Ok, Err}
use Rattle.mt_tokens.specs.Deps.{Dependency}
use Rattle.mt_tokens.specs.Transform.{Transformed, dependencies_of, transformed}
use Rattle.mt_tokens.specs.declared.source.PathKind.{PathKind}
use Rattle.mt_tokens.specs.declared.source.SourceFault.{SourceFault}
use Rattle.mt_transform.specs.declared.output.Name.{Name}
use Rattle.mt_transform.specs.declared.output.Output.{Output}

-- the name that a dependency requires, with how it does
abbrev pub name_of : Dependency → Name
name_of d = record { text = d.name; kind = d.kind }

-- the output for what a source became
abbrev pub output_made : Bool → PathKind → List ℕ → Result Transformed SourceFault → Result Output SourceFault
output_made strip kind source (Ok t) = Ok (record { source = source; strip = strip; kind = kind; body = t.body; names = map name_of t.dependencies; dynamic = t.dynamic })
output_made strip kind source (Err f) = Err f

-- the output of a source, or its refusal
abbrev pub output_of : Bool → PathKind → List ℕ → Result Output SourceFault
output_of strip kind source = output_made strip kind source (transformed strip kind source)

-- an output that is what its source becomes
abbrev pub IsSure : Output → Type 0
IsSure o = output_of o.strip o.kind o.source ≡ Ok o

-- the dependencies that the source of an output has
abbrev pub source_dependencies : Output → List Dependency
source_dependencies o = dependencies_of (transformed o.strip o.kind o.source)

-- where each dependency of an output's source is first, in their order
abbrev pub places_of : Output → List ℕ
places_of o = map (λ d. d.place) (source_dependencies o)
