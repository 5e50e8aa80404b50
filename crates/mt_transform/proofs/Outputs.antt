-- Outputs that are what their sources become.
use Rattle.std.proofs.Common.{◌≡◌, Bool, ℕ, List, get_or, length, map, Result, Ok, Err, ap, subst, sym, ◌∙◌}
use Rattle.std.specs.List.{slice_get}
use Rattle.std.specs.Option.{unwrap_or}
use Rattle.std.proofs.lemmas.List.{length-map}
use Rattle.std.proofs.lemmas.Option.{unwrap_or-slice_get}
use Rattle.mt_tokens.specs.Transform.{Transformed, dependencies_of, transformed}
use Rattle.mt_tokens.specs.declared.source.PathKind.{PathKind}
use Rattle.mt_tokens.specs.declared.source.SourceFault.{SourceFault}
use Rattle.mt_transform.specs.Outputs.{IsSure, name_of, output_made, output_of, places_of, source_dependencies}
use Rattle.mt_transform.specs.declared.output.Output.{Output}

-- what an output keeps of what it was made of
pub record Keeps (strip : Bool) (kind : PathKind) (source : List ℕ) (t : Result Transformed SourceFault) (o : Output) : Type 0 where
  pub strip_is : strip ≡ o.strip
  pub kind_is : kind ≡ o.kind
  pub source_is : source ≡ o.source
  pub names_are : o.names ≡ map name_of (dependencies_of t)

made_keeps : (strip : Bool) (kind : PathKind) (source : List ℕ) (t : Result Transformed SourceFault) (o : Output) → output_made strip kind source t ≡ Ok o → Keeps strip kind source t o
made_keeps strip kind source (Ok t) o e = record { strip_is = cc; kind_is = cc; source_is = cc; names_are = cc }
made_keeps strip kind source (Err f) o e = absurd (cc)

pub output_keeps : (strip : Bool) (kind : PathKind) (source : List ℕ) (o : Output) → output_of strip kind source ≡ Ok o → Keeps strip kind source (transformed strip kind source) o
output_keeps strip kind source o e = made_keeps strip kind source (transformed strip kind source) o e

-- the output of a source is sure
pub output_sure : (strip : Bool) (kind : PathKind) (source : List ℕ) (o : Output) → output_of strip kind source ≡ Ok o → IsSure o
output_sure strip kind source o e =
    let k = output_keeps strip kind source o e in
    subst (λ s. output_of o.strip o.kind s ≡ Ok o) k.source_is (subst (λ x. output_of o.strip x source ≡ Ok o) k.kind_is (subst (λ b. output_of b kind source ≡ Ok o) k.strip_is e))

-- the names of an output that is sure
sure_names : (o : Output) → IsSure o → o.names ≡ map name_of (source_dependencies o)
sure_names o h = (output_keeps o.strip o.kind o.source o h).names_are

-- each of them has a place
pub sure_places : (o : Output) → IsSure o → length (places_of o) ≡ length o.names
sure_places o h = length-map (source_dependencies o) (λ d. d.place) ∙ sym (ap length (sure_names o h) ∙ length-map (source_dependencies o) name_of)

-- a place that is read, 0 where there is none
pub place_at : (places : List ℕ) (i : ℕ) → unwrap_or (slice_get places i) 0 ≡ get_or places i 0
place_at places i = unwrap_or-slice_get places i 0
