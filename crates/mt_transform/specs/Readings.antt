-- What a source becomes, by its reading.
use Rattle.std.specs.Prelude.{Bool, List, ℕ}
use Rattle.mt_tokens.specs.Transform.{Transformed, json_of, made_of}
use Rattle.mt_transform.specs.declared.reading.Reading.{Reading}
use Rattle.mt_transform.specs.declared.reading.Reading.TheVariants.{Json, Script}

-- the body and the dependencies of a source that is read
abbrev pub made : Bool → List ℕ → Reading → Transformed
made strip source (Script tokens list) = made_of strip source tokens list
made strip source Json = json_of source
