-- What contracts see of an output.
use Rattle.std.specs.Prelude.{ℕ, ◌≤◌, Bool, IsUtf8, List, length}
use Rattle.mt_tokens.specs.Sources.{max_source_bytes}
use Rattle.mt_tokens.specs.Transform.{max_dependencies}
use Rattle.mt_tokens.specs.declared.source.PathKind.{PathKind}
use Rattle.mt_transform.specs.declared.output.Name.{Name}

-- a source, how it was made into a body, the body, the names that it requires, and how many calls name what only a run can tell
pub record OutputValue : Type 0 where
  pub source : List ℕ
  pub strip : Bool
  pub kind : PathKind
  pub body : List ℕ
  pub names : List Name
  pub dynamic : ℕ

-- what holds of every output, whether its body is what its source becomes or not
pub record IsOutput (source body : List ℕ) (names : List Name) : Type 0 where
  pub small : length source ≤ max_source_bytes
  pub utf8 : IsUtf8 body
  pub few : length names ≤ max_dependencies
