-- Bodies that are written up to a place.
use Rattle.std.specs.Prelude.{ℕ, ◌≡◌, ◌++◌, List}
use Rattle.mt_tokens.specs.Deps.{Edit}
use Rattle.mt_tokens.specs.Transform.{edited}
use Rattle.mt_transform.specs.declared.body.Draft.{Draft}

-- from one draft to another these edits were made: whatever comes after them, the whole stays what it is
abbrev pub Goes : List ℕ → Draft → Draft → List Edit → Type 0
Goes source old new es = (more : List Edit) → old.body ++ edited source old.at (es ++ more) ≡ new.body ++ edited source new.at more
