-- What the innermost of the openers that the code keeps tells.
use Rattle.std.specs.Prelude.{ℕ, Bool, false, ◌==◌, List, [], ◌∷◌, Option, Some, None}
use Rattle.mt_tokens.specs.declared.brackets.Opener.{Opener}

-- its place
abbrev pub kept_place : List Opener → Option ℕ
kept_place [] = None
kept_place (o ∷ openers) = Some o.place

-- whether it is the `${` of a template
abbrev pub is_kept_in_template : List Opener → Bool
is_kept_in_template [] = false
is_kept_in_template (o ∷ openers) = o.closer == 96
