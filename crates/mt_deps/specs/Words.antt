-- The words at which something may be found.
use Rattle.std.specs.Prelude.{ℕ, Bool, List, [], ◌∷◌, codes}
use Rattle.mt_tokens.specs.Forms.{is_any_word}
use Rattle.mt_tokens.specs.declared.token.Token.{Token}

abbrev pub is_telling : List ℕ → Token → Bool
is_telling text t = is_any_word text (codes "import" ∷ codes "export" ∷ codes "require" ∷ []) t
