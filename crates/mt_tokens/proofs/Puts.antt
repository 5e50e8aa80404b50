-- Pieces that are put one after another.
use Rattle.std.proofs.Common.{◌≡◌, ℕ, List, ◌++◌, append_assoc, refl}

pub put_three : (out a b d x y z : List ℕ) → a ≡ out ++ x → b ≡ a ++ y → d ≡ b ++ z → d ≡ out ++ (x ++ y ++ z)
put_three out a b d x y z e f g = rw (g, f, e, append_assoc out x y, append_assoc out (x ++ y) z) refl
