-- What a call that writes left as it was.
use Rattle.std.proofs.Common.{◌≡◌, ◌∙◌, ℕ, List, Result, Ok, Err, refl, arith}
use Rattle.mt_io.specs.Seen.{Looks, Seen, Writes, WritesOrLacks}
use Rattle.mt_io.specs.declared.trouble.Trouble.{Trouble}
use Rattle.mt_io.proofs.Seen.{stopped_apart, wrote_apart}

pub writes_apart : {T E : Type 0} (a b : Seen (List ℕ)) (bytes : List ℕ) (r : Result T E) → Writes a b bytes r → b.beside ≡ a.beside
writes_apart a b bytes (Ok x) w = wrote_apart a b bytes w.all
writes_apart a b bytes (Err e) w = stopped_apart a b bytes w.stop

pub lacks_apart : {T : Type 0} (a b : Seen (List ℕ)) (bytes : List ℕ) (r : Result T Trouble) → WritesOrLacks a b bytes r → b.beside ≡ a.beside
lacks_apart a b bytes (Ok x) w = wrote_apart a b bytes w.all
lacks_apart a b bytes (Err e) w = stopped_apart a b bytes w.stop

-- nothing was looked at, and looks one after another
pub looks_none : {T : Type 0} (a : Seen T) → Looks a a ⊥
looks_none a = record { same = refl; cause = λ h. absurd h; later = omega arith; apart = refl }

pub looks_then : {T : Type 0} (a b c : Seen T) → Looks a b ⊥ → Looks b c ⊥ → Looks a c ⊥
looks_then a b c x y = let one = x.later in let two = y.later in record { same = y.same ∙ x.same; cause = λ h. absurd h; later = omega (arith, one, two); apart = y.apart ∙ x.apart }
