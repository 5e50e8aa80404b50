-- Characters that stand for themselves in a quoted name.
use Rattle.std.proofs.Common.{◌≡◌, ◌≤◌, ◌<◌, ◌+◌, ◌/◌, ◌%◌, ◌∙◌, ℕ, Bool, true, false, cond, List, [], ◌∷◌, ◌++◌, refl, ap, arith, nat_lt}
use Rattle.std.specs.List.{flat_map, AllByRecursion}
use Rattle.std.proofs.Math.Utf8.{encode}
use Rattle.std.proofs.lemmas.Bool.Decides.{nat_tests}
use Rattle.std.proofs.lemmas.Str.{encode_ascii}
use Rattle.mt_files.specs.FaultText.{quoted_byte}

high_byte : (b : ℕ) → 128 ≤ b → quoted_byte b ≡ b ∷ []
high_byte b h = grind (arith, nat_tests)

high_bytes : (bs : List ℕ) → AllByRecursion (λ b. 128 ≤ b) bs → flat_map quoted_byte bs ≡ bs
high_bytes [] h = refl
high_bytes (b ∷ bs) h = ap (λ z. z ++ flat_map quoted_byte bs) (high_byte b h.0) ∙ ap (λ z. b ∷ z) (high_bytes bs h.1)

high_by : (c : ℕ) (u v : Bool) → AllByRecursion (λ b. 128 ≤ b) (cond u ((192 + c / 64) ∷ (128 + c % 64) ∷ []) (cond v ((224 + c / 4096) ∷ (128 + c / 64 % 64) ∷ (128 + c % 64) ∷ []) ((240 + c / 262144) ∷ (128 + c / 4096 % 64) ∷ (128 + c / 64 % 64) ∷ (128 + c % 64) ∷ [])))
high_by c true v = (omega arith, (omega arith, tt))
high_by c false true = (omega arith, (omega arith, (omega arith, tt)))
high_by c false false = (omega arith, (omega arith, (omega arith, (omega arith, tt))))

plain_high : (c : ℕ) → nat_lt c 128 ≡ false → flat_map quoted_byte (encode c) ≡ encode c
unfolding encode
plain_high c e = rw e (high_bytes _ (high_by c (nat_lt c 2048) (nat_lt c 65536)))

plain_by : (c : ℕ) (t : Bool) → nat_lt c 128 ≡ t → quoted_byte c ≡ c ∷ [] → flat_map quoted_byte (encode c) ≡ encode c
plain_by c true e h = let low : c < 128 = grind (arith, nat_tests) in rw (encode_ascii c low) (ap (λ z. z ++ []) h)
plain_by c false e h = plain_high c e

-- a character beyond ASCII stands for itself, and one within does where its byte does
pub plain_char : (c : ℕ) → quoted_byte c ≡ c ∷ [] → flat_map quoted_byte (encode c) ≡ encode c
plain_char c h = plain_by c (nat_lt c 128) refl h
