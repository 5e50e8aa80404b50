-- Calls that read from a source, one after another.
use Rattle.std.proofs.Common.{◌≡◌, ◌+◌, List, ℕ, ◌++◌, take, drop, append_assoc, refl, arith, sym, ap, ◌∙◌, Option, Some, Result, Ok, Err, IsErr, true, false}
use Rattle.std.proofs.Math.Seq.{take-add}
use Rattle.std.proofs.lemmas.List.{drop-drop}
use Rattle.mt_io.specs.Seen.{Reads, Seen}
use Rattle.mt_io.specs.Told.{Reading, read_on}
use Rattle.mt_io.specs.declared.trouble.Failed.{Failed}
use Rattle.mt_io.proofs.Readings.{same_reading, reading_still}
use Rattle.mt_script.specs.Reads.{Advances, ReadOn}

-- twice on is once on
pub read_twice : (r : Reading) (m n : ℕ) → read_on n (read_on m r) ≡ read_on (m + n) r
read_twice r m n =
    same_reading (read_on n (read_on m r)) (read_on (m + n) r)
    (append_assoc r.given (take m r.left) (take n (drop m r.left)) ∙ ap (λ (xs : List ℕ). r.given ++ xs) (sym (take-add m n r.left)))
    (drop-drop n m r.left)

-- nothing was read
still : (r : Reading) (told : Option Reading) → told ≡ Some r → ReadOn r told
still r told e = record { count = 0; now = e ∙ ap Some (reading_still r) }

-- some bytes were read, and then some more
on_then : (r : Reading) (told now : Option Reading) (h : ReadOn r told) → ReadOn (read_on h.count r) now → ReadOn r now
on_then r told now h k = record { count = h.count + k.count; now = k.now ∙ ap Some (read_twice r h.count k.count) }

-- no call
pub advances_none : (a : Seen Reading) → Advances a a ⊥
advances_none a = record { on = λ r e. still r a.told e; cause = λ failed. absurd failed; later = omega arith; apart = refl }

-- one call after another
pub advances_then : {F G : Type 0} (a b c : Seen Reading) → Advances a b F → Advances b c G → Advances a c G
advances_then a b c p q = record {
  on = λ r e. let h = p.on r e in on_then r b.told c.told h (q.on (read_on h.count r) h.now);
  cause = λ failed. let rose = q.cause failed in let later = p.later in omega arith;
  later = let first = p.later in let second = q.later in omega arith;
  apart = q.apart ∙ p.apart;
}

-- one more read, which did not fail
pub advances_on : (a b c : Seen Reading) (n : ℕ) → Advances a b ⊥ → Advances b c (IsErr {T = ℕ} {E = Failed} (Ok n)) → Advances a c ⊥
advances_on a b c n p q = let both = advances_then a b c p q in record { on = both.on; cause = λ failed. absurd failed; later = both.later; apart = both.apart }

-- an answer that is no failure
pub advances_ok : {F T : Type 0} (a b : Seen Reading) (x : T) → Advances a b F → Advances a b (IsErr {T = T} {E = Failed} (Ok x))
advances_ok a b x p = record { on = p.on; cause = λ failed. absurd (let e : false ≡ true = failed in cc); later = p.later; apart = p.apart }

-- an answer that is a failure, whatever it is
pub advances_err : {F : Type 0} (a b : Seen Reading) (failed : F) (G : Type 0) → Advances a b F → Advances a b G
advances_err a b failed G p = record { on = p.on; cause = λ _. p.cause failed; later = p.later; apart = p.apart }

-- what was read, by the answer
read_by : (a b : Seen Reading) (into now : List ℕ) (result : Result ℕ Failed) → Reads a b into now result → (r : Reading) → a.told ≡ Some r → ReadOn r b.told
read_by a b into now (Ok n) h r e = record { count = n; now = h.given r e }
read_by a b into now (Err failed) h r e = still r b.told (h.err ∙ e)

-- a read of the source
pub advances_read : (a b : Seen Reading) (into now : List ℕ) (result : Result ℕ Failed) → Reads a b into now result → Advances a b (IsErr result)
advances_read a b into now (Ok n) h = record { on = read_by a b into now (Ok n) h; cause = λ failed. absurd (let e : false ≡ true = failed in cc); later = h.later; apart = h.apart }
advances_read a b into now (Err failed) h = record { on = read_by a b into now (Err failed) h; cause = λ _. h.cause; later = h.later; apart = h.apart }
