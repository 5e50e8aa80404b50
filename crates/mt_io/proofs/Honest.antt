-- Stores in memory give honest bytes, and stay honest where honest bytes are put.
use Rattle.std.proofs.Common.{◌≡◌, ◌∙◌, ◌⊎◌, ℕ, inl, inr, Bool, true, false, cond, List, Option, Some, None, sym, subst}
use Rattle.std.specs.Prelude.{Result, Ok, Err, IfOk, IfSome}
use Rattle.std.specs.Ordering.{nat_cmp, eq_by_cmp}
use Rattle.std.specs.Cmp.Lexicographic.{slice_cmp, nat_list_cmp_total}
use Rattle.std.specs.FinMap.{get, get-insert, insert}
use Rattle.mt_tokens.specs.CacheEntries.{IsHonest}
use Rattle.mt_io.specs.Honest.{AreHonest}
use Rattle.mt_io.specs.Told.{Kept}

-- what is found in an honest store
some_honest : (kept : Kept) (key : List ℕ) → AreHonest kept → (found : Option (List ℕ)) → found ≡ get kept key → IfSome found IsHonest
some_honest kept key h (Some bytes) e = h.each key bytes (sym e)
some_honest kept key h None e = tt

pub honest_got : {E : Type 0} (kept : Kept) (key : List ℕ) (r : Result (Option (List ℕ)) E) → AreHonest kept → IfOk r (λ bytes. bytes ≡ get kept key) → IfOk r (λ bytes. IfSome bytes IsHonest)
honest_got kept key (Ok found) h e = some_honest kept key h found e
honest_got kept key (Err fault) h e = tt

get_by : (b : Bool) (x : List ℕ) (o : Option (List ℕ)) (y : List ℕ) → cond b (Some x) o ≡ Some y → (x ≡ y) ⊎ (o ≡ Some y)
get_by true x o y h = inl cc
get_by false x o y h = inr h

put_each : (kept : Kept) (key bytes : List ℕ) → AreHonest kept → IsHonest bytes → (other found : List ℕ) → get (insert kept key bytes) other ≡ Some found → IsHonest found
put_each kept key bytes h own other found e =
    elim (get_by (eq_by_cmp (slice_cmp nat_cmp) other key) bytes (get kept other) found (sym (get-insert nat_list_cmp_total kept key bytes other) ∙ e)) [
      | inl here ↦ subst IsHonest here own
      | inr old ↦ h.each other found old
    ]

-- an honest store in which honest bytes are put
pub honest_put : (kept : Kept) (key bytes : List ℕ) → AreHonest kept → IsHonest bytes → AreHonest (insert kept key bytes)
honest_put kept key bytes h own = record { each = put_each kept key bytes h own }
