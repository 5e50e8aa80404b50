-- Bytes that go to a sink through a write buffer.
use Rattle.std.specs.Prelude.{◌≡◌, ◌≤◌, ℕ, List, ◌++◌, OnErr, OnOk, Result}
use Rattle.mt_io.specs.Causes.{Rose}
use Rattle.mt_io.specs.Seen.{Seen, Stopped, Wrote}

-- these bytes came after those that were held: a prefix of all was written, and the rest is held now
unfoldable pub Buffered : Seen (List ℕ) → Seen (List ℕ) → List ℕ → List ℕ → List ℕ → Type 0
Buffered before after held bytes now = (sent : List ℕ) × (sent ++ now ≡ held ++ bytes) × Wrote before after sent

-- the call put these bytes after those that were held, or it stopped writing all of them and a fault was counted
pub record Buffers {T E : Type 0} (before after : Seen (List ℕ)) (held bytes now : List ℕ) (result : Result T E) : Type 0 where
  pub all : OnOk result (Buffered before after held bytes now)
  pub stop : OnErr result (Stopped before after (held ++ bytes))
  pub cause : OnErr result (Rose before.faults after.faults)
  pub later : before.faults ≤ after.faults
