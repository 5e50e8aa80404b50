-- Stores whose bytes are honest.
use Rattle.std.specs.Prelude.{◌≡◌, ℕ, List, Some}
use Rattle.std.specs.FinMap.{get}
use Rattle.mt_tokens.specs.CacheEntries.{IsHonest}
use Rattle.mt_io.specs.Told.{Kept}

-- each of the bytes that are kept is honest
pub record AreHonest (kept : Kept) : Type 0 where
  pub each : (key bytes : List ℕ) → get kept key ≡ Some bytes → IsHonest bytes
