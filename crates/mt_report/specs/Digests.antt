-- What contracts see of a sink that keeps a digest.
use Rattle.std.specs.Prelude.{ℕ, List, Some, None}
use Rattle.mt_io.specs.Seen.{Seen}

-- the bytes that it took, and how many calls have failed
pub record Digested : Type 0 where
  pub bytes : List ℕ
  pub faults : ℕ

-- it tells the bytes that it took
abbrev pub seen_digest : Digested → Seen (List ℕ)
seen_digest sink = record { faults = sink.faults; told = Some sink.bytes; beside = None }
