-- What a sink that keeps a digest took.
use Rattle.std.proofs.Common.{◌≡◌, List, ℕ, ◌++◌, Some}
use Rattle.mt_io.specs.Seen.{Wrote}
use Rattle.mt_io.proofs.Seen.{wrote_grows}
use Rattle.mt_report.specs.Digests.{Digested, seen_digest}

pub digest_took : (a b : Digested) (bytes : List ℕ) → Wrote (seen_digest a) (seen_digest b) bytes → b.bytes ≡ a.bytes ++ bytes
digest_took a b bytes w = let h : Some b.bytes ≡ Some (a.bytes ++ bytes) = wrote_grows (seen_digest a) (seen_digest b) bytes w in cc
