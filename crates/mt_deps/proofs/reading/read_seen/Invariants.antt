use Rattle.std.proofs.Common.{◌≡◌, ◌≤◌, ◌+◌, length, None}
use Rattle.mt_tokens.specs.Cut.{AreCut}
use Rattle.mt_tokens.specs.Deps.{gathered_or}
use Rattle.mt_tokens.specs.Readings.{found_at}
use Rattle.mt_tokens.specs.Shields.{no_cover}
use Rattle.mt_tokens.specs.Words.{seen}
use Rattle.mt_deps.specs.Gathered.{kept}
use Rattle.mt_deps.specs.Groups.{spans_of}
use Rattle.mt_deps.specs.Numbers.{Numbers}
use Rattle.mt_deps.specs.Seen.{seen_of}
use Rattle.mt_deps.proofs.Gathers.{extended_or}
use Rattle.mt_deps.proofs.reading.read_seen.Given as goal

abbrev pub invariant-loop-site : goal.invariant-loop-site
invariant-loop-site l = record {
  cut : AreCut l.text (seen_of l.sites.rest);
  dynamic : l.gathering.dynamic + length (seen_of l.sites.rest) ≤ length (seen l.tokens);
  spans : l.spans ≡ spans_of l.bytes (seen_of l.sites.rest);
  numbers : Numbers l.gathering.numbers l.gathering.deps;
  left : extended_or l.bytes (kept l.gathering) (found_at l.bytes l.cover l.sites.before l.sites.depth (seen_of l.sites.rest)) ≡ gathered_or l.bytes (found_at l.bytes no_cover None 0 (seen l.tokens));
}

abbrev pub decreases-loop-site : goal.decreases-loop-site
decreases-loop-site l = length (seen_of l.sites.rest)
