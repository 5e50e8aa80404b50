use Rattle.std.proofs.Common.{◌≡◌, ◌++◌, length}
use Rattle.mt_tokens.specs.Forms.{declared_names}
use Rattle.mt_deps.specs.Seen.{seen_of}
use Rattle.mt_deps.proofs.Steps.{names_left}
use Rattle.mt_deps.proofs.exports.read_names.Given as goal

abbrev pub invariant-loop-site : goal.invariant-loop-site
invariant-loop-site l = l.names ++ names_left l.bytes l.sites.before l.sites.depth (seen_of l.sites.rest) ≡ declared_names l.bytes l.fn.keyword (seen_of l.tokens)

abbrev pub decreases-loop-site : goal.decreases-loop-site
decreases-loop-site l = length (seen_of l.sites.rest)
