use Rattle.std.proofs.Common.{rules, ◌≡◌, ◌∙◌, ◌++◌, ap, length}
use Rattle.sha2.specs.Sha256.{sha256}
use Rattle.hex.specs.Hex.{encode_lower}
use Rattle.mt_io.specs.Seen.{Wrote}
use Rattle.mt_revision.specs.Revisions.{bundle_of}
use Rattle.mt_report.specs.Digests.{seen_digest}
use Rattle.mt_report.proofs.Digests.{digest_took}
use Rattle.mt_report.proofs.report.sum_bundle.Goals as goal

pub returns-clause-length : goal.returns-clause-length
returns-clause-length c =
    let wrote : Wrote (seen_digest c.new-sink.result) (seen_digest c.write_bundle.new.sink) (bundle_of c.args.revision.now) = search rules in
    let took : c.write_bundle.new.sink.bytes ≡ bundle_of c.args.revision.now = digest_took c.new-sink.result c.write_bundle.new.sink (bundle_of c.args.revision.now) wrote ∙ ap (λ s. s.bytes ++ bundle_of c.args.revision.now) c.new-sink.ensures.none in
    c.finish-length.ensures.length ∙ ap length took

pub returns-clause-digest : goal.returns-clause-digest
returns-clause-digest c =
    let wrote : Wrote (seen_digest c.new-sink.result) (seen_digest c.write_bundle.new.sink) (bundle_of c.args.revision.now) = search rules in
    let took : c.write_bundle.new.sink.bytes ≡ bundle_of c.args.revision.now = digest_took c.new-sink.result c.write_bundle.new.sink (bundle_of c.args.revision.now) wrote ∙ ap (λ s. s.bytes ++ bundle_of c.args.revision.now) c.new-sink.ensures.none in
    c.from_string-digest.ensures.bytes ∙ c.in_ok-encode.ensures ∙ ap encode_lower (c.finish-length.ensures.digest ∙ ap sha256 took)
