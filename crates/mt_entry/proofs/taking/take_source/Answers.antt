use Rattle.std.proofs.Common.{◌∙◌}
use Rattle.mt_entry.specs.Readers.{NoStart}
use Rattle.mt_entry.proofs.Taken.{no_count, no_source, no_start, refused, source_taken}
use Rattle.mt_entry.proofs.taking.take_source.Goals as goal

pub returns-in_err-rest-clause-none : goal.returns-in_err-rest-clause-none
returns-in_err-rest-clause-none c =
    refused c.from_residual.result (NoStart c.args.bytes.now c.args.strip c.args.kind c.args.source.now)
    (no_start c.args.bytes.now c.args.strip c.args.kind c.args.source.now c.as_slice.result.now (c.as_slice.ensures ∙ c.start_bytes-start.ensures) c.in_err-rest.ensures.none)

pub returns-in_err-rest-2-clause-none : goal.returns-in_err-rest-2-clause-none
returns-in_err-rest-2-clause-none c =
    refused c.from_residual-in_err-rest-2.result (NoStart c.args.bytes.now c.args.strip c.args.kind c.args.source.now)
    (no_count c.args.bytes.now c.in_ok-rest.rest.now c.args.strip c.args.kind c.args.source.now c.as_slice.result.now c.as_slice-2.result.now (c.as_slice.ensures ∙ c.start_bytes-start.ensures) c.in_ok-rest.ensures.some (c.as_slice-2.ensures ∙ c.to_le_bytes-count.ensures) c.in_err-rest-2.ensures.none)

pub returns-clause-some : goal.returns-clause-some
returns-clause-some c =
    source_taken c.args.bytes.now c.in_ok-rest.rest.now c.in_ok-rest-2.rest.now c.args.strip c.args.kind c.args.source.now c.as_slice.result.now c.as_slice-2.result.now c.take_exactly-3.result (c.as_slice.ensures ∙ c.start_bytes-start.ensures) c.in_ok-rest.ensures.some (c.as_slice-2.ensures ∙ c.to_le_bytes-count.ensures) c.in_ok-rest-2.ensures.some c.take_exactly-3.ensures.some

pub returns-clause-none : goal.returns-clause-none
returns-clause-none c =
    no_source c.args.bytes.now c.in_ok-rest.rest.now c.in_ok-rest-2.rest.now c.args.strip c.args.kind c.args.source.now c.as_slice.result.now c.as_slice-2.result.now c.take_exactly-3.result (c.as_slice.ensures ∙ c.start_bytes-start.ensures) c.in_ok-rest.ensures.some (c.as_slice-2.ensures ∙ c.to_le_bytes-count.ensures) c.in_ok-rest-2.ensures.some c.take_exactly-3.ensures.none
