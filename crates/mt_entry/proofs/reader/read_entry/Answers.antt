use Rattle.std.proofs.Common.{◌≡◌, ◌∙◌, ℕ, List, ap, subst}
use Rattle.mt_transform.specs.OutputValues.{OutputValue}
use Rattle.mt_entry.specs.Readers.{IsTail, NoTail, with_source}
use Rattle.mt_entry.proofs.Reading.{entry_said, entry_without_tail}
use Rattle.mt_entry.proofs.Taken.{found_none, found_some}
use Rattle.mt_entry.proofs.reader.read_entry.Goals as goal

pub returns-in_default-2-clause-none : goal.returns-in_default-2-clause-none
returns-in_default-2-clause-none c =
    let source = c.as_slice.ensures.bytes ∙ c.deref.ensures.value in
    let start = subst (λ s. c.args.bytes.now ≡ with_source c.args.strip c.args.kind s c.in-Some.rest.now) source c.in-Some.ensures.some in
    entry_without_tail c.args.bytes.now c.args.source.now c.in-Some.rest.now c.args.strip c.args.kind start (found_none c.in_ok-tail.field-0 (NoTail c.in-Some.rest.now) c.in_default-2.is c.in_ok-tail.ensures.none)

pub returns-clause-says : goal.returns-clause-says
returns-clause-says c =
    let source = c.as_slice.ensures.bytes ∙ c.deref.ensures.value in
    let start = subst (λ s. c.args.bytes.now ≡ with_source c.args.strip c.args.kind s c.in-Some.rest.now) source c.in-Some.ensures.some in
    let tail = c.in-Some-2.tail in
    let is = found_some c.in_ok-tail.field-0 tail (IsTail c.in-Some.rest.now) c.in-Some-2.is c.in_ok-tail.ensures.some in
    let made : (s : List ℕ) → OutputValue = λ s. record { source = s; strip = c.args.strip; kind = c.args.kind; body = tail.body; names = tail.names; dynamic = tail.dynamic } in
    entry_said c.args.bytes.now c.args.source.now c.in-Some.rest.now c.args.strip c.args.kind tail c.from_parts.result c.requires.small start is (c.from_parts.ensures.parts ∙ ap made c.in_ok-source.ensures.cases)
