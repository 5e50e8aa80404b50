use Rattle.std.proofs.Common.{rules}
use Rattle.mt_entry.specs.Readers.{NoCounted}
use Rattle.mt_entry.proofs.Reading.{tail_without_names}
use Rattle.mt_entry.proofs.Taken.{found_none}
use Rattle.mt_entry.proofs.reader.read_tail.Goals as goal

pub returns-in_default-2-clause-none : goal.returns-in_default-2-clause-none
returns-in_default-2-clause-none c =
    tail_without_names c.args.bytes.now c.in-Some.rest.now c.in-Some-take_word.rest.now c.in-Some.body.now c.in-Some-take_word.dynamic c.in-Some.ensures.some c.in-Some.ensures.text c.in-Some-take_word.ensures.some (search rules) (found_none c.in_ok-names.field-0 (NoCounted c.in-Some-take_word.rest.now) c.in_default-2.is c.in_ok-names.ensures.none)
