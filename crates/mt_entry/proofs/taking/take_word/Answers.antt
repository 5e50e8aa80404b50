use Rattle.std.proofs.Common.{rules, arith}
use Rattle.mt_entry.proofs.Taken.{word_taken}
use Rattle.mt_entry.proofs.taking.take_word.Goals as goal

pub returns-clause-some : goal.returns-clause-some
returns-clause-some c =
    let cases = c.in_ok-word.ensures.cases in
    word_taken c.args.bytes.now c.in_ok-word.word.now c.in_ok-word.rest.now c.from_le_bytes.result cases.0 cases.1 (omega (arith, cases.2)) (search rules) c.from_le_bytes.ensures
