-- The token's end is within the text.
use Rattle.std.proofs.Common.{arith}
use Rattle.mt_tokens.proofs.Fronts.{front_ends}
use Rattle.mt_tokens.proofs.tokenizer.token_in.Goals as goal

pub overflow_add-end : goal.overflow_add-end
overflow_add-end c =
    let e = front_ends c.args.before c.args.at c.args.bytes.now c.in_ok-kind.kind c.in_ok-kind.len (omega arith) c.in_ok-kind.ensures in omega arith

pub overflow_cast-end : goal.overflow_cast-end
overflow_cast-end c =
    let e = front_ends c.args.before c.args.at c.args.bytes.now c.in_ok-kind.kind c.in_ok-kind.len (omega arith) c.in_ok-kind.ensures in omega arith

pub returns-clause-ends : goal.returns-clause-ends
returns-clause-ends c = front_ends c.args.before c.args.at c.args.bytes.now c.in_ok-kind.kind c.in_ok-kind.len (omega arith) c.in_ok-kind.ensures
