use Rattle.mt_entry.proofs.Writing.{name_at, names_more}
use Rattle.mt_entry.proofs.writer.are_short.Goals as goal

pub returns-then-not-is_short-clause-no : goal.returns-then-not-is_short-clause-no
returns-then-not-is_short-clause-no c = λ same good. c.is_short.ensures.no c.if-not-is_short.true (name_at c.args.names.now c.loop-name.name-index c.name-item.result c.loop-name-test.true c.name-item.is good)

pub loop-name-preserved : goal.loop-name-preserved
loop-name-preserved c = names_more c.args.names.now c.loop-name.name-index c.name-item.result c.loop-name-test.true c.name-item.is c.loop-name.invariant (c.is_short.ensures.yes c.if-not-is_short.false)
