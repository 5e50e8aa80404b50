-- The innermost opener is closed.
use Rattle.std.proofs.Common.{sym, ◌∙◌}
use Rattle.mt_tokens.proofs.Openings.{closes_innermost}
use Rattle.mt_tokens.proofs.scanner.Scanner.close.Goals as goal

pub returns-in-Some-clause-ok : goal.returns-in-Some-clause-ok
returns-in-Some-clause-ok c = λ text openers h. closes_innermost text c.args.closed openers c.in-Some.opener c.pop.new.self (sym (c.pop.ensures.some c.in-Some.opener c.in-Some.is) ∙ h) c.if-opener-closed.true c.if-closed-eq0.false
