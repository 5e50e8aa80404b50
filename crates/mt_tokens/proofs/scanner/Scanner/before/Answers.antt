use Rattle.mt_tokens.proofs.Openings.{tells_before}
use Rattle.mt_tokens.proofs.scanner.Scanner.before.Goals as goal
use Rattle.std.proofs.Common.{refl}

pub returns : goal.returns
returns c = λ text found f. tells_before text found c.args.self.now _ refl c.is_in_template.ensures f
