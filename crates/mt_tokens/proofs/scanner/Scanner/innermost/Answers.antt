use Rattle.mt_tokens.proofs.Openings.{tells_innermost}
use Rattle.mt_tokens.proofs.scanner.Scanner.innermost.Goals as goal

pub returns : goal.returns
returns c = λ text found f. tells_innermost text found c.args.self.now c.innermost.result c.innermost.ensures f
