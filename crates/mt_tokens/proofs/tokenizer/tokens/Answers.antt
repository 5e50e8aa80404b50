use Rattle.mt_tokens.proofs.HasTokens.{covers_text, cuts_text, has_fault, has_tokens}
use Rattle.mt_tokens.proofs.tokenizer.tokens.Goals as goal

pub returns-clause-covers : goal.returns-clause-covers
returns-clause-covers c = covers_text c.args.text.now c.read_tokens.result c.read_tokens.ensures.exact

pub returns-clause-cut : goal.returns-clause-cut
returns-clause-cut c = cuts_text c.args.text.now c.read_tokens.result c.utf8.text c.read_tokens.ensures.exact

pub returns-clause-tokens : goal.returns-clause-tokens
returns-clause-tokens c = has_tokens c.args.text.now c.read_tokens.result c.read_tokens.ensures.exact

pub returns-clause-fault : goal.returns-clause-fault
returns-clause-fault c = has_fault c.args.text.now c.read_tokens.result c.read_tokens.ensures.exact
