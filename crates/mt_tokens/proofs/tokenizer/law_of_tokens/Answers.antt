use Rattle.std.proofs.Common.{subst}
use Rattle.mt_tokens.proofs.HasTokens.{Answers, only_fault, only_tokens, tokens_answers}
use Rattle.mt_tokens.proofs.tokenizer.law_of_tokens.Goals as goal

pub returns-clause-tokens : goal.returns-clause-tokens
returns-clause-tokens c text ts = (λ e. (subst (Answers text) e (tokens_answers text)).0, only_tokens text ts)

pub returns-clause-fault : goal.returns-clause-fault
returns-clause-fault c text e = (λ h. subst (Answers text) h (tokens_answers text), only_fault text e)
