use Rattle.mt_request.proofs.Said.{read_said}
use Rattle.mt_request.proofs.request.read_request.Goals as goal

pub read_said-requires : goal.read_said-requires
read_said-requires c = record { said = read_said c.args.words.now c.in_ok-words.words c.in_ok-words.ensures.read }
