use Rattle.mt_request.specs.Requests.{request_of}
use Rattle.metro_program.proofs.Asked.{words_ok}
use Rattle.metro_program.proofs.Owes.{refused_comes, request_comes}
use Rattle.metro_program.proofs.still.run_words.Goals as goal

pub returns-in-Ok-clause-comes : goal.returns-in-Ok-clause-comes
returns-in-Ok-clause-comes g c = request_comes (g.X.Explorer.sure c.args.explorer.now) (request_of c.args.words.now) c.in-Ok.request _ _ c.run.result (words_ok (request_of c.args.words.now) c.in-Ok.request c.in-Ok.ensures.request) c.run.ensures.owes c.run.ensures.script c.run.ensures.causes c.run.ensures.reason c.run.ensures.word

pub returns-in-Err-clause-comes : goal.returns-in-Err-clause-comes
returns-in-Err-clause-comes g c = refused_comes (g.X.Explorer.sure c.args.explorer.now) (request_of c.args.words.now) c.in-Err.fault c.word_outcome.result _ c.in-Err.ensures.request c.word_outcome.ensures.outcome
