use Rattle.metro_program.proofs.Asked.{words_bundle, words_check, words_deps, words_replay}
use Rattle.mt_request.specs.Requests.{request_of}
use Rattle.metro_program.proofs.Owes.{runs_of}
use Rattle.metro_program.proofs.still.metro_still.Goals as goal

pub returns-clause-bundle : goal.returns-clause-bundle
returns-clause-bundle g c = λ request tree bytes e is. words_bundle c.args.words.now request tree bytes e is

pub returns-clause-deps : goal.returns-clause-deps
returns-clause-deps g c = λ request tree bytes e is. words_deps c.args.words.now request tree bytes e is

pub returns-clause-check : goal.returns-clause-check
returns-clause-check g c = λ request tree bytes e is. words_check c.args.words.now request tree bytes e is

pub returns-clause-replay : goal.returns-clause-replay
returns-clause-replay g c = λ request tree bytes e is. words_replay c.args.words.now request tree bytes e is

pub returns-clause-run : goal.returns-clause-run
returns-clause-run g c =
    runs_of Unit (request_of c.args.words.now)
    (record { folder = g.F.Folder.seen c.args.folder.now; script = g.I.Source.seen c.args.script.now; out = g.O.Sink.seen c.args.out.now })
    (record { folder = g.F.Folder.seen c.run_words-outcome.new.folder; script = g.I.Source.seen c.run_words-outcome.new.script; out = g.O.Sink.seen c.run_words-outcome.new.out })
    (g.E.Sink.seen c.args.log.now) (g.E.Sink.seen c.tell.new.log) c.run_words-outcome.result c.tell.result c.status.result c.run_words-outcome.ensures.comes c.tell.ensures.outcome c.status.ensures.status c.tell.ensures.line c.tell.ensures.apart
