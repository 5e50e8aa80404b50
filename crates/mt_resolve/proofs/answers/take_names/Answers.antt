use Rattle.mt_resolve.proofs.Known.{known_less, known_names, no_names}
use Rattle.mt_resolve.proofs.answers.take_names.Goals as goal

pub returns-in-Some : goal.returns-in-Some
returns-in-Some c = record {
  names = λ options files k. known_names options files c.args.answers.now c.args.folder.now c.in-Some.names c.in-Some.ensures.taken k;
  rest = λ options files k. known_less options files c.args.answers.now c.remove.new.self c.args.folder.now c.remove.ensures.rest k;
}

pub returns-in-None : goal.returns-in-None
returns-in-None c = record {
  names = λ options files k. no_names options files c.args.folder.now c.new.result c.new.ensures.empty;
  rest = λ options files k. known_less options files c.args.answers.now c.remove.new.self c.args.folder.now c.remove.ensures.rest k;
}
