use Rattle.mt_files.proofs.WithFiles.{few_more}
use Rattle.mt_files.proofs.crawler.take_source.Goals as goal

pub returns-clause-few : goal.returns-clause-few
returns-clause-few c = few_more c.args.part.now.files c.insert.new.self _ _ c.in_ok-insert.ensures.ok c.requires.few
