use Rattle.mt_entry.proofs.Writing.{name_at}
use Rattle.mt_entry.proofs.writer.push_names.Goals as goal

pub push_name-requires : goal.push_name-requires
push_name-requires c = name_at c.args.names.now c.loop-name.name-index c.name-item.result c.loop-name-test.true c.name-item.is c.requires
