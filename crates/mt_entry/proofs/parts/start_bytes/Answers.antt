use Rattle.mt_entry.proofs.Taken.{start_is}
use Rattle.mt_entry.proofs.parts.start_bytes.Goals as goal

pub returns : goal.returns
returns c = start_is c.args.strip c.args.kind c.strip_byte.result c.kind_byte.result c.strip_byte.ensures c.kind_byte.ensures
