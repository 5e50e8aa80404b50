-- What is left after a list is cut between characters, as the whole is.
use Rattle.std.proofs.Common.{sym}
use Rattle.mt_deps.specs.Seen.{seen_of}
use Rattle.mt_deps.proofs.Cuts.{bound_rest}
use Rattle.mt_deps.proofs.imports.read_bound_import.Goals as goal

pub read_from-requires : goal.read_from-requires
read_from-requires c = bound_rest c.args.text.now (seen_of c.args.tokens) c.in_ok-read.field-0 c.in-Some.read (rw (sym c.as_bytes.ensures.value) c.in_ok-read.ensures) c.in-Some.is c.requires
