-- What is written is UTF-8.
use Rattle.mt_tokens.proofs.Replaced.{entry_utf8}
use Rattle.mt_tokens.proofs.replacing.Module.required_use.Goals as goal

pub text_of-text-requires : goal.text_of-text-requires
text_of-text-requires c = rw (c.in_ok-put_map_entry.ensures, c.new-out.ensures.empty) (entry_utf8 c.args.self.now.number c.requires.fits)
