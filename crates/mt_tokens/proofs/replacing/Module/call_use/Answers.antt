-- What is written is UTF-8.
use Rattle.mt_tokens.proofs.Replaced.{call_utf8}
use Rattle.mt_tokens.proofs.replacing.Module.call_use.Goals as goal

pub text_of-text-requires : goal.text_of-text-requires
text_of-text-requires c = rw (c.in_ok-put_import_call.ensures, c.new-out.ensures.empty) (call_utf8 c.args.self.now.number c.requires.fits)
