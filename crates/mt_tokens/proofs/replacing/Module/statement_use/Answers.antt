-- What is written is UTF-8.
use Rattle.mt_tokens.proofs.Replaced.{form_utf8}
use Rattle.mt_tokens.proofs.replacing.Module.statement_use.Goals as goal

pub text_of-text-requires : goal.text_of-text-requires
text_of-text-requires c = rw (c.in_ok-put_form.ensures, c.new-out.ensures.empty) (form_utf8 c.args.self.now.text.now c.args.self.now.number c.args.form.now c.requires.utf8 c.requires.fits c.requires.cut)
