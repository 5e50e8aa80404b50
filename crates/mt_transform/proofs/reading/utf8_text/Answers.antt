-- What `from_utf8` says, by the test.
use Rattle.std.proofs.Common.{ap, ◌∙◌}
use Rattle.std.proofs.lemmas.Str.{is_utf8-from_IsUtf8}
use Rattle.mt_tokens.specs.declared.source.SourceFault.TheVariants.{NotUtf8}
use Rattle.mt_transform.proofs.Transformed.{not_utf8}
use Rattle.mt_transform.proofs.reading.utf8_text.Goals as goal

pub returns-in-Ok-clause-ok : goal.returns-in-Ok-clause-ok
returns-in-Ok-clause-ok c = (c.in-Ok.ensures.cases.0, is_utf8-from_IsUtf8 c.args.source.now c.in-Ok.ensures.cases.1)

pub returns-in-Err-clause-err : goal.returns-in-Err-clause-err
returns-in-Err-clause-err c = (not_utf8 c.args.source.now c.in-Err.ensures.cases.0, ap NotUtf8 (c.valid_up_to.ensures ∙ c.in-Err.ensures.valid_len))
