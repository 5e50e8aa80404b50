use Rattle.std.proofs.Common.{◌∙◌, IsUtf8, ap, subst, sym}
use Rattle.std.proofs.lemmas.Str.{IsUtf8-string_bytes}
use Rattle.mt_transform.proofs.output.Output.from_parts.Goals as goal

pub invariant_of-result : goal.invariant_of-result
invariant_of-result c = record {
  small = c.requires.small;
  utf8 = subst IsUtf8 (sym (c.from_vec.ensures.bytes ∙ ap (λ v. v.items) c.into_bytes.ensures.value)) (IsUtf8-string_bytes c.into_string.result);
  few = c.requires.few;
}
