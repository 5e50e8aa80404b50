use Rattle.std.proofs.Common.{◌≡◌, ◌∙◌, ap, sym}
use Rattle.mt_files.proofs.PathLists.{same_path}
use Rattle.mt_revision.proofs.Slots.{not_false, slots_same}
use Rattle.mt_revision.proofs.touched.have_same_parts.Goals as goal

pub returns : goal.returns
returns c = record {
  parts = λ h.
      let p = same_path _ _ (not_false _ (sym c.ne.ensures ∙ c.if-ne.false)) in
      let s : c.as_slice.result.now ≡ c.as_slice-2.result.now = slots_same _ _ (not_false _ (sym c.ne-2.ensures ∙ c.if-ne-2.false)) in
      let o : c.body.result.now ≡ c.body-2.result.now = same_path _ _ (sym c.eq.ensures ∙ h) in
      (p, sym (c.body.ensures.value ∙ ap (λ x. x.body) c.deref.ensures.value) ∙ o ∙ (c.body-2.ensures.value ∙ ap (λ x. x.body) c.deref-2.ensures.value), sym c.as_slice.ensures.items ∙ s ∙ c.as_slice-2.ensures.items);
}
