use Rattle.std.proofs.Common.{◌∙◌, ap, arith, drop, ◌+◌}
use Rattle.mt_revision.specs.Numberings.{with_new}
use Rattle.mt_revision.proofs.Extensions.{few_more, with_next}
use Rattle.mt_revision.proofs.numbering.Numbering.with_paths.Goals as goal

pub loop-path-preserved : goal.loop-path-preserved
loop-path-preserved c = record {
  left =
      ap (λ z. with_new z (drop (c.loop-path.path-index + 1) c.args.others.now)) c.in_ok-numbering.ensures.exact
      ∙ with_next c.loop-path.numbering c.args.others.now c.loop-path.path-index c.path-item.result (omega arith) c.path-item.is c.requires.others
      ∙ c.loop-path.invariant.left;
  few = few_more c.loop-path.numbering c.in_ok-numbering.numbering c.path-item.result _ _ c.in_ok-numbering.ensures.exact c.loop-path.invariant.few;
}
