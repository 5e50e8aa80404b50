use Rattle.std.proofs.Common.{rules, refl, subst, sym, ◌∙◌, append-nil}
use Rattle.mt_io.specs.Files.{IsChildrenOf}
use Rattle.mt_io.proofs.Children.{children_found}
use Rattle.mt_io.proofs.files.children_of.Goals as goal

pub loop-path-init : goal.loop-path-init
loop-path-init c = record {
  text = search rules;
  found = rw (c.new-names.ensures.empty, c.into_iter-path-iterator.ensures.into_iter_gives, c.keys-path-items.ensures.rest) refl;
}

pub returns : goal.returns
returns c =
    let found = rw c.in-None.ensures.steps.0 at c.loop-path.invariant.found in
    record { children = subst (IsChildrenOf c.args.files.now c.args.folder.now) (sym found ∙ append-nil c.loop-path.names) (children_found c.args.files.now c.args.folder.now) }
