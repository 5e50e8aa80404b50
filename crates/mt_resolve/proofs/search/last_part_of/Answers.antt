use Rattle.std.proofs.Common.{◌++◌, ◌∙◌, ap, sym, Some, None, lit<, []}
use Rattle.std.specs.Option.{unwrap_or}
use Rattle.mt_path.specs.Names.{last}
use Rattle.mt_path.specs.Segments.{parts_of}
use Rattle.mt_path.proofs.Splits.{cut_last, split_between}
use Rattle.mt_path.proofs.Folders.{last_push}
use Rattle.mt_resolve.proofs.search.last_part_of.Goals as goal

pub returns-in-Some : goal.returns-in-Some
returns-in-Some c =
    let known = cut_last 47 c.args.name.now (Some (c.in-Some.field-0-0, c.in-Some.last)) (lit< tt) c.in-Some.ensures.cases in
    let parts = ap parts_of known.0 ∙ split_between 47 c.in-Some.field-0-0.now c.in-Some.last.now ∙ ap (λ ps. parts_of c.in-Some.field-0-0.now ++ ps) known.1 in
    record { part = sym (ap (λ ps. unwrap_or (last ps) []) parts ∙ ap (λ o. unwrap_or o []) (last_push (parts_of c.in-Some.field-0-0.now) c.in-Some.last.now)) }

pub returns-in-None : goal.returns-in-None
returns-in-None c =
    let known = cut_last 47 c.args.name.now None (lit< tt) c.in-None.ensures.cases in
    record { part = sym (ap (λ ps. unwrap_or (last ps) []) known) }
