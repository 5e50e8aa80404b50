-- A mark is within the text.
use Rattle.std.proofs.Common.{◌≤◌, ◌+◌, length, get_or, sym, subst, Option}
use Rattle.std.specs.Option.{IfSome}
use Rattle.mt_chars.specs.declared.cooking.Part.{Part}
use Rattle.mt_chars.proofs.Parts.{mark_inside}
use Rattle.mt_chars.proofs.cooking.escape_at.Goals as goal

pub returns-clause-within : goal.returns-clause-within
returns-clause-within c =
    let rest = c.args.rest.now in
    subst (λ (r : Option Part). IfSome r (λ (p : Part). p.len ≤ length rest + 3)) (sym c.mark_at.ensures) (mark_inside (get_or rest 0 0) rest)
