use Rattle.std.proofs.Common.{◌∙◌, None, Some, sym}
use Rattle.mt_resolve.proofs.Holders.{held_there}
use Rattle.mt_resolve.proofs.Searches.{ends_at, ends_none, ok_then}
use Rattle.mt_resolve.proofs.place.Place.first_held.Goals as goal

pub returns-in-Some-clause-exact : goal.returns-in-Some-clause-exact
returns-in-Some-clause-exact c =
    let place = c.args.self.now in
    let e = held_there place.options.now place.files.now c.args.name.now c.args.folder.now (Some c.in-Some.modules) (sym c.if-is_modules.ensures.exact) (sym c.in-Some.is ∙ c.in_ok-modules.ensures.exact) in
    ok_then c.first_joined.result c.first_joined.ensures.exact (λ found h. ends_at place.endings place.files.now c.args.notes.now.log _ found _ _ e h)

pub returns-in-None-clause-exact : goal.returns-in-None-clause-exact
returns-in-None-clause-exact c =
    let place = c.args.self.now in
    let e = held_there place.options.now place.files.now c.args.name.now c.args.folder.now None (sym c.if-is_modules.ensures.exact) (sym c.in-None.is ∙ c.in_ok-modules.ensures.exact) in
    ends_at place.endings place.files.now c.args.notes.now.log c.args.notes.now.log None _ _ e (ends_none place.endings place.files.now c.args.notes.now.log)
