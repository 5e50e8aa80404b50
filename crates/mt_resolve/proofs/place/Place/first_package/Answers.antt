use Rattle.std.proofs.Common.{◌∙◌, ◌∷◌, [], ap, map, None, sym}
use Rattle.std.specs.Option.{option_map_or}
use Rattle.mt_files.specs.Resolve.{main_for, package_at}
use Rattle.mt_files.specs.Resolve.Candidate.{Package, Source}
use Rattle.mt_resolve.proofs.Searches.{ends_at, ends_none, ok_then}
use Rattle.mt_resolve.proofs.place.Place.first_package.Goals as goal

pub returns-in-Some-clause-exact : goal.returns-in-Some-clause-exact
returns-in-Some-clause-exact c =
    let place = c.args.self.now in
    let e = ap (λ o. option_map_or (λ file. Package file ∷ map Source (main_for place.options.now c.args.folder.now (package_at place.files.now file))) o []) (sym c.in-Some.is ∙ c.in_ok-file.ensures.exact) in
    ok_then c.first_main.result c.first_main.ensures.exact (λ found h. ends_at place.endings place.files.now c.args.notes.now.log _ found _ _ e h)

pub returns-in-None-clause-exact : goal.returns-in-None-clause-exact
returns-in-None-clause-exact c =
    let place = c.args.self.now in
    let e = ap (λ o. option_map_or (λ file. Package file ∷ map Source (main_for place.options.now c.args.folder.now (package_at place.files.now file))) o []) (sym c.in-None.is ∙ c.in_ok-file.ensures.exact) in
    ends_at place.endings place.files.now c.args.notes.now.log c.args.notes.now.log None _ _ e (ends_none place.endings place.files.now c.args.notes.now.log)
