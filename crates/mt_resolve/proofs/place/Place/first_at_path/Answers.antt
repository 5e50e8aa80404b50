use Rattle.std.proofs.Common.{[], cond, map}
use Rattle.mt_files.specs.Resolve.{files_for, folder_for, last_part, names_something}
use Rattle.mt_files.specs.Resolve.Candidate.{Source}
use Rattle.mt_resolve.proofs.Searches.{ends_found, ends_stop, ends_then, ok_then}
use Rattle.mt_resolve.proofs.place.Place.first_at_path.Goals as goal

pub returns-in-Some-clause-exact : goal.returns-in-Some-clause-exact
returns-in-Some-clause-exact c =
    let place = c.args.self.now in
    let path = c.args.path.now in
    ends_stop place.endings place.files.now c.args.notes.now.log _ c.in-Some.target (cond (names_something (last_part c.args.name.now)) (map Source (files_for place.options.now path)) [])
    (folder_for place.options.now place.files.now path) (ends_found place.endings place.files.now c.args.notes.now.log _ _ _ _ c.in-Some.is c.in_ok-target.ensures.exact)

pub returns-clause-exact : goal.returns-clause-exact
returns-clause-exact c =
    let place = c.args.self.now in
    let path = c.args.path.now in
    ok_then c.first_in_folder.result c.first_in_folder.ensures.exact
    (λ found h.
    ends_then place.endings place.files.now c.args.notes.now.log _ _ found (cond (names_something (last_part c.args.name.now)) (map Source (files_for place.options.now path)) [])
    (folder_for place.options.now place.files.now path) (ends_found place.endings place.files.now c.args.notes.now.log _ _ _ _ c.in_default.is c.in_ok-target.ensures.exact) h)
