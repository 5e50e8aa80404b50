use Rattle.std.proofs.Common.{map}
use Rattle.mt_files.specs.Resolve.{index_for}
use Rattle.mt_files.specs.Resolve.Candidate.{Source}
use Rattle.mt_resolve.specs.Searches.{package_for}
use Rattle.mt_resolve.proofs.Searches.{ends_found, ends_stop, ends_then, ok_then}
use Rattle.mt_resolve.proofs.place.Place.first_in_folder.Goals as goal

pub returns-in-Some-clause-exact : goal.returns-in-Some-clause-exact
returns-in-Some-clause-exact c =
    let place = c.args.self.now in
    let folder = c.args.folder.now in
    ends_stop place.endings place.files.now c.args.notes.now.log _ c.in-Some.target (package_for place.options.now place.files.now folder) (map Source (index_for place.options.now folder)) (ends_found place.endings place.files.now c.args.notes.now.log _ _ _ _ c.in-Some.is c.in_ok-target.ensures.exact)

pub returns-clause-exact : goal.returns-clause-exact
returns-clause-exact c =
    let place = c.args.self.now in
    let folder = c.args.folder.now in
    ok_then c.first_index.result c.first_index.ensures.exact
    (λ found h.
    ends_then place.endings place.files.now c.args.notes.now.log _ _ found (package_for place.options.now place.files.now folder) (map Source (index_for place.options.now folder)) (ends_found place.endings place.files.now c.args.notes.now.log _ _ _ _ c.in_default.is c.in_ok-target.ensures.exact) h)
