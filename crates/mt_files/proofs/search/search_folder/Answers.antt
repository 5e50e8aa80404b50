use Rattle.std.proofs.lemmas.List.Elements.{Contains-push}
use Rattle.mt_files.proofs.Listings.{listed_step}
use Rattle.mt_files.proofs.Searches.{searched_step, shown_step}
use Rattle.mt_files.proofs.search.search_folder.Goals as goal

pub returns-clause-shown : goal.returns-clause-shown
returns-clause-shown g c = λ h. rw (c.in_ok-take_children.ensures.met, c.in_ok-take_children.ensures.places) (shown_step c.args.met.now c.args.places.now c.args.place.now c.in_ok-names.names h)

pub returns-clause-searched : goal.returns-clause-searched
returns-clause-searched g c =
    λ tree tells shown h.
    rw (c.in_ok-take_children.ensures.met, c.in_ok-take_children.ensures.places)
    (searched_step tree c.args.met.now c.args.places.now c.args.place.now c.in_ok-names.names (c.in_ok-names.ensures.listed tree tells) (shown.opened c.args.place.now (Contains-push c.args.places.now c.args.place.now)) h)

pub returns-clause-listed : goal.returns-clause-listed
returns-clause-listed g c =
    λ h.
    rw (c.in_ok-take_children.ensures.met, c.in_ok-take_children.ensures.places)
    (listed_step g.F.Folder.lists c.args.met.now c.args.places.now c.args.place.now c.in_ok-names.names c.in_ok-names.ensures.given h)
