use Rattle.std.proofs.Common.{◌∙◌, ap, map, sym, subst, take}
use Rattle.mt_files.specs.Resolve.{files_for}
use Rattle.mt_files.specs.Resolve.Candidate.{Source}
use Rattle.mt_resolve.specs.Runs.{files_by}
use Rattle.mt_resolve.specs.Searches.{Ends}
use Rattle.mt_resolve.specs.declared.probes.Run.TheVariants.{Files}
use Rattle.mt_resolve.proofs.Searches.{asked_first, ends_at, ends_run}
use Rattle.mt_resolve.proofs.place.Place.first_file.Goals as goal

pub returns : goal.returns
returns c =
    let place = c.args.self.now in
    let endings = place.endings in
    let files = place.files.now in
    let path = c.args.path.now in
    let asked_about = ap (λ n. take n (files_by endings path)) c.in_ok-hit.ensures.count ∙ asked_first files (files_by endings path) in
    let whole = ends_run endings files c.args.log.now (Files path c.in_ok-hit.hit.count) c.in_ok-hit.hit.found (map Source (files_by endings path)) c.in_ok-hit.ensures.found asked_about in
    record {
      exact = subst (λ after. Ends endings files c.args.log.now after c.in_ok-hit.hit.found (map Source (files_for place.options.now path))) (sym c.in_ok-add_files.ensures.ok)
          (ends_at endings files c.args.log.now _ c.in_ok-hit.hit.found (map Source (files_by endings path)) (map Source (files_for place.options.now path)) (ap (λ es. map Source (files_by es path)) place.listed) whole);
    }
