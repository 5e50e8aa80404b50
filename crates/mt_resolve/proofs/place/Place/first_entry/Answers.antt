use Rattle.std.proofs.Common.{◌∙◌, [], ap, map, sym, cond}
use Rattle.std.specs.Option.{option_map_or}
use Rattle.std.specs.Str.{bytes_eq}
use Rattle.std.proofs.lemmas.List.{map-append}
use Rattle.mt_files.specs.Resolve.{entry_for, files_for, index_for}
use Rattle.mt_files.specs.Resolve.Candidate.{Source}
use Rattle.mt_resolve.proofs.Searches.{ends_at, ends_found, ends_stop, ends_then, ok_then}
use Rattle.mt_resolve.proofs.place.Place.first_entry.Goals as goal

pub returns-in-Some-2 : goal.returns-in-Some-2
returns-in-Some-2 c =
    let place = c.args.self.now in
    let options = place.options.now in
    let folder = c.args.folder.now in
    let path = c.in-Some.path in
    let beside = cond (bytes_eq path folder) [] (files_for options path) in
    let e = ap (λ o. map Source (option_map_or (entry_for options folder) o [])) (sym c.in-Some.is ∙ c.in_ok-path.ensures.exact) in
    let k = ends_stop place.endings place.files.now c.args.log.now _ c.in-Some-2.target (map Source beside) (map Source (index_for options path)) (ends_found place.endings place.files.now c.args.log.now _ _ _ _ c.in-Some-2.is c.in_ok-target.ensures.exact) in
    record { exact = ends_at place.endings place.files.now c.args.log.now _ _ _ _ (sym (map-append Source beside (index_for options path)) ∙ e) k }

pub returns : goal.returns
returns c =
    let place = c.args.self.now in
    let options = place.options.now in
    let folder = c.args.folder.now in
    let path = c.in-Some.path in
    let beside = cond (bytes_eq path folder) [] (files_for options path) in
    let e = ap (λ o. map Source (option_map_or (entry_for options folder) o [])) (sym c.in-Some.is ∙ c.in_ok-path.ensures.exact) in
    record {
      exact = ok_then c.first_index.result c.first_index.ensures.exact (λ found h.
          ends_at place.endings place.files.now c.args.log.now _ found _ _ (sym (map-append Source beside (index_for options path)) ∙ e)
          (ends_then place.endings place.files.now c.args.log.now _ _ found (map Source beside) (map Source (index_for options path)) (ends_found place.endings place.files.now c.args.log.now _ _ _ _ c.in_default-2.is c.in_ok-target.ensures.exact) h));
    }
