use Rattle.std.proofs.Common.{◌∙◌, ◌++◌, ap, sym, subst}
use Rattle.mt_path.specs.Names.{folder_of}
use Rattle.mt_files.specs.Resolve.{asked, candidates, probes, resolved, resolved_in}
use Rattle.mt_resolve.specs.Runs.{paths_in}
use Rattle.mt_resolve.specs.Searches.{AreRead}
use Rattle.mt_resolve.proofs.Answered.{none_read}
use Rattle.mt_resolve.proofs.Known.{none_known}
use Rattle.mt_resolve.proofs.resolution.resolve.Goals as goal

pub answer-requires-clause-read : goal.answer-requires-clause-read
answer-requires-clause-read c =
    let place = c.in_ok-place.place in
    subst (λ m. AreRead place.options.now place.files.now m) (sym c.new-notes.ensures.packages) (none_read place.options.now place.files.now)

pub answer-requires-clause-known : goal.answer-requires-clause-known
answer-requires-clause-known c =
    let place = c.in_ok-place.place in
    none_known place.options.now place.files.now _ c.new-answers.ensures.empty

pub returns-clause-target : goal.returns-clause-target
unfolding resolved
returns-clause-target c =
    let options = c.args.options.now in
    let files = c.args.files.now in
    let place = c.in_ok-place.place in
    sym c.in_ok-answer.ensures.target ∙ ap (λ o. resolved_in o place.files.now c.in_ok-folder.folder c.in_ok-name.name) c.in_ok-place.ensures.options
    ∙ ap (λ f. resolved_in options f c.in_ok-folder.folder c.in_ok-name.name) c.in_ok-place.ensures.files
    ∙ ap (λ f. resolved_in options files f c.in_ok-name.name) c.in_ok-folder.ensures.exact
    ∙ ap (λ n. resolved_in options files (folder_of c.args.origin.now) n) c.in_ok-name.ensures.bytes

pub returns-clause-probes : goal.returns-clause-probes
unfolding probes
returns-clause-probes c =
    let options = c.args.options.now in
    let files = c.args.files.now in
    let place = c.in_ok-place.place in
    let logged = c.in_ok-answer.ensures.probes c.new-answers.ensures.empty in
    c.new-probes.ensures.paths ∙ logged.paths c.new-notes.ensures.keep
    ∙ ap (λ runs. paths_in place.endings runs ++ asked place.files.now (candidates place.options.now place.files.now c.in_ok-folder.folder c.in_ok-name.name)) c.new-notes.ensures.runs
    ∙ ap (λ o. asked place.files.now (candidates o place.files.now c.in_ok-folder.folder c.in_ok-name.name)) c.in_ok-place.ensures.options
    ∙ ap (λ f. asked f (candidates options f c.in_ok-folder.folder c.in_ok-name.name)) c.in_ok-place.ensures.files
    ∙ ap (λ f. asked files (candidates options files f c.in_ok-name.name)) c.in_ok-folder.ensures.exact
    ∙ ap (λ n. asked files (candidates options files (folder_of c.args.origin.now) n)) c.in_ok-name.ensures.bytes
