use Rattle.std.proofs.Common.{◌∙◌, ap, sym}
use Rattle.mt_files.specs.Resolve.{resolved, resolved_in}
use Rattle.mt_resolve.proofs.Known.{known_is}
use Rattle.mt_resolve.proofs.resolver.Resolver.target.Goals as goal

pub returns-in-Some-clause-target : goal.returns-in-Some-clause-target
unfolding resolved
returns-in-Some-clause-target c =
    let options = c.args.self.now.place.options.now in
    let files = c.args.self.now.place.files.now in
    c.in_ok-target.ensures.cases ∙ sym (known_is options files c.args.self.now.answers c.in_ok-folder.folder c.args.name.now c.in-Some.target.now c.requires.sound.known c.in-Some.ensures.exact)
    ∙ ap (λ folder. resolved_in options files folder c.args.name.now) c.in_ok-folder.ensures.exact

pub returns-clause-target : goal.returns-clause-target
unfolding resolved
returns-clause-target c =
    let options = c.args.self.now.place.options.now in
    let files = c.args.self.now.place.files.now in
    sym c.in_ok-answer.ensures.target ∙ ap (λ folder. resolved_in options files folder c.args.name.now) c.in_ok-folder.ensures.exact
