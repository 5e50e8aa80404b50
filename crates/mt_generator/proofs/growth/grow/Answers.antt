use Rattle.std.proofs.Common.{rules, arith, ◌≡◌, sym, subst}
use Rattle.std.proofs.lemmas.List.Elements.{All-same}
use Rattle.mt_script.specs.Commands.{IsCommand}
use Rattle.mt_generator.specs.Growths.{AreSources, files_grown, grown}
use Rattle.mt_generator.proofs.Commands.{all_are}
use Rattle.mt_generator.proofs.Folders.{files_are}
use Rattle.mt_generator.proofs.growth.grow.Goals as goal

pub returns-clause-small : goal.returns-clause-small
returns-clause-small c =
    let same : c.in_ok-files.files ≡ (files_grown c.args.seed c.args.modules).0 = search rules in
    subst AreSources (sym same) (files_are c.args.seed c.args.modules (omega arith))

pub returns-clause-script : goal.returns-clause-script
returns-clause-script c =
    let same : c.push.new.self ≡ (grown c.args.seed c.args.modules c.args.edits).commands = search rules in
    All-same IsCommand c.push.new.self _ same (all_are _ c.args.modules c.args.edits (omega arith) (omega arith))
