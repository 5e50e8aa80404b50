use Rattle.std.proofs.Common.{◌≡◌, ◌∙◌, ap}
use Rattle.std.specs.Option.{option_copied}
use Rattle.mt_revision.specs.Revisions.{made_after}
use Rattle.mt_revision.specs.Contents.{HasContent, numbers_of, revision_after}
use Rattle.mt_fresh.proofs.GraphRevisions.{fresh_content, fresh_revision, when_ok}
use Rattle.mt_fresh.proofs.graph_revision.revision_of_graph.Goals as goal

pub returns-clause-fresh : goal.returns-clause-fresh
returns-clause-fresh c ask files e h k =
    let before = option_copied c.args.before in
    let dev = c.args.options.now.dev in
    let numbering = c.args.numbering.now in
    when_ok c.make.result (λ r. r ≡ made_after before dev c.args.changes c.in_ok-numbers.numbers c.in_ok-modules.modules) (λ r. r ≡ revision_after ask before c.args.changes numbering files)
    (λ r i.
    i
    ∙ ap (λ ns. made_after before dev c.args.changes ns c.in_ok-modules.modules) c.in_ok-numbers.ensures.numbers
    ∙ ap (made_after before dev c.args.changes (numbers_of numbering c.args.entries.now)) c.in_ok-modules.ensures.modules
    ∙ fresh_revision ask files c.args.options.now c.args.entries.now c.args.graph before c.args.changes numbering e h k)
    c.make.ensures.exact

pub returns-clause-content : goal.returns-clause-content
returns-clause-content c ask files e h k =
    when_ok c.make.result (λ r. r ≡ revision_after ask (option_copied c.args.before) c.args.changes c.args.numbering.now files) (λ r. HasContent ask r c.args.numbering.now files)
    (λ r i. fresh_content ask files c.args.graph (option_copied c.args.before) c.args.changes c.args.numbering.now r h k i)
    (returns-clause-fresh c ask files e h k)
