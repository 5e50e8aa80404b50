use Rattle.std.proofs.Common.{◌≡◌, ◌∙◌, ◌++◌, filter, ap}
use Rattle.std.specs.Option.{option_copied}
use Rattle.std.specs.FinMap.{keys}
use Rattle.mt_revision.proofs.Touches.{other_here}
use Rattle.mt_revision.proofs.touched.touched_among.Goals as goal

pub loop-number-init : goal.loop-number-init
loop-number-init c =
    let is : c.into_iter-number-iterator.result ≡ keys c.args.numbers.now = c.into_iter-number-iterator.ensures.into_iter_gives ∙ c.keys-number-items.ensures.rest in
    ap (λ t. t ++ filter (other_here c.args.dev (option_copied c.args.before) c.args.modules.now) c.into_iter-number-iterator.result) c.new-touched.ensures.empty
    ∙ ap (filter (other_here c.args.dev (option_copied c.args.before) c.args.modules.now)) is
