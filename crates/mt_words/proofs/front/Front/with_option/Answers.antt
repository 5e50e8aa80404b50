use Rattle.mt_words.proofs.Keys.{given_more}
use Rattle.mt_words.proofs.front.Front.with_option.Goals as goal

pub invariant_of-result : goal.invariant_of-result
invariant_of-result c =
    (c.self.invariant.0, given_more c.self.inside.given c.insert.new.self c.in_ok-clone.field-0 c.args.name c.args.value tt c.self.inside.options c.push.new.self c.self.invariant.1 c.in_ok-insert.ensures.ok c.in_ok-clone.ensures.cases c.in_ok-push.ensures.ok)
