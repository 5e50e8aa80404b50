use Rattle.mt_words.proofs.Keys.{no_entries, no_names}
use Rattle.mt_words.proofs.front.Front.new.Goals as goal

pub invariant_of-result : goal.invariant_of-result
invariant_of-result c = (no_entries c.new-2.result c.args.usage c.new.result c.new-2.ensures.empty c.new.ensures.empty, no_names c.new-4.result c.new-3.result c.new-4.ensures.empty c.new-3.ensures.empty)
