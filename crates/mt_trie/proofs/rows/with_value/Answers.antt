use Rattle.std.specs.Option.{option_copied}
use Rattle.std.proofs.lemmas.Result.{IfOk-weaker}
use Rattle.mt_trie.proofs.Tries.{value_changed}
use Rattle.mt_trie.proofs.rows.with_value.Goals as goal

pub returns : goal.returns
returns g c = record {
  changed = IfOk-weaker c.changed-5.result _ _ (λ rows h. value_changed
      (option_copied c.args.rows) (option_copied c.child-fours.result) (option_copied c.child-threes.result) (option_copied c.child-twos.result) (option_copied c.child-ones.result)
      rows c.in_ok-fours.fours c.in_ok-threes.threes c.in_ok-twos.twos c.in_ok-ones.ones c.args.key c.args.value
      c.child-fours.ensures.child c.child-threes.ensures.child c.child-twos.ensures.child c.child-ones.ensures.child
      h c.in_ok-fours.ensures.changed c.in_ok-threes.ensures.changed c.in_ok-twos.ensures.changed c.in_ok-ones.ensures.changed) c.changed-5.ensures.changed;
}
