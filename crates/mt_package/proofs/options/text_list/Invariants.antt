use Rattle.std.proofs.Common.{◌≡◌, map, take}
use Rattle.mt_package.proofs.options.text_list.Given as goal

abbrev pub invariant-loop-word : goal.invariant-loop-word
invariant-loop-word l = l.list ≡ map (λ word. word.now) (take l.word-index l.words)
