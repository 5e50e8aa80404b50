use Rattle.std.proofs.Common.{◌≡◌, ◌+◌, drop, min}
use Rattle.mt_words.specs.Fronts.{start}
use Rattle.mt_words.specs.Words.{read_from}
use Rattle.mt_words.proofs.words.read_rest.Given as goal

abbrev pub invariant-loop-word : goal.invariant-loop-word
invariant-loop-word l = (read_from (l.word-index + 2) l.front (drop l.word-index l.words) ≡ read_from 2 (start l.fn.usage) l.words) × (l.at ≡ min (l.word-index + 2) 4294967295)
