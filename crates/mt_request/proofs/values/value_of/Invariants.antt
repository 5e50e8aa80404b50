use Rattle.std.proofs.Common.{◌≡◌, drop}
use Rattle.mt_words.specs.Tables.{named}
use Rattle.mt_request.proofs.values.value_of.Given as goal

abbrev pub invariant-loop-given : goal.invariant-loop-given
invariant-loop-given l = named (drop l.given-index l.options) l.name ≡ named l.options l.name
