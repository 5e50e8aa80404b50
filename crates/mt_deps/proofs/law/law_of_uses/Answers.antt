use Rattle.std.proofs.lemmas.List.Elements.{All-from_recursion, recursion_from_All}
use Rattle.mt_tokens.specs.Tokens.{IsCut}
use Rattle.mt_deps.specs.Uses.{IsMarkText, IsUseCut}
use Rattle.mt_deps.proofs.Apart.{deps_apart}
use Rattle.mt_deps.proofs.Replaced.{deps_sound}
use Rattle.mt_deps.proofs.law.law_of_uses.Goals as goal

pub returns : goal.returns
returns c = record {
  apart = λ text ts found covers d. deps_apart text _ ts found covers d;
  cut = λ text ts found u cut d few. All-from_recursion (IsUseCut text) found.uses ((deps_sound text ts found u (recursion_from_All (IsCut text) ts cut) d).0 few);
  marks = λ text ts found u cut d. All-from_recursion IsMarkText found.marks (deps_sound text ts found u (recursion_from_All (IsCut text) ts cut) d).1;
}
