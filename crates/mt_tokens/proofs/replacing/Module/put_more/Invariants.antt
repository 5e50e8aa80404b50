use Rattle.std.proofs.Common.{◌≡◌, ◌++◌, length}
use Rattle.std.specs.Prelude.{codes}
use Rattle.std.specs.List.{flat_map}
use Rattle.mt_tokens.specs.Replacements.{item_text}
use Rattle.mt_tokens.proofs.replacing.Module.put_more.Given as goal

abbrev pub invariant-loop-item : goal.invariant-loop-item
invariant-loop-item l = l.out ++ flat_map (λ more. codes " " ++ item_text l.self.text.now l.target l.self.number more) l.rest ≡ l.fn.out ++ flat_map (λ more. codes " " ++ item_text l.self.text.now l.target l.self.number more) l.items

abbrev pub decreases-loop-item : goal.decreases-loop-item
decreases-loop-item l = length l.rest
