use Rattle.std.proofs.Common.{◌≡◌, ◌∙◌, ◌∷◌, ◌++◌, [], ap, true}
use Rattle.mt_words.specs.Fronts.{Front, is_build}
use Rattle.mt_words.proofs.Fronts.{entries_more, grown}
use Rattle.mt_words.proofs.front.Front.push_entry.Goals as goal

pub invariant_of-result : goal.invariant_of-result
invariant_of-result c =
    let build : is_build c.self.inside.usage ≡ true = ap (λ (f : Front). is_build f.usage) c.self.view_is ∙ c.requires.build in
    let more = c.in_ok-push.ensures.ok ∙ ap (λ t. c.self.inside.positionals ++ t ∷ []) c.in_ok-from_str.ensures.bytes in
    (entries_more c.self.inside.entries c.insert.new.self c.self.inside.usage c.self.inside.positionals c.push.new.self c.args.word.now c.args.entry build c.self.invariant.0 c.in_ok-insert.ensures.ok c.requires.rooted more, c.self.invariant.1)

pub returns : goal.returns
returns c =
    let more = c.in_ok-push.ensures.ok ∙ ap (λ t. c.self.inside.positionals ++ t ∷ []) c.in_ok-from_str.ensures.bytes in
    record { front = grown _ _ c.push.new.self c.args.word.now c.self.view_is more }
