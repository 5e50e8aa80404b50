use Rattle.std.proofs.Common.{◌≡◌, ◌∙◌, ◌∷◌, ◌++◌, [], ap, true, false, Some, None, length, slice_get, arith}
use Rattle.mt_words.specs.Fronts.{Front}
use Rattle.mt_words.specs.Tables.{amounts}
use Rattle.mt_words.specs.Values.{is_value}
use Rattle.mt_words.proofs.Fronts.{amount_by, amount_none, grown}
use Rattle.mt_words.proofs.front.Front.with_amount.Goals as goal

pub returns-in_default : goal.returns-in_default
returns-in_default c =
    let count : c.len.result ≡ length c.args.self.positionals = c.len.ensures.count ∙ ap (λ (f : Front). length f.positionals) c.self.view_is in
    let kind : None ≡ slice_get amounts c.len.result = (let k = c.amount.ensures.kind in let i = c.in_default.is in cc) in
    record { front = amount_none c.args.self c.args.word.now c.requires.grow (kind ∙ ap (slice_get amounts) count) }

pub returns-then-not-accepts : goal.returns-then-not-accepts
returns-then-not-accepts c =
    let count : c.len.result ≡ length c.args.self.positionals = c.len.ensures.count ∙ ap (λ (f : Front). length f.positionals) c.self.view_is in
    let bad : is_value c.in-Some.kind c.args.word.now ≡ false = grind (arith, c.accepts.ensures.value, c.if-not-accepts.true) in
    record { front = amount_by c.args.self c.args.word.now c.in-Some.kind false c.requires.grow (c.in-Some.ensures.kind ∙ ap (slice_get amounts) count) bad }

pub returns : goal.returns
returns c =
    let count : c.len.result ≡ length c.args.self.positionals = c.len.ensures.count ∙ ap (λ (f : Front). length f.positionals) c.self.view_is in
    let good : is_value c.in-Some.kind c.args.word.now ≡ true = grind (arith, c.accepts.ensures.value, c.if-not-accepts.false) in
    let more = c.in_ok-push.ensures.ok ∙ ap (λ t. c.self.inside.positionals ++ t ∷ []) c.in_ok-from_str.ensures.bytes in
    record { front = ap Some (grown _ _ c.push.new.self c.args.word.now c.self.view_is more) ∙ amount_by c.args.self c.args.word.now c.in-Some.kind true c.requires.grow (c.in-Some.ensures.kind ∙ ap (slice_get amounts) count) good }
