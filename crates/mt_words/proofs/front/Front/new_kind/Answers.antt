use Rattle.std.proofs.Common.{◌≡◌, ◌∙◌, sym, ap, subst, true, false, None}
use Rattle.mt_words.specs.Fronts.{is_among, names, new_kind}
use Rattle.mt_words.specs.Tables.{named, options_of}
use Rattle.mt_words.proofs.Fronts.{kind_given, kind_new}
use Rattle.mt_words.proofs.front.Front.new_kind.Goals as goal

pub returns-then-contains : goal.returns-then-contains
returns-then-contains c =
    let given : is_among (names c.self.inside.options) c.args.name.now ≡ true = sym (c.self.invariant.1.at c.args.name.now) ∙ sym c.contains.ensures.has ∙ c.if-contains.true in
    record { kind = subst (λ f. None ≡ new_kind f c.args.name.now) c.self.view_is (kind_given _ c.args.name.now given) }

pub returns-else-contains : goal.returns-else-contains
returns-else-contains c =
    let given : is_among (names c.self.inside.options) c.args.name.now ≡ false = sym (c.self.invariant.1.at c.args.name.now) ∙ sym c.contains.ensures.has ∙ c.if-contains.false in
    let kind : c.option.result ≡ named (options_of c.self.inside.usage) c.args.name.now = c.option.ensures.kind ∙ ap (named (options_of c.self.inside.usage)) c.as_str.ensures.bytes in
    record { kind = subst (λ f. c.option.result ≡ new_kind f c.args.name.now) c.self.view_is (kind_new _ c.args.name.now c.option.result given kind) }
