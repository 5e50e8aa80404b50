-- A new pair of name and kind gets the next number, and the table keeps it.
use Rattle.std.proofs.Common.{◌≡◌, ◌++◌, ◌∷◌, [], length, None, sym, ◌∙◌, ap, refl}
use Rattle.std.specs.Prelude.{unwrap_or}
use Rattle.mt_tokens.specs.Deps.{dependency, number_of}
use Rattle.mt_deps.specs.Numbers.{at_kind, row_of, with_kind}
use Rattle.mt_deps.proofs.Numbered.{new_number, numbers_more, row_kind}
use Rattle.mt_deps.proofs.numbers.number.Goals as goal

pub returns-clause-numbers : goal.returns-clause-numbers
returns-clause-numbers c =
    let ds = c.args.deps.now in
    let m = c.args.named.now in
    let d = dependency c.args.kind m in
    let r : c.row_at-row.result ≡ row_of ds m.name = c.row_at-row.ensures ∙ c.requires m.name in
    let absent : number_of m.name c.args.kind ds ≡ None = sym (row_kind ds m.name c.args.kind) ∙ ap (λ z. at_kind z c.args.kind) (sym r) ∙ sym c.of.ensures ∙ c.in_default.is in
    let w : c.with.result ≡ with_kind (row_of ds m.name) c.args.kind (length ds) = rw (c.with.ensures, r, c.len-number.ensures.count) refl in
    let pushed : c.push.new.self ≡ ds ++ d ∷ [] = c.in_ok-push.ensures.ok ∙ ap (λ n. ds ++ record { name = n; kind = c.args.kind; place = m.string.start } ∷ []) c.in_ok-name.ensures.cases in
    rw (c.in_ok-insert.ensures.ok, pushed, c.in_ok-key.ensures.cases) (numbers_more c.args.numbers.now ds d c.with.result c.requires absent w)

pub returns-clause-number : goal.returns-clause-number
returns-clause-number c =
    let ds = c.args.deps.now in
    let m = c.args.named.now in
    let d = dependency c.args.kind m in
    let r : c.row_at-row.result ≡ row_of ds m.name = c.row_at-row.ensures ∙ c.requires m.name in
    let absent : number_of m.name c.args.kind ds ≡ None = sym (row_kind ds m.name c.args.kind) ∙ ap (λ z. at_kind z c.args.kind) (sym r) ∙ sym c.of.ensures ∙ c.in_default.is in
    let pushed : c.push.new.self ≡ ds ++ d ∷ [] = c.in_ok-push.ensures.ok ∙ ap (λ n. ds ++ record { name = n; kind = c.args.kind; place = m.string.start } ∷ []) c.in_ok-name.ensures.cases in
    rw pushed (c.len-number.ensures.count ∙ sym (ap (λ o. unwrap_or o 0) (new_number ds d absent)))
