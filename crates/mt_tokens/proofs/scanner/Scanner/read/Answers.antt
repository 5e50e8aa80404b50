-- Blanks and comments are passed.
use Rattle.std.proofs.Common.{◌≡◌, ◌∙◌, sym, true, false, inl, inr}
use Rattle.std.proofs.lemmas.Result.{IfErr-weaker, on_ok_weaker}
use Rattle.mt_tokens.specs.Tokens.{looking_back}
use Rattle.mt_tokens.specs.Words.{is_seen}
use Rattle.mt_tokens.proofs.Openings.{follows_seen, follows_unseen}
use Rattle.mt_tokens.proofs.scanner.Scanner.read.Goals as goal

pub returns-then-is_seen_kind-clause-ok : goal.returns-then-is_seen_kind-clause-ok
returns-then-is_seen_kind-clause-ok c =
    let seen : is_seen c.args.token.kind ≡ true = sym c.is_seen_kind.ensures.seen ∙ c.if-is_seen_kind.true in
    on_ok_weaker c.read_seen.result (λ more found f. follows_seen c.args.bytes.now found c.args.token c.args.self.now c.read_seen.new.self seen more f) c.read_seen.ensures.ok

pub returns-then-is_seen_kind-clause-err : goal.returns-then-is_seen_kind-clause-err
returns-then-is_seen_kind-clause-err c =
    IfErr-weaker c.read_seen.result _ _
    (λ e h. elim h [
      | inl memory ↦ inl memory
      | inr misfit ↦ inr (λ found f. misfit (looking_back found) f)
    ])
    c.read_seen.ensures.err

pub returns-clause-ok : goal.returns-clause-ok
returns-clause-ok c = λ found f.
    let seen : is_seen c.args.token.kind ≡ false = sym c.is_seen_kind.ensures.seen ∙ c.if-is_seen_kind.false in
    follows_unseen c.args.bytes.now found c.args.token c.args.self.now seen f
