-- The token before the others.
use Rattle.std.proofs.Common.{arith, ◌≡◌, ◌+◌, ◌-◌, ◌≤◌, ◌∷◌, drop, length, get_or, ap, refl, sym, ◌∙◌}
use Rattle.mt_tokens.specs.Words.{seen}
use Rattle.mt_tokens.specs.declared.token.Token.{Token}
use Rattle.mt_tokens.specs.declared.token.TokenKind.TheVariants.{Space}
use Rattle.mt_deps.specs.Groups.{first_group, spans_of}
use Rattle.mt_deps.proofs.ListSteps.{back_seen, back_step}
use Rattle.mt_deps.proofs.Partners.{span_found, body_found}
use Rattle.mt_deps.proofs.spans.read_spans.Goals as goal

pub loop-rest-preserved : goal.loop-rest-preserved
loop-rest-preserved c =
    let i = c.loop-rest.invariant in
    let text = c.args.bytes.now in
    let ts = c.args.tokens.now in
    let n = c.loop-rest.rest in
    let none : Token = record { kind = Space; start = 0; end = 0 } in
    let here : Token = get_or ts (n - 1) none in
    let after = seen (drop n ts) in
    let w : n ≤ length ts = omega (arith, i.within) in
    let e = back_step ts n none c.loop-rest-test.true w in
    let s = back_seen ts n none c.loop-rest-test.true w (sym c.is_seen_kind.ensures.seen ∙ c.if-not-is_seen_kind.false) in
    let t : c.top-top.result ≡ first_group c.loop-rest.groups = c.top-top.ensures in
    let one : length after + 1 ≡ length (here ∷ after) = omega arith in
    record {
      within = omega (arith, i.within, c.loop-rest-test.true);
      count = rw (s, i.count) one;
      spans = rw (s, c.in_ok-push.ensures, c.span_at.ensures, e.1, t, i.groups, i.spans) (ap (λ z. z ∷ spans_of text after) (span_found text here after));
      groups = rw (s, c.in_ok-put_before.ensures, e.1, i.groups, i.body) refl;
      body = rw (s, c.body_at-body.ensures, t, i.groups) (body_found text here after);
    }
