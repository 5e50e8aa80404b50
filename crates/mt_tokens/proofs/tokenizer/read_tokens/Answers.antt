-- Each exit answers what the scan does.
use Rattle.std.proofs.Common.{arith, [], ◌∷◌, ◌++◌, ◌-◌, ap, length, sym, inl, inr, ◌≡◌, ◌∙◌, refl, Some, None}
use Rattle.std.proofs.lemmas.List.{length-append}
use Rattle.std.proofs.lemmas.Result.{err_from_is_err_and}
use Rattle.mt_tokens.specs.Tokens.{open_in, scan, tokens_of}
use Rattle.mt_tokens.specs.Brackets.{innermost_place}
use Rattle.mt_tokens.proofs.Scans.{answer_at_fault, answer_at_misfit, answer_at_token, answer_at_end, closed_none, closed_some, end-push}
use Rattle.mt_tokens.proofs.tokenizer.read_tokens.Goals as goal

pub loop-at-init : goal.loop-at-init
loop-at-init c =
    let bytes = c.as_bytes-bytes.result.now in
    let e = c.new-found.ensures.items in
    let whole : length bytes - 0 ≡ length bytes = omega arith in
    record {
      within = omega arith;
      fewer = rw e (omega arith);
      place = rw e refl;
      follows = rw e (c.new-scanner.ensures.start bytes);
      answer = rw e (ap (λ n. scan n bytes []) whole);
    }

pub returns-in_err-token : goal.returns-in_err-token
returns-in_err-token c =
    let bytes = c.as_bytes-bytes.result.now in
    let found = c.loop-at.found.items in
    let i = c.loop-at.invariant in
    let p = err_from_is_err_and c.from_residual.result c.from_residual.ensures.1 in
    let b = c.before-in-loop-at.ensures bytes found i.follows in
    record {
      exact = rw (p.1, p.2, sym c.as_bytes-bytes.ensures.value)
          (inr (sym (answer_at_fault bytes found c.loop-at.at (tokens_of bytes) c.before-in-loop-at.result c.in_err-token.field-0.0 i.answer i.fewer i.place c.loop-at-test.true b c.in_err-token.ensures.exact)));
    }

pub returns-in_err-read : goal.returns-in_err-read
returns-in_err-read c =
    let bytes = c.as_bytes-bytes.result.now in
    let found = c.loop-at.found.items in
    let i = c.loop-at.invariant in
    let p = err_from_is_err_and c.from_residual-in_err-read.result c.from_residual-in_err-read.ensures.1 in
    let b = c.before-in-loop-at.ensures bytes found i.follows in
    elim c.in_err-read.ensures.err [
      | inl e ↦ record { exact = rw (p.1, p.2, e) (inl refl) }
      | inr m ↦ let f = m found i.follows in record {
        exact = rw (p.1, p.2, f.1, sym c.as_bytes-bytes.ensures.value)
            (inr (sym (answer_at_misfit bytes found c.loop-at.at (tokens_of bytes) c.before-in-loop-at.result c.in_ok-token.token i.answer i.fewer i.place c.loop-at-test.true b c.in_ok-token.ensures.exact f.0)));
      }
    ]

pub loop-at-preserved : goal.loop-at-preserved
loop-at-preserved c =
    let bytes = c.as_bytes-bytes.result.now in
    let found = c.loop-at.found.items in
    let i = c.loop-at.invariant in
    let e : c.push.new.self.items ≡ found ++ c.in_ok-token.token ∷ [] = grind arith in
    let ends = c.in_ok-token.ensures.ends in
    let b = c.before-in-loop-at.ensures bytes found i.follows in
    let f = c.in_ok-read.ensures.ok found i.follows in
    record {
      within = ends.1;
      fewer = rw e (omega (arith, length-append found (c.in_ok-token.token ∷ [])));
      place = rw e (sym (end-push 0 found c.in_ok-token.token));
      follows = rw e f.1;
      answer = rw e (answer_at_token bytes found c.loop-at.at (tokens_of bytes) c.before-in-loop-at.result c.in_ok-token.token i.answer i.fewer i.place c.loop-at-test.true b c.in_ok-token.ensures.exact f.0);
    }

pub returns-in-Some : goal.returns-in-Some
returns-in-Some c =
    let bytes = c.as_bytes-bytes.result.now in
    let found = c.loop-at.found.items in
    let i = c.loop-at.invariant in
    let a = answer_at_end bytes found c.loop-at.at (tokens_of bytes) i.answer i.place c.loop-at-test.false in
    let o : Some c.in-Some.place ≡ innermost_place (open_in bytes found) = c.in-Some.ensures bytes found i.follows in
    record { exact = rw (sym c.as_bytes-bytes.ensures.value) (inr (sym (closed_some bytes found c.in-Some.place o) ∙ a)) }

pub returns : goal.returns
returns c =
    let bytes = c.as_bytes-bytes.result.now in
    let found = c.loop-at.found.items in
    let i = c.loop-at.invariant in
    let a = answer_at_end bytes found c.loop-at.at (tokens_of bytes) i.answer i.place c.loop-at-test.false in
    let o : None ≡ innermost_place (open_in bytes found) = c.in_default.ensures bytes found i.follows in
    record { exact = rw (c.from_vec.ensures.tokens, sym c.as_bytes-bytes.ensures.value) (inr (sym (closed_none bytes found o) ∙ a)) }
