-- Each token goes on to what the whole text has.
use Rattle.std.proofs.Common.{arith, subst, ◌≡◌, ◌+◌, ◌≤◌, ◌∷◌, drop, length, sym, ◌∙◌, Some, Ok, ap, refl}
use Rattle.std.specs.Prelude.{nat_lt}
use Rattle.mt_tokens.specs.Cut.{AreCut}
use Rattle.mt_tokens.specs.Readings.{found_at, read_site}
use Rattle.mt_tokens.specs.Shields.{cover_after, span}
use Rattle.mt_tokens.specs.Sites.{depth_after}
use Rattle.mt_tokens.specs.Words.{seen}
use Rattle.mt_deps.specs.Gathered.{kept}
use Rattle.mt_deps.specs.Groups.{spans_of}
use Rattle.mt_deps.specs.Seen.{seen_of, seen_site}
use Rattle.mt_deps.proofs.Cuts.{option_cut}
use Rattle.mt_deps.proofs.Gathers.{extended_more, extended_or}
use Rattle.mt_deps.proofs.Steps.{found_next, site}
use Rattle.mt_deps.proofs.reading.read_seen.Goals as goal

pub add_any-requires-clause-cut : goal.add_any-requires-clause-cut
add_any-requires-clause-cut c =
    let text = c.args.text.now in
    let s = c.in-Some.site in
    let k : AreCut text (s.here ∷ seen_of s.after) = subst (AreCut text) c.in-Some.ensures.site.0 c.loop-site.invariant.cut in
    option_cut text (nat_lt 0 c.loop-site.cover.count) (seen_site s) c.in_ok-found.found c.in_ok-found.ensures.ok k.0 k.1

pub loop-site-preserved : goal.loop-site-preserved
loop-site-preserved c =
    let i = c.loop-site.invariant in
    let text = c.as_bytes-bytes.result.now in
    let cover = c.loop-site.cover in
    let rest = seen_of c.loop-site.sites.rest in
    let s = c.in-Some.site in
    let here = s.here in
    let after = seen_of s.after in
    let known = kept c.loop-site.gathering in
    let f = c.in-Some.ensures.site in
    let r = c.in-Some.ensures.rest in
    let e : read_site text (nat_lt 0 cover.count) (site s.before s.depth here after) ≡ Ok c.in_ok-found.found = rw c.as_bytes-bytes.ensures.value c.in_ok-found.ensures.ok in
    let p : c.loop-site.spans ≡ span text here after ∷ spans_of text after = rw f.0 at i.spans in
    let n : c.next_cover-cover.result ≡ cover_after text cover here after = rw (c.next_cover-cover.ensures, c.pop-span.ensures.first _ _ p) refl in
    let x : c.next.new.self.depth ≡ depth_after text s.depth here = rw f.2 c.in-Some.ensures.depth in
    let o = found_next text cover s.before s.depth here after rest c.in_ok-found.found f.0 e in
    let m = extended_more text known (kept c.add_any.new.self) c.in_ok-found.found (found_at text (cover_after text cover here after) (Some here) (depth_after text s.depth here) after) (rw c.as_bytes-bytes.ensures.value c.in_ok-add_any.ensures.kept) in
    let l = ap length f.0 in
    let y : c.add_any.new.self.dynamic + length after ≤ length (seen c.args.tokens.now) = omega (arith, i.dynamic, l, c.in_ok-add_any.ensures.most) in
    record {
      cut = rw r (subst (AreCut c.args.text.now) f.0 i.cut).1;
      dynamic = rw r y;
      spans = rw r (c.pop-span.ensures.rest ∙ ap (drop 1) p);
      numbers = c.in_ok-add_any.ensures.numbers;
      left = rw (c.in-Some.ensures.before, x, r, n) (sym m ∙ sym (ap (extended_or text known) o) ∙ rw (f.1, f.2) i.left);
    }
