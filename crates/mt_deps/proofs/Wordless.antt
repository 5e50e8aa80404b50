-- Where none of the words stands, nothing is found.
use Rattle.std.proofs.Common.{◌≡◌, ◌∙◌, ℕ, Bool, true, false, cond, List, [], ◌∷◌, Option, None, Some, Ok, ap, refl}
use Rattle.std.specs.Prelude.{codes, nat_lt}
use Rattle.std.specs.List.{list_any}
use Rattle.std.proofs.lemmas.Bool.{or_parts}
use Rattle.mt_tokens.specs.Forms.{is_any_word}
use Rattle.mt_tokens.specs.Deps.{deps_of, gathered_or}
use Rattle.mt_tokens.specs.Readings.{found_at, found_before, read_site}
use Rattle.mt_tokens.specs.Shields.{cover_after, no_cover}
use Rattle.mt_tokens.specs.Sites.{Site, depth_after}
use Rattle.mt_tokens.specs.Words.{is_seen, is_word, seen}
use Rattle.mt_tokens.specs.declared.forms.Cover.{Cover}
use Rattle.mt_tokens.specs.declared.token.Token.{Token}
use Rattle.mt_deps.specs.Gathered.{nothing}
use Rattle.mt_deps.specs.Words.{is_telling}

no_site : (text : List ℕ) (shielded : Bool) (s : Site) → is_telling text s.here ≡ false → read_site text shielded s ≡ Ok None
no_site text shielded s h =
    let i = or_parts (is_word text (codes "import") s.here) (is_any_word text (codes "export" ∷ codes "require" ∷ []) s.here) h in
    let e = or_parts (is_word text (codes "export") s.here) (is_any_word text (codes "require" ∷ []) s.here) i.1 in
    let r = or_parts (is_word text (codes "require") s.here) false e.1 in
    rw (i.0, e.0, r.0) refl

none_found : (text : List ℕ) (c : Cover) (before : Option Token) (depth : ℕ) (ts : List Token) → list_any (is_telling text) ts ≡ false → found_at text c before depth ts ≡ Ok []
none_found text c before depth [] h = refl
none_found text c before depth (t ∷ ts) h =
    let p = or_parts (is_telling text t) (list_any (is_telling text) ts) h in
    ap (λ one. found_before one (found_at text (cover_after text c t ts) (Some t) (depth_after text depth t) ts)) (no_site text (nat_lt 0 c.count) (record { before = before; depth = depth; here = t; after = ts }) p.0)
    ∙ none_found text (cover_after text c t ts) (Some t) (depth_after text depth t) ts p.1

kept_by : (text : List ℕ) (b : Bool) (t : Token) (us : List Token) → is_telling text t ≡ false → list_any (is_telling text) us ≡ false → list_any (is_telling text) (cond b (t ∷ us) us) ≡ false
kept_by text true t us h k = rw (h, k) refl
kept_by text false t us h k = k

none_seen : (text : List ℕ) (ts : List Token) → list_any (is_telling text) ts ≡ false → list_any (is_telling text) (seen ts) ≡ false
none_seen text [] h = h
none_seen text (t ∷ ts) h = let p = or_parts (is_telling text t) (list_any (is_telling text) ts) h in kept_by text (is_seen t.kind) t (seen ts) p.0 (none_seen text ts p.1)

pub deps_none : (text : List ℕ) (ts : List Token) → list_any (is_telling text) ts ≡ false → deps_of text ts ≡ Ok nothing
unfolding deps_of
deps_none text ts h = ap (gathered_or text) (none_found text no_cover None 0 (seen ts) (none_seen text ts h))
