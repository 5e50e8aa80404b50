-- The bracket of a token, from the last token back, is the one that looking forward finds.
use Rattle.std.proofs.Common.{arith, ◌≡◌, ℕ, zero, suc, ◌+◌, ◌-◌, List, [], ◌∷◌, drop, length, Bool, true, false, cond, Some, None, Option, refl, ◌∙◌, ap}
use Rattle.std.specs.Prelude.{◌&&◌, ◌||◌, ◌==◌, codes}
use Rattle.std.proofs.lemmas.Bool.Decides.{nat_tests}
use Rattle.mt_tokens.specs.Shields.{after_closer, begins_parameter, from_closer, has_parameter, span}
use Rattle.mt_tokens.specs.Sites.{begins, closes, depth_after, opens}
use Rattle.mt_tokens.specs.Words.{is_mark}
use Rattle.mt_tokens.specs.declared.token.Token.{Token}
use Rattle.mt_deps.specs.Groups.{after_of, body_before, body_of, first_group, groups_of, length_to, mark_first, span_by, without_opened}
use Rattle.mt_deps.specs.declared.spans.Group.{Group}

-- a bracket, counted from the innermost
nth : List Group → ℕ → Option Group
nth [] k = None
nth (g ∷ gs) zero = Some g
nth (g ∷ gs) (suc k) = nth gs k

-- a bracket by its closer
bracket : List ℕ → Bool → List Token → Option Group
bracket text has [] = None
bracket text has (c ∷ us) = Some (record { after = length us; body = body_of text us; has = has })

nth_drop : (gs : List Group) (k : ℕ) → nth (drop 1 gs) k ≡ nth gs (suc k)
unfolding nth
nth_drop [] k = refl
nth_drop (g ∷ gs) k = refl

-- how many brackets a token opens
opened : List ℕ → Token → ℕ
opened text t = cond (opens text t) 1 0

nth_by : (gs : List Group) (k : ℕ) (o : Bool) → nth (cond o (drop 1 gs) gs) k ≡ nth gs (k + cond o 1 0)
nth_by gs k true = let s : k + 1 ≡ suc k = omega arith in rw s (nth_drop gs k)
nth_by gs k false = let s : k + 0 ≡ k = omega arith in rw s refl

nth_opened : (text : List ℕ) (gs : List Group) (t : Token) (k : ℕ) → nth (without_opened text gs t) k ≡ nth gs (k + opened text t)
unfolding opened
nth_opened text gs t k = nth_by gs k (opens text t)

mark_bracket : (text : List ℕ) (has : Bool) (us : List Token) (gs : List Group) → nth gs 0 ≡ bracket text has us → nth (mark_first gs) 0 ≡ bracket text true us
unfolding nth bracket
mark_bracket text has [] [] h = refl
mark_bracket text has [] (g ∷ gs) h = absurd (cc)
mark_bracket text has (c ∷ us) [] h = absurd (cc)
mark_bracket text has (c ∷ us) (g ∷ gs) h =
    let e : g ≡ record { after = length us; body = body_of text us; has = has } = cc in
    rw e refl

nth_mark : (gs : List Group) (k : ℕ) → nth (mark_first gs) (suc k) ≡ nth gs (suc k)
unfolding nth
nth_mark [] k = refl
nth_mark (g ∷ gs) k = refl

-- the brackets of tokens are those that looking forward finds
abbrev Known : List ℕ → List Token → Type 0
Known text ts = (k : ℕ) → nth (groups_of text ts) k ≡ bracket text (has_parameter text k ts) (from_closer text k ts)

above_none : (k : ℕ) → (suc k == 0) ≡ false
above_none k = grind (arith, nat_tests)

and_false : (b : Bool) → (b && false) ≡ false
and_false true = refl
and_false false = refl

-- how deep the next token is in a bracket, after one that closes another
depth_closed : (text : List ℕ) (t : Token) (k : ℕ) → closes text t ≡ true → depth_after text (suc k) t ≡ k + opened text t
unfolding opened
depth_closed text t k c = let s : suc k - 1 ≡ k = omega arith in rw (c, s) refl

depth_kept : (text : List ℕ) (t : Token) (k : ℕ) → closes text t ≡ false → depth_after text k t ≡ k + opened text t
unfolding opened
depth_kept text t k c = rw c refl

-- what stands before tokens of which this is known
closing : (text : List ℕ) (t : Token) (ts : List Token) → closes text t ≡ true → Known text ts → Known text (t ∷ ts)
unfolding nth bracket
closing text t ts c h zero = rw c refl
closing text t ts c h (suc k) =
    let d = depth_closed text t k c in
    let n : nth (without_opened text (groups_of text ts) t) k ≡ bracket text (has_parameter text (depth_after text (suc k) t) ts) (from_closer text (depth_after text (suc k) t) ts) =
    rw d (nth_opened text (groups_of text ts) t k ∙ h (k + opened text t)) in
    rw (c, above_none k) (rw c at n)

-- the innermost of the brackets that are left
left : (text : List ℕ) (t : Token) (ts : List Token) (k : ℕ) → closes text t ≡ false → Known text ts →
    nth (without_opened text (groups_of text ts) t) k ≡ bracket text (has_parameter text (depth_after text k t) ts) (from_closer text (depth_after text k t) ts)
left text t ts k c h = let d = depth_kept text t k c in rw d (nth_opened text (groups_of text ts) t k ∙ h (k + opened text t))

marking :
    (text : List ℕ) (t : Token) (ts : List Token) → closes text t ≡ false → is_mark text (codes ",") t ≡ true → begins_parameter text ts ≡ true →
    Known text ts → Known text (t ∷ ts)
marking text t ts c m b h zero =
    let n = left text t ts 0 c h in
    let q = mark_bracket text (has_parameter text (depth_after text 0 t) ts) (from_closer text (depth_after text 0 t) ts) (without_opened text (groups_of text ts) t) n in
    rw (c, m, b) (rw c at q)
marking text t ts c m b h (suc k) =
    let n = left text t ts (suc k) c h in
    let q = nth_mark (without_opened text (groups_of text ts) t) k ∙ n in
    rw (c, m, b, above_none k) (rw c at q)

passing :
    (text : List ℕ) (t : Token) (ts : List Token) → closes text t ≡ false → (is_mark text (codes ",") t && begins_parameter text ts) ≡ false →
    Known text ts → Known text (t ∷ ts)
passing text t ts c m h zero = let n = left text t ts 0 c h in rw (c, m) (rw c at n)
passing text t ts c m h (suc k) = let n = left text t ts (suc k) c h in rw (c, m, above_none k) (rw c at n)

one_more :
    (text : List ℕ) (t : Token) (ts : List Token) (c m b : Bool) → closes text t ≡ c → is_mark text (codes ",") t ≡ m → begins_parameter text ts ≡ b →
    Known text ts → Known text (t ∷ ts)
one_more text t ts true m b ec em eb h = closing text t ts ec h
one_more text t ts false true true ec em eb h = marking text t ts ec em eb h
one_more text t ts false false b ec em eb h = passing text t ts ec (rw em refl) h
one_more text t ts false true false ec em eb h = passing text t ts ec (rw (em, eb) refl) h

brackets : (text : List ℕ) (ts : List Token) → Known text ts
unfolding nth bracket
brackets text [] k = refl
brackets text (t ∷ ts) k = one_more text t ts (closes text t) (is_mark text (codes ",") t) (begins_parameter text ts) refl refl refl (brackets text ts) k

first_nth : (gs : List Group) → first_group gs ≡ nth gs 0
unfolding nth
first_nth [] = refl
first_nth (g ∷ gs) = refl

first_bracket : (text : List ℕ) (ts : List Token) → first_group (groups_of text ts) ≡ bracket text (has_parameter text 0 ts) (from_closer text 0 ts)
first_bracket text ts = first_nth (groups_of text ts) ∙ brackets text ts 0

choose : (a b : Bool) (n m : ℕ) → cond a (length_to n (cond b (Some m) None)) 0 ≡ cond (a && b) (n - m) 0
choose true true n m = refl
choose true false n m = refl
choose false true n m = refl
choose false false n m = refl

neither : (a : Bool) (n : ℕ) → 0 ≡ cond (a && false) n 0
neither true n = refl
neither false n = refl

span_bracket :
    (text : List ℕ) (has : Bool) (f : List Token) (t : Token) (ts : List Token) → span_by text (bracket text has f) t ts ≡
    cond (is_mark text (codes "(") t && (begins_parameter text ts || has) && begins text (codes "{") (drop 1 f)) ((length ts + 1) - length (after_closer text (drop 1 (drop 1 f)))) 0
unfolding bracket
span_bracket text has [] t ts = neither (is_mark text (codes "(") t && (begins_parameter text ts || has)) _
span_bracket text has (c ∷ us) t ts = choose (is_mark text (codes "(") t && (begins_parameter text ts || has)) (begins text (codes "{") us) (length ts + 1) (length (after_closer text (drop 1 us)))

-- the span of a token is told by its bracket
pub span_found : (text : List ℕ) (t : Token) (ts : List Token) → span_by text (first_group (groups_of text ts)) t ts ≡ span text t ts
span_found text t ts = ap (λ g. span_by text g t ts) (first_bracket text ts) ∙ span_bracket text (has_parameter text 0 ts) (from_closer text 0 ts) t ts

after_bracket : (text : List ℕ) (has : Bool) (f : List Token) → after_of (bracket text has f) ≡ length (drop 1 f)
unfolding bracket
after_bracket text has [] = refl
after_bracket text has (c ∷ us) = refl

-- and so is the body that begins with it
pub body_found : (text : List ℕ) (t : Token) (ts : List Token) → body_before text (first_group (groups_of text ts)) t ≡ body_of text (t ∷ ts)
body_found text t ts =
    ap (λ n. cond (is_mark text (codes "{") t) (Some n) None) (ap after_of (first_bracket text ts) ∙ after_bracket text (has_parameter text 0 ts) (from_closer text 0 ts))
