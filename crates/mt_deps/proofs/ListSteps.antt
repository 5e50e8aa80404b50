-- The steps of reading a list.
use Rattle.std.proofs.Common.{◌≡◌, ℕ, List, [], ◌∷◌, ◌++◌, true, false, Some, None, Option, refl, sym, append_assoc, append-nil, take_all, get_or, ◌<◌, ◌-◌, suc, zero, ◌+◌, ◌≤◌, length, take, drop, arith}
use Rattle.std.specs.Prelude.{option_map, option_and_then, codes}
use Rattle.std.proofs.lemmas.Grind.{common_steps}
use Rattle.mt_tokens.specs.declared.token.Token.{Token}
use Rattle.mt_tokens.specs.Words.{is_mark, is_seen, seen}
use Rattle.mt_tokens.specs.declared.forms.Item.{Item}
use Rattle.mt_tokens.specs.Forms.{Items, with_item, item, list}

-- items that were read before
abbrev pub lead : List Item → Items → Items
lead is l = record { items = is ++ l.items; close = l.close; rest = l.rest }

pub lead_none : (o : Option Items) → option_map (lead []) o ≡ o
lead_none None = refl
lead_none (Some l) = refl

joined : (o : Option Item) (is js : List Item) (more : Option Items) → option_map (λ i. is ++ i ∷ []) o ≡ Some js → option_map (lead is) (option_and_then (λ i. option_map (with_item i) more) o) ≡ option_map (lead js) more
joined None is js more h = absurd (cc)
joined (Some i) is js None h = refl
joined (Some i) is js (Some m) h =
    let e : is ++ i ∷ [] ≡ js = cc in
    rw (sym e, append_assoc is (i ∷ []) m.items) refl

-- a token of an item
pub step_more : (text : List ℕ) (begun : List Token) (t : Token) (ts : List Token) → is_mark text (codes "}") t ≡ false → is_mark text (codes ",") t ≡ false → list text begun (t ∷ ts) ≡ list text (begun ++ t ∷ []) ts
step_more text begun t ts b c = rw (b, c) refl

-- an item and its `,`
pub step_comma :
    (text : List ℕ) (begun : List Token) (t : Token) (ts : List Token) (is js : List Item) → is_mark text (codes "}") t ≡ false → is_mark text (codes ",") t ≡ true →
    option_map (λ i. is ++ i ∷ []) (item text begun) ≡ Some js → option_map (lead is) (list text begun (t ∷ ts)) ≡ option_map (lead js) (list text [] ts)
step_comma text begun t ts is js b c h = rw (b, c) (joined (item text begun) is js (list text [] ts) h)

pub step_no_item :
    (text : List ℕ) (begun : List Token) (t : Token) (ts : List Token) (is : List Item) → is_mark text (codes "}") t ≡ false → is_mark text (codes ",") t ≡ true →
    item text begun ≡ None → option_map (lead is) (list text begun (t ∷ ts)) ≡ None
step_no_item text begun t ts is b c h = rw (b, c, h) refl

-- the `}` after a `,` or the `{`
pub close_empty :
    (text : List ℕ) (t : Token) (ts : List Token) (is : List Item) → is_mark text (codes "}") t ≡ true → option_map (lead is) (list text [] (t ∷ ts)) ≡ Some (record { items = is; close = t; rest = ts })
close_empty text t ts is b = rw (b, append-nil is) refl

-- the `}` after an item
last_joined : (o : Option Item) (t : Token) (ts : List Token) (is js : List Item) → option_map (λ i. is ++ i ∷ []) o ≡ Some js → option_map (lead is) (option_map (λ is. record { items = is; close = t; rest = ts }) (option_map (λ i. i ∷ []) o)) ≡ Some (record { items = js; close = t; rest = ts })
last_joined None t ts is js h = absurd (cc)
last_joined (Some i) t ts is js h = let e : is ++ i ∷ [] ≡ js = cc in rw e refl

pub close_item :
    (text : List ℕ) (begun : List Token) (t : Token) (ts : List Token) (is js : List Item) → is_mark text (codes "}") t ≡ true → (begun ≡ [] → ⊥) →
    option_map (λ i. is ++ i ∷ []) (item text begun) ≡ Some js → option_map (lead is) (list text begun (t ∷ ts)) ≡ Some (record { items = js; close = t; rest = ts })
close_item text [] t ts is js b n h = absurd (n refl)
close_item text (p ∷ ps) t ts is js b n h = rw b (last_joined (item text (p ∷ ps)) t ts is js h)

pub close_no_item :
    (text : List ℕ) (begun : List Token) (t : Token) (ts : List Token) (is : List Item) → is_mark text (codes "}") t ≡ true → (begun ≡ [] → ⊥) →
    item text begun ≡ None → option_map (lead is) (list text begun (t ∷ ts)) ≡ None
close_no_item text [] t ts is b n h = absurd (n refl)
close_no_item text (p ∷ ps) t ts is b n h = rw (b, h) refl

-- an item has one token or three
pub item_other : (text : List ℕ) (k : ℕ) (ts : List Token) → k ≤ length ts → (k ≡ 1 → ⊥) → (k ≡ 3 → ⊥) → item text (take k ts) ≡ None
item_other text zero ts h a b = refl
item_other text (suc zero) ts h a b = absurd (a refl)
item_other text (suc (suc zero)) [] h a b = absurd (omega arith)
item_other text (suc (suc zero)) (n ∷ []) h a b = absurd (omega arith)
item_other text (suc (suc zero)) (n ∷ m ∷ ts) h a b = refl
item_other text (suc (suc (suc zero))) ts h a b = absurd (b refl)
item_other text (suc (suc (suc (suc k)))) [] h a b = absurd (omega arith)
item_other text (suc (suc (suc (suc k)))) (n ∷ []) h a b = absurd (omega arith)
item_other text (suc (suc (suc (suc k)))) (n ∷ m ∷ []) h a b = absurd (omega arith)
item_other text (suc (suc (suc (suc k)))) (n ∷ m ∷ o ∷ []) h a b = absurd (omega arith)
item_other text (suc (suc (suc (suc k)))) (n ∷ m ∷ o ∷ t ∷ ts) h a b = refl

-- one token more
pub begun_step : (xs : List Token) (k : ℕ) (t : Token) (ts : List Token) → drop k xs ≡ t ∷ ts → (take (k + 1) xs ≡ take k xs ++ t ∷ []) × (drop (k + 1) xs ≡ ts)
begun_step [] zero t ts h = absurd (cc)
begun_step [] (suc k) t ts h = absurd (cc)
begun_step (x ∷ xs) zero t ts h = let e : x ≡ t = cc in let f : xs ≡ ts = cc in (rw e refl, f)
begun_step (x ∷ xs) (suc k) t ts h =
    let s : suc k + 1 ≡ suc (k + 1) = omega arith in
    let p = begun_step xs k t ts h in
    (rw (s, p.0) refl, rw s p.1)

pub begun_within : (xs : List Token) (k : ℕ) (t : Token) (ts : List Token) → drop k xs ≡ t ∷ ts → k + 1 ≤ length xs
begun_within [] zero t ts h = absurd (cc)
begun_within [] (suc k) t ts h = absurd (cc)
begun_within (x ∷ xs) zero t ts h = grind arith
begun_within (x ∷ xs) (suc k) t ts h = grind (arith, begun_within xs k t ts h)

drop_at : (xs : List Token) (k n : ℕ) (d : Token) → k < length xs → n ≡ k + 1 → drop k xs ≡ get_or xs k d ∷ drop n xs
drop_at [] k n d h e = absurd (omega arith)
drop_at (x ∷ xs) zero n d h e = rw e refl
drop_at (x ∷ xs) (suc k) n d h e =
    let s : n ≡ suc (k + 1) = omega (arith, e) in
    let l : k < length xs = grind arith in
    rw s (drop_at xs k (k + 1) d l refl)

-- the token before the last so many
pub back_step :
    (xs : List Token) (n : ℕ) (d : Token) → 0 < n → n ≤ length xs →
    (drop (n - 1) xs ≡ get_or xs (n - 1) d ∷ drop n xs) × (take (length xs - (n - 1 + 1)) (drop (n - 1 + 1) xs) ≡ drop n xs)
back_step xs n d p l =
    let e : n - 1 + 1 ≡ n = omega arith in
    let i : n - 1 < length xs = omega arith in
    let s : length (drop n xs) ≤ length xs - n = grind (arith, common_steps) in
    (drop_at xs (n - 1) n d i (sym e), rw e (take_all (length xs - n) (drop n xs) s))

-- where it is neither a blank nor a comment, it is before those of them that are neither
pub back_seen :
    (xs : List Token) (n : ℕ) (d : Token) → 0 < n → n ≤ length xs → is_seen (get_or xs (n - 1) d).kind ≡ true → seen (drop (n - 1) xs) ≡ get_or xs (n - 1) d ∷ seen (drop n xs)
back_seen xs n d p l s = let b = back_step xs n d p l in rw (b.0, s) refl
