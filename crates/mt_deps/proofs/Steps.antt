-- The steps of reading tokens one after another.
use Rattle.std.proofs.Common.{arith, ◌≡◌, ◌≤◌, length, Bool, cond, ℕ, List, [], ◌∷◌, map, true, false, Some, Ok, Err, Option, refl}
use Rattle.std.specs.Prelude.{filter, nat_lt}
use Rattle.mt_tokens.specs.Forms.{ends_names, is_declared}
use Rattle.mt_tokens.specs.Readings.{found_at, found_before, read_site}
use Rattle.mt_tokens.specs.Shields.{cover_after}
use Rattle.mt_tokens.specs.Sites.{Site, depth_after, sites, until}
use Rattle.mt_tokens.specs.Words.{is_seen, seen}
use Rattle.mt_tokens.specs.declared.dep.DepFault.{DepFault}
use Rattle.mt_tokens.specs.declared.forms.Cover.{Cover}
use Rattle.mt_tokens.specs.declared.forms.Found.{Found}
use Rattle.mt_tokens.specs.declared.token.Token.{Token}

abbrev pub site : Option Token → ℕ → Token → List Token → Site
site before depth here after = record { before = before; depth = depth; here = here; after = after }

-- the names that are declared by the tokens that are left
abbrev pub names_left : List ℕ → Option Token → ℕ → List Token → List Token
names_left text before depth rest = map (λ s. s.here) (filter (is_declared text) (until (ends_names text) (sites text before depth rest)))

pub names_end :
    (text : List ℕ) (before : Option Token) (depth : ℕ) (here : Token) (after rest : List Token) → rest ≡ here ∷ after →
    ends_names text (site before depth here after) ≡ true → names_left text before depth rest ≡ []
names_end text before depth here after rest r e = rw (r, e) refl

pub names_skip :
    (text : List ℕ) (before : Option Token) (depth : ℕ) (here : Token) (after rest : List Token) → rest ≡ here ∷ after →
    ends_names text (site before depth here after) ≡ false → is_declared text (site before depth here after) ≡ false →
    names_left text before depth rest ≡ names_left text (Some here) (depth_after text depth here) after
names_skip text before depth here after rest r e d = rw (r, e, d) refl

pub names_take :
    (text : List ℕ) (before : Option Token) (depth : ℕ) (here : Token) (after rest : List Token) → rest ≡ here ∷ after →
    ends_names text (site before depth here after) ≡ false → is_declared text (site before depth here after) ≡ true →
    names_left text before depth rest ≡ here ∷ names_left text (Some here) (depth_after text depth here) after
names_take text before depth here after rest r e d = rw (r, e, d) refl

-- what is found at a token, if something is, and at those after it
pub found_next :
    (text : List ℕ) (c : Cover) (before : Option Token) (depth : ℕ) (here : Token) (after rest : List Token) (one : Option Found) → rest ≡ here ∷ after →
    read_site text (nat_lt 0 c.count) (site before depth here after) ≡ Ok one →
    found_at text c before depth rest ≡ found_before (Ok one) (found_at text (cover_after text c here after) (Some here) (depth_after text depth here) after)
found_next text c before depth here after rest one r e = rw (r, e) refl

-- a fault is there
pub found_fault :
    (text : List ℕ) (c : Cover) (before : Option Token) (depth : ℕ) (here : Token) (after rest : List Token) (e : DepFault) → rest ≡ here ∷ after →
    read_site text (nat_lt 0 c.count) (site before depth here after) ≡ Err e → found_at text c before depth rest ≡ Err e
found_fault text c before depth here after rest e r h = rw (r, h) refl

few_by : (b : Bool) (t : Token) (us ts : List Token) → length us ≤ length ts → length (cond b (t ∷ us) us) ≤ length (t ∷ ts)
few_by true t us ts h = grind (arith, h)
few_by false t us ts h = grind (arith, h)

-- the tokens that are neither blanks nor comments are no more than all
pub seen_within : (ts : List Token) → length (seen ts) ≤ length ts
seen_within [] = omega arith
seen_within (t ∷ ts) = few_by (is_seen t.kind) t (seen ts) ts (seen_within ts)
