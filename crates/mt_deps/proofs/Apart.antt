-- The ranges that are replaced ascend, and none overlaps the next: no import, export or call that names a module stands inside another one.
use Rattle.std.proofs.Common.{arith, ◌≡◌, ◌≤◌, ℕ, Bool, true, false, ◌&&◌, cond, List, [], ◌∷◌, ◌++◌, append_assoc, Option, Some, None, Result, Ok, Err, refl, sym, ap, ◌∙◌, subst, codes}
use Rattle.std.specs.Prelude.{nat_lt, not, option_map, option_and_then, is_some}
use Rattle.std.specs.Option.{option_map_or}
use Rattle.std.specs.List.{filter_map}
use Rattle.std.specs.Str.{bytes_eq}
use Rattle.std.proofs.lemmas.Slice.Eq.{bytes_eq-Decides}
use Rattle.mt_tokens.specs.Cut.{IfThere}
use Rattle.mt_tokens.specs.Deps.{Dependency, Deps, dependencies, deps_of, edit_of, form_end, gathered, gathered_or}
use Rattle.mt_chars.specs.Escapes.{cooked}
use Rattle.mt_tokens.specs.Forms.{Items, all_as, bound, bound_import, declared_names, default_import, export_all, export_form, export_list, from_named, given_name, import_form, item, last_item, list, named_by, statement_end, with_item}
use Rattle.mt_tokens.specs.Readings.{argument, call_close, call_or, dynamic_call, form_or, found_at, found_before, found_in, read_export, read_import, read_require, read_site}
use Rattle.mt_tokens.specs.Shields.{cover_after, no_cover}
use Rattle.mt_tokens.specs.Sites.{Site, begins, begins_word, depth_after, is_plain_at}
use Rattle.mt_tokens.specs.Tokens.{Covers}
use Rattle.mt_tokens.specs.Words.{bytes_of, is_ident, is_mark, is_plain_after, is_punct_kind, is_seen, is_str, is_word, seen}
use Rattle.mt_tokens.specs.declared.dep.DepFault.{DepFault}
use Rattle.mt_tokens.specs.declared.dep.DepFault.TheVariants.{ExportForm, ImportForm}
use Rattle.mt_tokens.specs.declared.forms.Bound.TheVariants.{Nothing}
use Rattle.mt_tokens.specs.declared.forms.Cover.{Cover}
use Rattle.mt_tokens.specs.declared.forms.Form.{Form}
use Rattle.mt_tokens.specs.declared.forms.Form.TheVariants.{ExportDeclared, Import}
use Rattle.mt_tokens.specs.declared.forms.Found.{Found}
use Rattle.mt_tokens.specs.declared.forms.Found.TheVariants.{Dynamic, ImportCall, Require, Statement}
use Rattle.mt_tokens.specs.declared.forms.Named.{Named}
use Rattle.mt_tokens.specs.declared.token.Token.{Token}
use Rattle.mt_tokens.specs.declared.token.TokenKind.{TokenKind}
use Rattle.mt_tokens.specs.declared.token.TokenKind.TheVariants as kind
use Rattle.mt_deps.specs.Uses.{AreApart}
use Rattle.mt_tokens.proofs.Replaced.{either}
use Rattle.mt_deps.proofs.Steps.{site}

-- ---- tokens one after another from a place on

abbrev InOrder : ℕ → List Token → Type 0
InOrder at [] = Unit {0}
InOrder at (t ∷ ts) = (at ≤ t.start) × (t.start ≤ t.end) × InOrder t.end ts

later : (at from : ℕ) (ts : List Token) → at ≤ from → InOrder from ts → InOrder at ts
later at from [] l h = tt
later at from (t ∷ ts) l h = let s = h.0 in (omega (arith, s, l), h.1, h.2)

covers_in_order : (from to : ℕ) (ts : List Token) → Covers from to ts → InOrder from ts
covers_in_order from to [] c = tt
covers_in_order from to (t ∷ ts) c = let s : t.start ≡ from = c.0 in let l = c.1 in (omega (arith, s), omega (arith, l), covers_in_order t.end to ts c.2)

seen_by : (at : ℕ) (t : Token) (ts : List Token) (test : Bool) → InOrder at (t ∷ ts) → InOrder t.end (seen ts) → InOrder at (cond test (t ∷ seen ts) (seen ts))
seen_by at t ts true h i = (h.0, h.1, i)
seen_by at t ts false h i = let a = h.0 in let b = h.1 in later at t.end (seen ts) (omega (arith, a, b)) i

seen_in_order : (at : ℕ) (ts : List Token) → InOrder at ts → InOrder at (seen ts)
seen_in_order at [] h = tt
seen_in_order at (t ∷ ts) h = seen_by at t ts (is_seen t.kind) h (seen_in_order t.end ts h.2)

-- ---- of tests and of what may be there

both_true : (a b : Bool) → (a && b) ≡ true → (a ≡ true) × (b ≡ true)
both_true true b h = (refl, h)
both_true false b h = absurd (cc)

first_false : (a b : Bool) → a ≡ false → (a && b) ≡ false
first_false true b h = absurd (cc)
first_false false b h = refl

second_false : (a b : Bool) → b ≡ false → (a && b) ≡ false
second_false true b h = h
second_false false b h = refl

second_of : {X : Type 0} (b : Bool) (x y z : X) → b ≡ false → y ≡ z → cond b x y ≡ z
second_of true x y z e h = absurd (cc)
second_of false x y z e h = h

first_of : {X : Type 0} (b : Bool) (x y z : X) → b ≡ true → x ≡ z → cond b x y ≡ z
first_of true x y z e h = h
first_of false x y z e h = absurd (cc)

same_of : {X : Type 0} (b : Bool) (x z : X) → x ≡ z → cond b x z ≡ z
same_of true x z e = e
same_of false x z e = refl

tested : {X : Type 0} (P : X → Type 0) (b : Bool) (x y : X) → (b ≡ true → P x) → P y → P (cond b x y)
tested P true x y h k = h refl
tested P false x y h k = k

given : {X : Type 0} (P : X → Type 0) (b : Bool) (o : Option X) → (b ≡ true → IfThere P o) → IfThere P (cond b o None)
given P b o h = tested (IfThere P) b o None h tt

there : {X Y : Type 0} (Q : Y → Type 0) (f : X → Y) (o : Option X) → ((x : X) → Q (f x)) → IfThere Q (option_map f o)
there Q f None g = tt
there Q f (Some x) g = g x

mapped : {X Y : Type 0} (P : X → Type 0) (Q : Y → Type 0) (f : X → Y) (o : Option X) → ((x : X) → P x → Q (f x)) → IfThere P o → IfThere Q (option_map f o)
mapped P Q f None g h = tt
mapped P Q f (Some x) g h = g x h

chained : {X Y : Type 0} (P : X → Type 0) (Q : Y → Type 0) (f : X → Option Y) (o : Option X) → ((x : X) → P x → IfThere Q (f x)) → IfThere P o → IfThere Q (option_and_then f o)
chained P Q f None g h = tt
chained P Q f (Some x) g h = g x h

anything : {X : Type 0} (o : Option X) → IfThere (λ x. Unit {0}) o
anything None = tt
anything (Some x) = tt

weaker : {X : Type 0} (P Q : X → Type 0) (o : Option X) → ((x : X) → P x → Q x) → IfThere P o → IfThere Q o
weaker P Q None g h = tt
weaker P Q (Some x) g h = g x h

paired : {X : Type 0} (P Q : X → Type 0) (o : Option X) → IfThere P o → IfThere Q o → IfThere (λ x. P x × Q x) o
paired P Q None h k = tt
paired P Q (Some x) h k = (h, k)

named_all : (Q : Named → Type 0) (text : List ℕ) (s : Token) (end : ℕ) → ((name : List ℕ) → is_str s.kind ≡ true → Q (record { name = name; string = s; end = end })) → IfThere Q (named_by text s end)
unfolding named_by
named_all Q text s end h = given Q (is_str s.kind) _ (λ e. there Q _ (cooked (bytes_of text s)) (λ name. h name e))

named_none : (text : List ℕ) (s : Token) (end : ℕ) → is_str s.kind ≡ false → named_by text s end ≡ None
unfolding named_by
named_none text s end e = second_of (is_str s.kind) _ None None e refl

-- ---- of kinds and words

ident_kind : (k : TokenKind) → is_ident k ≡ true → k ≡ kind.Ident
ident_kind kind.Space h = absurd (cc)
ident_kind kind.Comment h = absurd (cc)
ident_kind kind.Ident h = refl
ident_kind kind.Private h = absurd (cc)
ident_kind kind.Number h = absurd (cc)
ident_kind kind.Str h = absurd (cc)
ident_kind kind.Whole h = absurd (cc)
ident_kind kind.Head h = absurd (cc)
ident_kind kind.Middle h = absurd (cc)
ident_kind kind.Tail h = absurd (cc)
ident_kind kind.Regex h = absurd (cc)
ident_kind kind.Punct h = absurd (cc)

punct_kind : (k : TokenKind) → is_punct_kind k ≡ true → k ≡ kind.Punct
punct_kind kind.Space h = absurd (cc)
punct_kind kind.Comment h = absurd (cc)
punct_kind kind.Ident h = absurd (cc)
punct_kind kind.Private h = absurd (cc)
punct_kind kind.Number h = absurd (cc)
punct_kind kind.Str h = absurd (cc)
punct_kind kind.Whole h = absurd (cc)
punct_kind kind.Head h = absurd (cc)
punct_kind kind.Middle h = absurd (cc)
punct_kind kind.Tail h = absurd (cc)
punct_kind kind.Regex h = absurd (cc)
punct_kind kind.Punct h = refl

str_kind : (k : TokenKind) → is_str k ≡ true → k ≡ kind.Str
str_kind kind.Space h = absurd (cc)
str_kind kind.Comment h = absurd (cc)
str_kind kind.Ident h = absurd (cc)
str_kind kind.Private h = absurd (cc)
str_kind kind.Number h = absurd (cc)
str_kind kind.Str h = refl
str_kind kind.Whole h = absurd (cc)
str_kind kind.Head h = absurd (cc)
str_kind kind.Middle h = absurd (cc)
str_kind kind.Tail h = absurd (cc)
str_kind kind.Regex h = absurd (cc)
str_kind kind.Punct h = absurd (cc)

word_is : (text word : List ℕ) (t : Token) → is_word text word t ≡ true → (t.kind ≡ kind.Ident) × (bytes_of text t ≡ word)
word_is text word t h =
    let b = both_true (is_ident t.kind) (bytes_eq (bytes_of text t) word) h in
    (ident_kind t.kind b.0, (bytes_eq-Decides (bytes_of text t) word).0 b.1)

mark_is : (text mark : List ℕ) (t : Token) → is_mark text mark t ≡ true → (t.kind ≡ kind.Punct) × (bytes_of text t ≡ mark)
mark_is text mark t h =
    let b = both_true (is_punct_kind t.kind) (bytes_eq (bytes_of text t) mark) h in
    (punct_kind t.kind b.0, (bytes_eq-Decides (bytes_of text t) mark).0 b.1)

mark_no_name : (text mark : List ℕ) (t : Token) → is_mark text mark t ≡ true → is_ident t.kind ≡ false
mark_no_name text mark t h = ap is_ident (mark_is text mark t h).0

other_word : (text word other : List ℕ) (t : Token) → is_word text word t ≡ true → bytes_eq word other ≡ false → is_word text other t ≡ false
other_word text word other t h n = second_false (is_ident t.kind) (bytes_eq (bytes_of text t) other) (ap (λ b. bytes_eq b other) (word_is text word t h).1 ∙ n)

-- ---- what is found from a place on, one after another

abbrev AreClear : ℕ → List Found → Type 0
AreClear at [] = Unit {0}
AreClear at (Require m ∷ fs) = (at ≤ m.string.start) × (m.string.start ≤ m.string.end) × AreClear m.string.end fs
AreClear at (ImportCall w m ∷ fs) = (at ≤ w.start) × (w.start ≤ m.end) × AreClear m.end fs
AreClear at (Dynamic ∷ fs) = AreClear at fs
AreClear at (Statement w form ∷ fs) = (at ≤ w.start) × (w.start ≤ form_end w form) × AreClear (form_end w form) fs

abbrev IsClear : ℕ → Result (List Found) DepFault → Type 0
IsClear at (Ok fs) = AreClear at fs
IsClear at (Err e) = Unit {0}

sooner : (at from : ℕ) (fs : List Found) → at ≤ from → AreClear from fs → AreClear at fs
sooner at from [] l h = tt
sooner at from (Require m ∷ fs) l h = let a = h.0 in (omega (arith, l, a), h.1, h.2)
sooner at from (ImportCall w m ∷ fs) l h = let a = h.0 in (omega (arith, l, a), h.1, h.2)
sooner at from (Dynamic ∷ fs) l h = sooner at from fs l h
sooner at from (Statement w form ∷ fs) l h = let a = h.0 in (omega (arith, l, a), h.1, h.2)

sooner_or : (at from : ℕ) (r : Result (List Found) DepFault) → at ≤ from → IsClear from r → IsClear at r
sooner_or at from (Ok fs) l h = sooner at from fs l h
sooner_or at from (Err e) l h = tt

-- what is found at these tokens is from a place on, whatever is before them
abbrev Later : List ℕ → ℕ → List Token → Type 0
Later text at ts = (c : Cover) (before : Option Token) (depth : ℕ) → IsClear at (found_at text c before depth ts)

-- tokens in order, and what is found after each is after its end
abbrev Ordered : List ℕ → ℕ → List Token → Type 0
Ordered text at [] = Unit {0}
Ordered text at (t ∷ ts) = (at ≤ t.start) × (t.start ≤ t.end) × Later text t.end ts × Ordered text t.end ts

-- what is found at these tokens is after an end, which is at this place or after it
abbrev Reaches : List ℕ → ℕ → ℕ → List Token → Type 0
Reaches text from end ts = (from ≤ end) × Later text end ts

-- nothing is found, or a fault
abbrev IsQuiet : Result (Option Found) DepFault → Type 0
IsQuiet (Err e) = Unit {0}
IsQuiet (Ok None) = Unit {0}
IsQuiet (Ok (Some f)) = ⊥

quiet_before : (end : ℕ) (one : Result (Option Found) DepFault) (more : Result (List Found) DepFault) → IsQuiet one → IsClear end more → IsClear end (found_before one more)
quiet_before end (Err e) more q h = tt
quiet_before end (Ok None) more q h = h
quiet_before end (Ok (Some f)) more q h = absurd q

passes : (text : List ℕ) (t : Token) (ts : List Token) (end : ℕ) → ((shielded : Bool) (before : Option Token) (depth : ℕ) → IsQuiet (read_site text shielded (site before depth t ts))) → Later text end ts → Later text end (t ∷ ts)
passes text t ts end q h =
    λ c before depth. quiet_before end (read_site text (nat_lt 0 c.count) (site before depth t ts)) (found_at text (cover_after text c t ts) (Some t) (depth_after text depth t) ts) (q (nat_lt 0 c.count) before depth) (h (cover_after text c t ts) (Some t) (depth_after text depth t))

-- a token that is none of the three words
other_quiet : (text : List ℕ) (shielded : Bool) (s : Site) → is_word text (codes "import") s.here ≡ false → is_word text (codes "export") s.here ≡ false → is_word text (codes "require") s.here ≡ false → IsQuiet (read_site text shielded s)
other_quiet text shielded s i e r =
    let plain = is_plain_after text s.before in
    let none : read_site text shielded s ≡ Ok None =
    second_of (is_plain_at text (codes "import") s) (read_import text s) _ (Ok None) (first_false (is_word text (codes "import") s.here) plain i)
    (second_of (is_plain_at text (codes "export") s) (read_export text s) _ (Ok None) (first_false (is_word text (codes "export") s.here) plain e)
    (second_of (is_plain_at text (codes "require") s) (Ok (read_require text shielded s)) (Ok None) (Ok None) (first_false (is_word text (codes "require") s.here) plain r) refl)) in
    subst IsQuiet (sym none) tt

skip : (text : List ℕ) (t : Token) (ts : List Token) (end : ℕ) → is_ident t.kind ≡ false → Later text end ts → Later text end (t ∷ ts)
skip text t ts end e h =
    passes text t ts end (λ shielded before depth. other_quiet text shielded (site before depth t ts) (first_false (is_ident t.kind) _ e) (first_false (is_ident t.kind) _ e) (first_false (is_ident t.kind) _ e)) h

skip_word :
    (text word : List ℕ) (t : Token) (ts : List Token) (end : ℕ) → is_word text word t ≡ true → bytes_eq word (codes "import") ≡ false → bytes_eq word (codes "export") ≡ false →
    bytes_eq word (codes "require") ≡ false → Later text end ts → Later text end (t ∷ ts)
skip_word text word t ts end w i e r h =
    passes text t ts end (λ shielded before depth. other_quiet text shielded (site before depth t ts) (other_word text word (codes "import") t w i) (other_word text word (codes "export") t w e) (other_word text word (codes "require") t w r)) h

-- before these tokens no word is an import, an export or a call
abbrev IsHarmless : List ℕ → List Token → Type 0
IsHarmless text us = (begins text (codes "(") us ≡ false) × (import_form text us ≡ None) × (export_form text us ≡ None)

no_argument : (text : List ℕ) (ts : List Token) → begins text (codes "(") ts ≡ false → argument text ts ≡ None
no_argument text [] e = refl
no_argument text (o ∷ []) e = refl
no_argument text (o ∷ s ∷ ts) e = second_of (is_mark text (codes "(") o) _ None None e refl

no_call : (text : List ℕ) (s : Site) → begins text (codes "(") s.after ≡ false → dynamic_call text s ≡ None
no_call text s e =
    second_of (begins text (codes "(") s.after && not (option_map_or (is_word text (codes "function")) s.before false)) (Some Dynamic) None None (first_false (begins text (codes "(") s.after) _ e) refl

import_quiet : (text : List ℕ) (s : Site) → IsHarmless text s.after → IsQuiet (read_import text s)
import_quiet text s h =
    subst IsQuiet (sym (second_of (begins text (codes "(") s.after) _ _ _ h.0 refl))
    (either IsQuiet _ (Ok None) (form_or (ImportForm s.here.start) s.here (import_form text s.after)) tt (subst (λ o. IsQuiet (form_or (ImportForm s.here.start) s.here o)) (sym h.1) tt))

export_quiet : (text : List ℕ) (s : Site) → IsHarmless text s.after → IsQuiet (read_export text s)
export_quiet text s h = either IsQuiet _ (form_or (ExportForm s.here.start) s.here (export_form text s.after)) (Ok None) (subst (λ o. IsQuiet (form_or (ExportForm s.here.start) s.here o)) (sym h.2) tt) tt

require_none : (text : List ℕ) (shielded : Bool) (s : Site) → IsHarmless text s.after → read_require text shielded s ≡ None
require_none text true s h = refl
require_none text false s h = ap (λ a. call_or (λ m. Require m) a (dynamic_call text s)) (no_argument text s.after h.0) ∙ no_call text s h.0

harmless_quiet : (text : List ℕ) (shielded : Bool) (s : Site) → IsHarmless text s.after → IsQuiet (read_site text shielded s)
harmless_quiet text shielded s h =
    either IsQuiet (is_plain_at text (codes "import") s) (read_import text s) _ (import_quiet text s h)
    (either IsQuiet (is_plain_at text (codes "export") s) (read_export text s) _ (export_quiet text s h)
    (either IsQuiet (is_plain_at text (codes "require") s) (Ok (read_require text shielded s)) (Ok None) (subst (λ o. IsQuiet (Ok o)) (sym (require_none text shielded s h)) tt) tt))

skip_name : (text : List ℕ) (n : Token) (us : List Token) (end : ℕ) → IsHarmless text us → Later text end us → Later text end (n ∷ us)
skip_name text n us end h l = passes text n us end (λ shielded before depth. harmless_quiet text shielded (site before depth n us) h) l

comma_harmless : (text : List ℕ) (u : Token) (us : List Token) → is_mark text (codes ",") u ≡ true → IsHarmless text (u ∷ us)
comma_harmless text u us h = let m = mark_is text (codes ",") u h in (rw (m.0, m.1) refl, rw (m.0, m.1) refl, rw (m.0, m.1) refl)

close_harmless : (text : List ℕ) (u : Token) (us : List Token) → is_mark text (codes "}") u ≡ true → IsHarmless text (u ∷ us)
close_harmless text u us h = let m = mark_is text (codes "}") u h in (rw (m.0, m.1) refl, rw (m.0, m.1) refl, rw (m.0, m.1) refl)

-- a name that no `,` and no `from` with a string follows is no default
import_none : (text : List ℕ) (d : Token) (ts : List Token) → d.kind ≡ kind.Ident → begins text (codes ",") ts ≡ false → from_named text ts ≡ None → import_form text (d ∷ ts) ≡ None
import_none text d ts k b f =
    let default : default_import text d ts ≡ None = second_of (begins text (codes ",") ts) _ _ None b (ap (option_map (λ m. Import (Some d) Nothing m)) f) in
    second_of (is_str d.kind) _ _ None (ap is_str k) (first_of (is_ident d.kind) _ _ None (ap is_ident k) default)

as_harmless : (text : List ℕ) (a m v : Token) (vs : List Token) → is_word text (codes "as") a ≡ true → is_ident m.kind ≡ true → is_str v.kind ≡ false → IsHarmless text (a ∷ m ∷ v ∷ vs)
as_harmless text a m v vs w i k =
    let e = word_is text (codes "as") a w in
    let from : from_named text (m ∷ v ∷ vs) ≡ None = same_of (is_word text (codes "from") m) _ None (named_none text v (statement_end text v vs) k) in
    let comma : begins text (codes ",") (m ∷ v ∷ vs) ≡ false = first_false (is_punct_kind m.kind) _ (ap is_punct_kind (ident_kind m.kind i)) in
    (rw e.0 refl, import_none text a (m ∷ v ∷ vs) e.0 comma from, rw (e.0, e.1) refl)

string_no_from : (text : List ℕ) (s : Token) (rest : List Token) → s.kind ≡ kind.Str → from_named text (s ∷ rest) ≡ None
string_no_from text s [] k = refl
string_no_from text s (v ∷ vs) k = second_of (is_word text (codes "from") s) _ None None (first_false (is_ident s.kind) _ (ap is_ident k)) refl

from_harmless : (text : List ℕ) (f s : Token) (rest : List Token) → is_word text (codes "from") f ≡ true → is_str s.kind ≡ true → IsHarmless text (f ∷ s ∷ rest)
from_harmless text f s rest w i =
    let e = word_is text (codes "from") f w in
    let k = str_kind s.kind i in
    let comma : begins text (codes ",") (s ∷ rest) ≡ false = first_false (is_punct_kind s.kind) _ (ap is_punct_kind k) in
    (rw e.0 refl, import_none text f (s ∷ rest) e.0 comma (string_no_from text s rest k), rw (e.0, e.1) refl)

-- ---- no form has another one in it

end_reaches : (text : List ℕ) (last : Token) (ts : List Token) → Later text last.end ts → Ordered text last.end ts → Reaches text last.end (statement_end text last ts) ts
end_reaches text last [] l o = (omega arith, l)
end_reaches text last (t ∷ ts) l o =
    let a = o.0 in
    let b = o.1 in
    tested (λ end. Reaches text last.end end (t ∷ ts)) (is_mark text (codes ";") t) t.end last.end (λ e. (omega (arith, a, b), skip text t ts t.end (mark_no_name text (codes ";") t e) o.2)) (omega arith, l)

-- a string and the `;` after it
string_reaches : (text : List ℕ) (at : ℕ) (s : Token) (rest : List Token) → is_str s.kind ≡ true → Ordered text at (s ∷ rest) → Reaches text at (statement_end text s rest) (s ∷ rest)
string_reaches text at s rest k o =
    let r = end_reaches text s rest o.2 o.3 in
    let a = o.0 in
    let b = o.1 in
    let c = r.0 in
    (omega (arith, a, b, c), skip text s rest (statement_end text s rest) (ap is_ident (str_kind s.kind k)) r.1)

abbrev FromReaches : List ℕ → ℕ → List Token → Named → Type 0
FromReaches text at ts m = Reaches text at m.end ts × IsHarmless text ts

from_reaches : (text : List ℕ) (at : ℕ) (ts : List Token) → Ordered text at ts → IfThere (FromReaches text at ts) (from_named text ts)
from_reaches text at [] o = tt
from_reaches text at (f ∷ []) o = tt
from_reaches text at (f ∷ s ∷ rest) o =
    given (FromReaches text at (f ∷ s ∷ rest)) (is_word text (codes "from") f) _ (λ w. named_all (FromReaches text at (f ∷ s ∷ rest)) text s (statement_end text s rest) (λ name k.
    let r = string_reaches text f.end s rest k o.3 in
    let a = o.0 in
    let b = o.1 in
    let c = r.0 in
    ((omega (arith, a, b, c), skip_word text (codes "from") f (s ∷ rest) (statement_end text s rest) w refl refl refl r.1), from_harmless text f s rest w k)))

-- what is read from tokens on leaves a rest, in order from a place on
abbrev Through : List ℕ → ℕ → List Token → List Token → Type 0
Through text at ts rest = (mid : ℕ) × (at ≤ mid) × Ordered text mid rest × ((end : ℕ) → IsHarmless text rest → Later text end rest → Later text end ts)

all_through : (text : List ℕ) (at : ℕ) (ts : List Token) → Ordered text at ts → IfThere (λ b. Through text at ts b.rest) (all_as text ts)
all_through text at [] o = tt
all_through text at (a ∷ []) o = tt
all_through text at (a ∷ n ∷ rest) o =
    given (λ b. Through text at (a ∷ n ∷ rest) b.rest) (is_word text (codes "as") a && is_ident n.kind) _ (λ e.
    let w = (both_true (is_word text (codes "as") a) (is_ident n.kind) e).0 in
    let p = o.0 in
    let q = o.1 in
    let i = o.3 in
    let r = i.0 in
    let s = i.1 in
    (n.end, omega (arith, p, q, r, s), i.3, λ end h l. skip_word text (codes "as") a (n ∷ rest) end w refl refl refl (skip_name text n rest end h l)))

-- an item before a `,` or a `}`
abbrev ItemThrough : List ℕ → List Token → List Token → Type 0
ItemThrough text begun ts = (end : ℕ) → Later text end ts → Later text end (begun ++ ts)

item_through : (text : List ℕ) (begun : List Token) (v : Token) (vs : List Token) → is_str v.kind ≡ false → IsHarmless text (v ∷ vs) → IfThere (λ i. ItemThrough text begun (v ∷ vs)) (item text begun)
item_through text [] v vs k h = tt
item_through text (n ∷ []) v vs k h = given (λ i. ItemThrough text (n ∷ []) (v ∷ vs)) (is_ident n.kind) _ (λ e. λ end l. skip_name text n (v ∷ vs) end h l)
item_through text (n ∷ a ∷ []) v vs k h = tt
item_through text (n ∷ a ∷ m ∷ []) v vs k h =
    given (λ i. ItemThrough text (n ∷ a ∷ m ∷ []) (v ∷ vs)) (is_ident n.kind && is_word text (codes "as") a && is_ident m.kind) _ (λ e.
    let b = both_true (is_ident n.kind && is_word text (codes "as") a) (is_ident m.kind) e in
    let w = (both_true (is_ident n.kind) (is_word text (codes "as") a) b.0).1 in
    λ end l. skip_name text n (a ∷ m ∷ v ∷ vs) end (as_harmless text a m v vs w b.1 k) (skip_word text (codes "as") a (m ∷ v ∷ vs) end w refl refl refl (skip_name text m (v ∷ vs) end h l)))
item_through text (n ∷ a ∷ m ∷ t ∷ ts) v vs k h = tt

last_through : (text : List ℕ) (begun : List Token) (v : Token) (vs : List Token) → is_str v.kind ≡ false → IsHarmless text (v ∷ vs) → IfThere (λ is. ItemThrough text begun (v ∷ vs)) (last_item text begun)
last_through text [] v vs k h = λ end l. l
last_through text (b ∷ bs) v vs k h = mapped (λ i. ItemThrough text (b ∷ bs) (v ∷ vs)) (λ is. ItemThrough text (b ∷ bs) (v ∷ vs)) _ (item text (b ∷ bs)) (λ i q. q) (item_through text (b ∷ bs) v vs k h)

abbrev ListThrough : List ℕ → List Token → Items → Type 0
ListThrough text ts l = (end : ℕ) → Later text end l.rest → Later text end ts

list_through : (text : List ℕ) (begun ts : List Token) → IfThere (ListThrough text (begun ++ ts)) (list text begun ts)
list_through text begun [] = tt
list_through text begun (t ∷ ts) =
    tested (IfThere (ListThrough text (begun ++ t ∷ ts))) (is_mark text (codes "}") t) _ _ (λ e.
    mapped (λ is. ItemThrough text begun (t ∷ ts)) (ListThrough text (begun ++ t ∷ ts)) _ (last_item text begun) (λ is q. λ end l. q end (skip text t ts end (mark_no_name text (codes "}") t e) l))
    (last_through text begun t ts (ap is_str (mark_is text (codes "}") t e).0) (close_harmless text t ts e)))
    (tested (IfThere (ListThrough text (begun ++ t ∷ ts))) (is_mark text (codes ",") t) _ _ (λ e.
    chained (λ i. ItemThrough text begun (t ∷ ts)) (ListThrough text (begun ++ t ∷ ts)) _ (item text begun)
    (λ i q. mapped (ListThrough text ts) (ListThrough text (begun ++ t ∷ ts)) (with_item i) (list text [] ts) (λ l r. λ end h. q end (skip text t ts end (mark_no_name text (codes ",") t e) (r end h))) (list_through text [] ts))
    (item_through text begun t ts (ap is_str (mark_is text (codes ",") t e).0) (comma_harmless text t ts e)))
    (subst (λ us. IfThere (ListThrough text us) (list text (begun ++ t ∷ []) ts)) (append_assoc begun (t ∷ []) ts) (list_through text (begun ++ t ∷ []) ts)))

abbrev IsListInOrder : List ℕ → ℕ → Items → Type 0
IsListInOrder text at l = (at ≤ l.close.end) × Later text l.close.end l.rest × Ordered text l.close.end l.rest

list_in_order : (text : List ℕ) (at : ℕ) (begun ts : List Token) → Ordered text at ts → IfThere (IsListInOrder text at) (list text begun ts)
list_in_order text at begun [] o = tt
list_in_order text at begun (t ∷ ts) o =
    let a = o.0 in
    let b = o.1 in
    let on : (l : Items) → IsListInOrder text t.end l → IsListInOrder text at l = λ l q. let c = q.0 in (omega (arith, a, b, c), q.1, q.2) in
    either (IfThere (IsListInOrder text at)) (is_mark text (codes "}") t) _ _ (there (IsListInOrder text at) _ (last_item text begun) (λ is. (omega (arith, a, b), o.2, o.3)))
    (either (IfThere (IsListInOrder text at)) (is_mark text (codes ",") t) _ _
    (chained (λ i. Unit {0}) (IsListInOrder text at) _ (item text begun) (λ i u. mapped (IsListInOrder text t.end) (IsListInOrder text at) (with_item i) (list text [] ts) on (list_in_order text t.end [] ts o.3)) (anything (item text begun)))
    (weaker (IsListInOrder text t.end) (IsListInOrder text at) (list text (begun ++ t ∷ []) ts) on (list_in_order text t.end (begun ++ t ∷ []) ts o.3)))

bound_through : (text : List ℕ) (at : ℕ) (ts : List Token) → Ordered text at ts → IfThere (λ b. Through text at ts b.rest) (bound text ts)
bound_through text at [] o = tt
bound_through text at (t ∷ ts) o =
    let p = o.0 in
    let q = o.1 in
    tested (IfThere (λ b. Through text at (t ∷ ts) b.rest)) (is_mark text (codes "*") t) _ _ (λ e.
    weaker (λ b. Through text t.end ts b.rest) (λ b. Through text at (t ∷ ts) b.rest) (all_as text ts)
    (λ b r. let c = r.1 in (r.0, omega (arith, p, q, c), r.2, λ end h l. skip text t ts end (mark_no_name text (codes "*") t e) (r.3 end h l))) (all_through text t.end ts o.3))
    (given (λ b. Through text at (t ∷ ts) b.rest) (is_mark text (codes "{") t) _ (λ e.
    mapped (λ l. IsListInOrder text t.end l × ListThrough text ts l) (λ b. Through text at (t ∷ ts) b.rest) _ (list text [] ts)
    (λ l r. let i = r.0 in let c = i.0 in (l.close.end, omega (arith, p, q, c), i.2, λ end h g. skip text t ts end (mark_no_name text (codes "{") t e) (r.1 end g)))
    (paired (IsListInOrder text t.end) (ListThrough text ts) (list text [] ts) (list_in_order text t.end [] ts o.3) (list_through text [] ts))))

abbrev FormReaches : List ℕ → ℕ → Token → List Token → Form → Type 0
FormReaches text at w ts form = Reaches text at (form_end w form) ts

-- what is read, and `from S`
through_from : (text : List ℕ) (at : ℕ) (ts rest : List Token) (m : Named) (t : Through text at ts rest) → FromReaches text t.0 rest m → Reaches text at m.end ts
through_from text at ts rest m t r = let a = t.1 in let b = r.0.0 in (omega (arith, a, b), t.3 m.end r.1 r.0.1)

bound_import_reaches : (text : List ℕ) (at : ℕ) (w : Token) (d : Option Token) (ts : List Token) → Ordered text at ts → IfThere (FormReaches text at w ts) (bound_import text d ts)
bound_import_reaches text at w d ts o =
    chained (λ b. Through text at ts b.rest) (FormReaches text at w ts) _ (bound text ts)
    (λ b t. mapped (FromReaches text t.0 b.rest) (FormReaches text at w ts) _ (from_named text b.rest) (λ m r. through_from text at ts b.rest m t r) (from_reaches text t.0 b.rest t.2)) (bound_through text at ts o)

abbrev DefaultReaches : List ℕ → ℕ → Token → List Token → Form → Type 0
DefaultReaches text at w ts form = FormReaches text at w ts form × IsHarmless text ts

default_import_reaches : (text : List ℕ) (at : ℕ) (w d : Token) (ts : List Token) → Ordered text at ts → IfThere (DefaultReaches text at w ts) (default_import text d ts)
default_import_reaches text at w d [] o = tt
default_import_reaches text at w d (u ∷ us) o =
    let a = o.0 in
    let b = o.1 in
    tested (IfThere (DefaultReaches text at w (u ∷ us))) (is_mark text (codes ",") u) _ _ (λ e.
    weaker (FormReaches text u.end w us) (DefaultReaches text at w (u ∷ us)) (bound_import text (Some d) us)
    (λ form r. let c = r.0 in ((omega (arith, a, b, c), skip text u us (form_end w form) (mark_no_name text (codes ",") u e) r.1), comma_harmless text u us e)) (bound_import_reaches text u.end w (Some d) us o.3))
    (mapped (FromReaches text at (u ∷ us)) (DefaultReaches text at w (u ∷ us)) _ (from_named text (u ∷ us)) (λ m r. (r.0, r.1)) (from_reaches text at (u ∷ us) o))

import_reaches : (text : List ℕ) (at : ℕ) (w : Token) (ts : List Token) → Ordered text at ts → IfThere (FormReaches text at w ts) (import_form text ts)
import_reaches text at w [] o = tt
import_reaches text at w (t ∷ ts) o =
    let a = o.0 in
    let b = o.1 in
    tested (IfThere (FormReaches text at w (t ∷ ts))) (is_str t.kind) _ _ (λ k.
    mapped (λ m. Reaches text at m.end (t ∷ ts)) (FormReaches text at w (t ∷ ts)) _ (named_by text t (statement_end text t ts)) (λ m r. r)
    (named_all (λ m. Reaches text at m.end (t ∷ ts)) text t (statement_end text t ts) (λ name s. string_reaches text at t ts k o)))
    (either (IfThere (FormReaches text at w (t ∷ ts))) (is_ident t.kind) _ _
    (weaker (DefaultReaches text t.end w ts) (FormReaches text at w (t ∷ ts)) (default_import text t ts) (λ form r. let c = r.0.0 in (omega (arith, a, b, c), skip_name text t ts (form_end w form) r.1 r.0.1)) (default_import_reaches text t.end w t ts o.3))
    (bound_import_reaches text at w None (t ∷ ts) o))

export_list_reaches : (text : List ℕ) (at : ℕ) (w : Token) (l : Items) → IsListInOrder text at l → IfThere (FormReaches text l.close.end w l.rest) (export_list text l)
export_list_reaches text at w l i =
    either (IfThere (FormReaches text l.close.end w l.rest)) (begins_word text (codes "from") l.rest) _ _
    (mapped (FromReaches text l.close.end l.rest) (FormReaches text l.close.end w l.rest) _ (from_named text l.rest) (λ m r. r.0) (from_reaches text l.close.end l.rest i.2)) (end_reaches text l.close l.rest i.1 i.2)

export_all_reaches : (text : List ℕ) (at : ℕ) (w : Token) (ts : List Token) → Ordered text at ts → IfThere (FormReaches text at w ts) (export_all text ts)
export_all_reaches text at w ts o =
    either (IfThere (FormReaches text at w ts)) (begins_word text (codes "from") ts) _ _
    (mapped (FromReaches text at ts) (FormReaches text at w ts) _ (from_named text ts) (λ m r. r.0) (from_reaches text at ts o))
    (chained (λ b. Through text at ts b.rest) (FormReaches text at w ts) _ (all_as text ts)
    (λ b t. mapped (FromReaches text t.0 b.rest) (FormReaches text at w ts) _ (from_named text b.rest) (λ m r. through_from text at ts b.rest m t r) (from_reaches text t.0 b.rest t.2)) (all_through text at ts o))

export_reaches : (text : List ℕ) (w : Token) (ts : List Token) → Later text w.end ts → Ordered text w.end ts → IfThere (FormReaches text w.end w ts) (export_form text ts)
export_reaches text w [] l o = tt
export_reaches text w (t ∷ ts) l o =
    let a = o.0 in
    let b = o.1 in
    let Form-here = FormReaches text w.end w (t ∷ ts) in
    let on : (mark : List ℕ) → is_mark text mark t ≡ true → (form : Form) → FormReaches text t.end w ts form → FormReaches text w.end w (t ∷ ts) form =
    λ mark e form r. let c = r.0 in (omega (arith, a, b, c), skip text t ts (form_end w form) (mark_no_name text mark t e) r.1) in
    tested (IfThere Form-here) (is_mark text (codes "{") t) _ _ (λ e.
    chained (λ l. IsListInOrder text t.end l × ListThrough text ts l) Form-here (export_list text) (list text [] ts)
    (λ l r. weaker (FormReaches text l.close.end w l.rest) Form-here (export_list text l) (λ form q. let i = r.0 in let c = i.0 in let d = q.0 in on (codes "{") e form (omega (arith, c, d), r.1 (form_end w form) q.1)) (export_list_reaches text t.end w l r.0))
    (paired (IsListInOrder text t.end) (ListThrough text ts) (list text [] ts) (list_in_order text t.end [] ts o.3) (list_through text [] ts)))
    (tested (IfThere Form-here) (is_mark text (codes "*") t) _ _ (λ e. weaker (FormReaches text t.end w ts) Form-here (export_all text ts) (on (codes "*") e) (export_all_reaches text t.end w ts o.3))
    (tested (IfThere Form-here) (is_word text (codes "default") t) _ _ (λ e. (omega (arith, a, b), skip_word text (codes "default") t ts t.end e refl refl refl o.2))
    (either (IfThere Form-here) (is_some (given_name text (t ∷ ts))) _ _ (there Form-here (λ name. ExportDeclared (name ∷ [])) (given_name text (t ∷ ts)) (λ name. (omega arith, l))) (given Form-here _ (Some (ExportDeclared (declared_names text t ts))) (λ e. (omega arith, l))))))

close_reaches : (text : List ℕ) (at : ℕ) (ts : List Token) → Ordered text at ts → IfThere (λ c. Reaches text at c.end ts) (call_close text ts)
close_reaches text at [] o = tt
close_reaches text at (t ∷ []) o =
    let a = o.0 in
    let b = o.1 in
    tested (IfThere (λ c. Reaches text at c.end (t ∷ []))) (is_mark text (codes ")") t) (Some t) _ (λ e. (omega (arith, a, b), skip text t [] t.end (mark_no_name text (codes ")") t e) o.2)) (given (λ c. Reaches text at c.end (t ∷ [])) _ None (λ e. tt))
close_reaches text at (t ∷ u ∷ us) o =
    let a = o.0 in
    let b = o.1 in
    let i = o.3 in
    let c = i.0 in
    let d = i.1 in
    tested (IfThere (λ c. Reaches text at c.end (t ∷ u ∷ us))) (is_mark text (codes ")") t) (Some t) _ (λ e. (omega (arith, a, b), skip text t (u ∷ us) t.end (mark_no_name text (codes ")") t e) o.2))
    (given (λ c. Reaches text at c.end (t ∷ u ∷ us)) (is_mark text (codes ",") t && is_mark text (codes ")") u) (Some u) (λ e.
    let m = both_true (is_mark text (codes ",") t) (is_mark text (codes ")") u) e in
    (omega (arith, a, b, c, d), skip text t (u ∷ us) u.end (mark_no_name text (codes ",") t m.0) (skip text u us u.end (mark_no_name text (codes ")") u m.1) i.2))))

-- an argument: its string is clear, and the call up to its `)`
abbrev IsArgument : List ℕ → ℕ → List Token → Named → Type 0
IsArgument text at ts m = ((at ≤ m.string.start) × (m.string.start ≤ m.string.end) × Later text m.string.end ts) × Reaches text at m.end ts

argument_reaches : (text : List ℕ) (at : ℕ) (ts : List Token) → Ordered text at ts → IfThere (IsArgument text at ts) (argument text ts)
argument_reaches text at [] h = tt
argument_reaches text at (o ∷ []) h = tt
argument_reaches text at (o ∷ s ∷ ts) h =
    let a = h.0 in
    let b = h.1 in
    let i = h.3 in
    let c = i.0 in
    let d = i.1 in
    given (IsArgument text at (o ∷ s ∷ ts)) (is_mark text (codes "(") o) _ (λ e.
    let no = mark_no_name text (codes "(") o e in
    chained (λ x. Reaches text s.end x.end ts) (IsArgument text at (o ∷ s ∷ ts)) _ (call_close text ts)
    (λ x r. named_all (IsArgument text at (o ∷ s ∷ ts)) text s x.end (λ name k.
    let not_s = ap is_ident (str_kind s.kind k) in
    let f = r.0 in
    ((omega (arith, a, b, c), d, skip text o (s ∷ ts) s.end no (skip text s ts s.end not_s i.2)), (omega (arith, a, b, c, d, f), skip text o (s ∷ ts) x.end no (skip text s ts x.end not_s r.1)))))
    (close_reaches text s.end ts i.3))

-- ---- what is found at a token, before these

abbrev IsFoundClear : List ℕ → Token → List Token → Found → Type 0
IsFoundClear text t ts (Require m) = (t.end ≤ m.string.start) × (m.string.start ≤ m.string.end) × Later text m.string.end ts
IsFoundClear text t ts (ImportCall w m) = (w ≡ t) × (t.end ≤ m.end) × Later text m.end ts
IsFoundClear text t ts Dynamic = Unit {0}
IsFoundClear text t ts (Statement w form) = (w ≡ t) × (t.end ≤ form_end w form) × Later text (form_end w form) ts

abbrev IsAnswer : List ℕ → Token → List Token → Result (Option Found) DepFault → Type 0
IsAnswer text t ts (Ok o) = IfThere (IsFoundClear text t ts) o
IsAnswer text t ts (Err e) = Unit {0}

called : (text : List ℕ) (t : Token) (ts : List Token) (make : Named → Found) (a : Option Named) (o : Option Found) → IfThere (λ m. IsFoundClear text t ts (make m)) a → IfThere (IsFoundClear text t ts) o → IfThere (IsFoundClear text t ts) (call_or make a o)
called text t ts make None o h k = k
called text t ts make (Some m) o h k = h

dynamic_clear : (text : List ℕ) (s : Site) (t : Token) (ts : List Token) → IfThere (IsFoundClear text t ts) (dynamic_call text s)
dynamic_clear text s t ts = given (IsFoundClear text t ts) (begins text (codes "(") s.after && not (option_map_or (is_word text (codes "function")) s.before false)) (Some Dynamic) (λ e. tt {0})

formed : (text : List ℕ) (t : Token) (ts : List Token) (e : DepFault) (o : Option Form) → IfThere (FormReaches text t.end t ts) o → IsAnswer text t ts (form_or e t o)
formed text t ts e None h = tt
formed text t ts e (Some form) h = (refl, h.0, h.1)

site_clear : (text : List ℕ) (shielded : Bool) (s : Site) → Later text s.here.end s.after → Ordered text s.here.end s.after → IsAnswer text s.here s.after (read_site text shielded s)
site_clear text shielded s l o =
    let t = s.here in
    let ts = s.after in
    let dynamic = dynamic_clear text s t ts in
    let args = argument_reaches text t.end ts o in
    either (IsAnswer text t ts) (is_plain_at text (codes "import") s) _ _
    (either (IsAnswer text t ts) (begins text (codes "(") ts) _ _
    (called text t ts (λ m. ImportCall t m) (argument text ts) (dynamic_call text s) (weaker (IsArgument text t.end ts) (λ m. IsFoundClear text t ts (ImportCall t m)) (argument text ts) (λ m r. (refl, r.1.0, r.1.1)) args) dynamic)
    (either (IsAnswer text t ts) _ (Ok None) _ tt (formed text t ts (ImportForm t.start) (import_form text ts) (import_reaches text t.end t ts o))))
    (either (IsAnswer text t ts) (is_plain_at text (codes "export") s) _ _
    (either (IsAnswer text t ts) _ _ (Ok None) (formed text t ts (ExportForm t.start) (export_form text ts) (export_reaches text t ts l o)) tt)
    (either (IsAnswer text t ts) (is_plain_at text (codes "require") s) _ (Ok None)
    (either (IfThere (IsFoundClear text t ts)) shielded None _ tt
    (called text t ts (λ m. Require m) (argument text ts) (dynamic_call text s) (weaker (IsArgument text t.end ts) (λ m. IsFoundClear text t ts (Require m)) (argument text ts) (λ m r. r.0) args) dynamic))
    tt))

-- and what is found after it
abbrev IsThen : Token → Result (List Found) DepFault → Found → Type 0
IsThen t r (Require m) = (t.end ≤ m.string.start) × (m.string.start ≤ m.string.end) × IsClear m.string.end r
IsThen t r (ImportCall w m) = (w ≡ t) × (t.end ≤ m.end) × IsClear m.end r
IsThen t r Dynamic = Unit {0}
IsThen t r (Statement w form) = (w ≡ t) × (t.end ≤ form_end w form) × IsClear (form_end w form) r

then_found : (text : List ℕ) (t : Token) (ts : List Token) (f : Found) (c : Cover) (before : Option Token) (depth : ℕ) → IsFoundClear text t ts f → IsThen t (found_at text c before depth ts) f
then_found text t ts (Require m) c before depth h = (h.0, h.1, h.2 c before depth)
then_found text t ts (ImportCall w m) c before depth h = (h.0, h.1, h.2 c before depth)
then_found text t ts Dynamic c before depth h = tt
then_found text t ts (Statement w form) c before depth h = (h.0, h.1, h.2 c before depth)

one_clear : (at : ℕ) (t : Token) (f : Found) (r : Result (List Found) DepFault) → at ≤ t.start → t.start ≤ t.end → IsClear t.end r → IsThen t r f → IsClear at (found_before (Ok (Some f)) r)
one_clear at t f (Err e) a b k h = tt
one_clear at t (Require m) (Ok fs) a b k h = let c = h.0 in (omega (arith, a, b, c), h.1, h.2)
one_clear at t (ImportCall w m) (Ok fs) a b k h = let s : w.start ≡ t.start = ap (λ x. x.start) h.0 in let c = h.1 in (omega (arith, a, s), omega (arith, s, b, c), h.2)
one_clear at t Dynamic (Ok fs) a b k h = sooner at t.end fs (omega (arith, a, b)) k
one_clear at t (Statement w form) (Ok fs) a b k h = let s : w.start ≡ t.start = ap (λ x. x.start) h.0 in let c = h.1 in (omega (arith, a, s), omega (arith, s, b, c), h.2)

answer_clear :
    (text : List ℕ) (at : ℕ) (t : Token) (ts : List Token) (one : Result (Option Found) DepFault) (c : Cover) (before : Option Token) (depth : ℕ) → at ≤ t.start → t.start ≤ t.end → Later text t.end ts → IsAnswer text t ts one →
    IsClear at (found_before one (found_at text c before depth ts))
answer_clear text at t ts (Err e) c before depth a b k h = tt
answer_clear text at t ts (Ok None) c before depth a b k h = sooner_or at t.end (found_at text c before depth ts) (omega (arith, a, b)) (k c before depth)
answer_clear text at t ts (Ok (Some f)) c before depth a b k h = one_clear at t f (found_at text c before depth ts) a b (k c before depth) (then_found text t ts f c before depth h)

all_clear : (text : List ℕ) (at : ℕ) (ts : List Token) → InOrder at ts → Later text at ts × Ordered text at ts
all_clear text at [] h = (λ c before depth. tt, tt)
all_clear text at (t ∷ ts) h =
    let r = all_clear text t.end ts h.2 in
    (λ c before depth. answer_clear text at t ts (read_site text (nat_lt 0 c.count) (site before depth t ts)) (cover_after text c t ts) (Some t) (depth_after text depth t) h.0 h.1 r.0 (site_clear text (nat_lt 0 c.count) (site before depth t ts) r.0 r.1), (h.0, h.1, r.0, r.1))

-- ---- the ranges

uses_apart : (text : List ℕ) (ds : List Dependency) (at : ℕ) (fs : List Found) → AreClear at fs → AreApart at (filter_map (edit_of text ds) fs)
uses_apart text ds at [] h = tt
uses_apart text ds at (Require m ∷ fs) h = (h.0, h.1, uses_apart text ds m.string.end fs h.2)
uses_apart text ds at (ImportCall w m ∷ fs) h = (h.0, h.1, uses_apart text ds m.end fs h.2)
uses_apart text ds at (Dynamic ∷ fs) h = uses_apart text ds at fs h
uses_apart text ds at (Statement w form ∷ fs) h = (h.0, h.1, uses_apart text ds (form_end w form) fs h.2)

gathered_apart : (text : List ℕ) (r : Result (List Found) DepFault) (d : Deps) → IsClear 0 r → gathered_or text r ≡ Ok d → AreApart 0 d.uses
gathered_apart text (Err e) d o h = absurd (cc)
gathered_apart text (Ok fs) d o h =
    let e : gathered text fs ≡ d = cc in
    subst (λ x. AreApart 0 x.uses) e (uses_apart text (dependencies fs) 0 fs o)

pub deps_apart : (text : List ℕ) (to : ℕ) (ts : List Token) (d : Deps) → Covers 0 to ts → deps_of text ts ≡ Ok d → AreApart 0 d.uses
unfolding deps_of
deps_apart text to ts d c h = gathered_apart text (found_in text ts) d ((all_clear text 0 (seen ts) (seen_in_order 0 ts (covers_in_order 0 to ts c))).0 no_cover None 0) h
