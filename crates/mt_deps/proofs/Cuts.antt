-- What is found in a text whose tokens are cut between characters is cut there too.
use Rattle.std.proofs.Common.{◌≡◌, ◌∙◌, ℕ, Bool, true, false, cond, List, [], ◌∷◌, ◌++◌, ap, drop, map, subst, sym, Option, Some, None, Ok, Err, codes, IsCharBoundary}
use Rattle.std.specs.Prelude.{Result, filter, option_map, option_and_then, is_some, nat_lt}
use Rattle.std.specs.List.{AllByRecursion}
use Rattle.mt_chars.specs.Escapes.{cooked}
use Rattle.mt_tokens.specs.Cut.{AreCut, IfThere, IsBoundCut, IsFormCut, IsFoundCut, IsItemCut, IsNamedCut}
use Rattle.mt_tokens.specs.Forms.{Items, Read, all_as, bound, bound_import, declared_names, default_import, ends_names, export_all, export_declared, export_form, export_list, from_named, function_name, given_name, import_form, is_declared, is_extends, item, last_item, list, named_by, statement_end, unless, with_item}
use Rattle.mt_tokens.specs.Readings.{argument, call_close, call_or, dynamic_call, form_or, found_at, found_before, read_export, read_import, read_require, read_site}
use Rattle.mt_tokens.specs.Shields.{cover_after}
use Rattle.mt_tokens.specs.Sites.{Site, begins, begins_word, depth_after, first_name, first_token, is_plain_at, sites, until}
use Rattle.mt_tokens.specs.Tokens.{IsCut}
use Rattle.mt_tokens.specs.Words.{bytes_of, is_ident, is_mark, is_str, is_word}
use Rattle.mt_tokens.specs.declared.dep.DepFault.{DepFault}
use Rattle.mt_tokens.specs.declared.dep.DepFault.TheVariants.{ExportForm, ImportForm}
use Rattle.mt_tokens.specs.declared.forms.Bound.{Bound}
use Rattle.mt_tokens.specs.declared.forms.Bound.TheVariants.{All}
use Rattle.mt_tokens.specs.declared.forms.Cover.{Cover}
use Rattle.mt_tokens.specs.declared.forms.Form.{Form}
use Rattle.mt_tokens.specs.declared.forms.Form.TheVariants.{ExportDeclared}
use Rattle.mt_tokens.specs.declared.forms.Found.{Found}
use Rattle.mt_tokens.specs.declared.forms.Found.TheVariants.{Dynamic, ImportCall, Require}
use Rattle.mt_tokens.specs.declared.forms.Named.{Named}
use Rattle.mt_tokens.specs.declared.token.Token.{Token}
use Rattle.mt_tokens.proofs.Replaced.{either}
use Rattle.mt_deps.specs.Seen.{seen_bound, seen_items, seen_of}
use Rattle.mt_deps.specs.declared.lists.BoundRead.{BoundRead}
use Rattle.mt_deps.specs.declared.lists.ItemsRead.{ItemsRead}

-- ---- of what may be there

only_if : {X : Type 0} (P : X → Type 0) (b : Bool) (o : Option X) → IfThere P o → IfThere P (cond b o None)
only_if P b o h = either (IfThere P) b o None h tt

mapped : {X Y : Type 0} (P : X → Type 0) (Q : Y → Type 0) (f : X → Y) (o : Option X) → ((x : X) → P x → Q (f x)) → IfThere P o → IfThere Q (option_map f o)
mapped P Q f None g h = tt
mapped P Q f (Some x) g h = g x h

made : {X Y : Type 0} (Q : Y → Type 0) (f : X → Y) (o : Option X) → ((x : X) → Q (f x)) → IfThere Q (option_map f o)
made Q f None g = tt
made Q f (Some x) g = g x

after : {X Y : Type 0} (P : X → Type 0) (Q : Y → Type 0) (f : X → Option Y) (o : Option X) → ((x : X) → P x → IfThere Q (f x)) → IfThere P o → IfThere Q (option_and_then f o)
after P Q f None g h = tt
after P Q f (Some x) g h = g x h

pub and_rest : {X : Type 0} (P : X → Type 0) (xs ys : List X) → AllByRecursion P xs → AllByRecursion P ys → AllByRecursion P (xs ++ ys)
and_rest P [] ys h k = k
and_rest P (x ∷ xs) ys h k = (h.0, and_rest P xs ys h.1 k)

pub but_first : {X : Type 0} (P : X → Type 0) (xs : List X) → AllByRecursion P xs → AllByRecursion P (drop 1 xs)
but_first P [] h = tt
but_first P (x ∷ xs) h = h.1

-- ---- what is read of cut tokens is cut

named_cut : (text : List ℕ) (t : Token) (end : ℕ) → IsCut text t → IsCharBoundary text end → IfThere (IsNamedCut text) (named_by text t end)
unfolding named_by
named_cut text t end c e = only_if (IsNamedCut text) (is_str t.kind) _ (made (IsNamedCut text) _ (cooked (bytes_of text t)) (λ name. (c, e)))

end_cut : (text : List ℕ) (last : Token) (ts : List Token) → IsCut text last → AreCut text ts → IsCharBoundary text (statement_end text last ts)
end_cut text last [] c h = c.1
end_cut text last (t ∷ ts) c h = either (IsCharBoundary text) (is_mark text (codes ";") t) t.end last.end h.0.1 c.1

from_cut : (text : List ℕ) (ts : List Token) → AreCut text ts → IfThere (IsNamedCut text) (from_named text ts)
from_cut text [] h = tt
from_cut text (f ∷ []) h = tt
from_cut text (f ∷ s ∷ rest) h =
    only_if (IsNamedCut text) (is_word text (codes "from") f) (named_by text s (statement_end text s rest)) (named_cut text s (statement_end text s rest) h.1.0 (end_cut text s rest h.1.0 h.1.1))

item_cut : (text : List ℕ) (ts : List Token) → AreCut text ts → IfThere (IsItemCut text) (item text ts)
item_cut text [] h = tt
item_cut text (n ∷ []) h = only_if (IsItemCut text) (is_ident n.kind) (Some (record { name = n; other = n })) (h.0, h.0)
item_cut text (n ∷ a ∷ []) h = tt
item_cut text (n ∷ a ∷ m ∷ []) h = only_if (IsItemCut text) _ (Some (record { name = n; other = m })) (h.0, h.1.1.0)
item_cut text (n ∷ a ∷ m ∷ t ∷ ts) h = tt

abbrev IsListCut : List ℕ → Items → Type 0
IsListCut text l = AllByRecursion (IsItemCut text) l.items × IsCut text l.close × AreCut text l.rest

last_cut : (text : List ℕ) (ts : List Token) → AreCut text ts → IfThere (AllByRecursion (IsItemCut text)) (last_item text ts)
last_cut text [] h = tt
last_cut text (t ∷ ts) h = mapped (IsItemCut text) (AllByRecursion (IsItemCut text)) (λ i. i ∷ []) (item text (t ∷ ts)) (λ i c. (c, tt)) (item_cut text (t ∷ ts) h)

list_cut : (text : List ℕ) (begun ts : List Token) → AreCut text begun → AreCut text ts → IfThere (IsListCut text) (list text begun ts)
list_cut text begun [] b h = tt
list_cut text begun (t ∷ ts) b h =
    either (IfThere (IsListCut text)) (is_mark text (codes "}") t) _ _ (mapped (AllByRecursion (IsItemCut text)) (IsListCut text) _ (last_item text begun) (λ is c. (c, h.0, h.1)) (last_cut text begun b))
    (either (IfThere (IsListCut text)) (is_mark text (codes ",") t) _ _
    (after (IsItemCut text) (IsListCut text) _ (item text begun) (λ i c. mapped (IsListCut text) (IsListCut text) (with_item i) (list text [] ts) (λ l d. ((c, d.0), d.1, d.2)) (list_cut text [] ts tt h.1)) (item_cut text begun b))
    (list_cut text (begun ++ t ∷ []) ts (and_rest (IsCut text) begun (t ∷ []) b (h.0, tt)) h.1))

abbrev IsReadCut : List ℕ → Read Bound → Type 0
IsReadCut text r = IsBoundCut text r.found × AreCut text r.rest

all_cut : (text : List ℕ) (ts : List Token) → AreCut text ts → IfThere (IsReadCut text) (all_as text ts)
all_cut text [] h = tt
all_cut text (a ∷ []) h = tt
all_cut text (a ∷ n ∷ rest) h = only_if (IsReadCut text) _ (Some (record { found = All n; rest = rest })) (h.1.0, h.1.1)

bound_cut : (text : List ℕ) (ts : List Token) → AreCut text ts → IfThere (IsReadCut text) (bound text ts)
bound_cut text [] h = tt
bound_cut text (t ∷ ts) h =
    either (IfThere (IsReadCut text)) (is_mark text (codes "*") t) _ _ (all_cut text ts h.1)
    (only_if (IsReadCut text) (is_mark text (codes "{") t) _ (mapped (IsListCut text) (IsReadCut text) _ (list text [] ts) (λ l c. (c.0, c.2)) (list_cut text [] ts tt h.1)))

pub all_rest : (text : List ℕ) (ts : List Token) (r : Option BoundRead) (b : BoundRead) → option_map seen_bound r ≡ all_as text ts → r ≡ Some b → AreCut text ts → AreCut text (seen_of b.rest)
all_rest text ts r b e s h = (subst (IfThere (IsReadCut text)) (sym e ∙ ap (option_map seen_bound) s) (all_cut text ts h)).1

pub bound_rest : (text : List ℕ) (ts : List Token) (r : Option BoundRead) (b : BoundRead) → option_map seen_bound r ≡ bound text ts → r ≡ Some b → AreCut text ts → AreCut text (seen_of b.rest)
bound_rest text ts r b e s h = (subst (IfThere (IsReadCut text)) (sym e ∙ ap (option_map seen_bound) s) (bound_cut text ts h)).1

pub list_rest : (text : List ℕ) (ts : List Token) (r : Option ItemsRead) (l : ItemsRead) → option_map seen_items r ≡ list text [] ts → r ≡ Some l → AreCut text ts → AreCut text (seen_of l.rest)
list_rest text ts r l e s h = (subst (IfThere (IsListCut text)) (sym e ∙ ap (option_map seen_items) s) (list_cut text [] ts tt h)).2

bound_import_cut : (text : List ℕ) (d : Option Token) (ts : List Token) → IfThere (IsCut text) d → AreCut text ts → IfThere (IsFormCut text) (bound_import text d ts)
bound_import_cut text d ts c h =
    after (IsReadCut text) (IsFormCut text) _ (bound text ts) (λ b k. mapped (IsNamedCut text) (IsFormCut text) _ (from_named text b.rest) (λ m n. (c, k.0, n)) (from_cut text b.rest k.1)) (bound_cut text ts h)

default_import_cut : (text : List ℕ) (d : Token) (ts : List Token) → IsCut text d → AreCut text ts → IfThere (IsFormCut text) (default_import text d ts)
default_import_cut text d ts c h =
    either (IfThere (IsFormCut text)) (begins text (codes ",") ts) _ _ (bound_import_cut text (Some d) (drop 1 ts) c (but_first (IsCut text) ts h))
    (mapped (IsNamedCut text) (IsFormCut text) _ (from_named text ts) (λ m n. (c, tt, n)) (from_cut text ts h))

import_cut : (text : List ℕ) (ts : List Token) → AreCut text ts → IfThere (IsFormCut text) (import_form text ts)
import_cut text [] h = tt
import_cut text (t ∷ ts) h =
    either (IfThere (IsFormCut text)) (is_str t.kind) _ _
    (mapped (IsNamedCut text) (IsFormCut text) _ (named_by text t (statement_end text t ts)) (λ m n. (tt, tt, n)) (named_cut text t (statement_end text t ts) h.0 (end_cut text t ts h.0 h.1)))
    (either (IfThere (IsFormCut text)) (is_ident t.kind) _ _ (default_import_cut text t ts h.0 h.1) (bound_import_cut text None (t ∷ ts) tt h))

export_list_cut : (text : List ℕ) (l : Items) → IsListCut text l → IfThere (IsFormCut text) (export_list text l)
export_list_cut text l c =
    either (IfThere (IsFormCut text)) (begins_word text (codes "from") l.rest) _ _ (mapped (IsNamedCut text) (IsFormCut text) _ (from_named text l.rest) (λ m n. (c.0, n)) (from_cut text l.rest c.2))
    (c.0, end_cut text l.close l.rest c.1 c.2)

export_all_cut : (text : List ℕ) (ts : List Token) → AreCut text ts → IfThere (IsFormCut text) (export_all text ts)
export_all_cut text ts h =
    either (IfThere (IsFormCut text)) (begins_word text (codes "from") ts) _ _ (mapped (IsNamedCut text) (IsFormCut text) _ (from_named text ts) (λ m n. (tt, n)) (from_cut text ts h))
    (after (IsReadCut text) (IsFormCut text) _ (all_as text ts) (λ b k. mapped (IsNamedCut text) (IsFormCut text) _ (from_named text b.rest) (λ m n. (k.0, n)) (from_cut text b.rest k.1)) (all_cut text ts h))

first_cut : (text : List ℕ) (ts : List Token) → AreCut text ts → IfThere (IsCut text) (first_name ts)
first_cut text [] h = tt
first_cut text (t ∷ ts) h = only_if (IsCut text) (is_ident t.kind) (Some t) h.0

function_cut : (text : List ℕ) (ts : List Token) → AreCut text ts → IfThere (IsCut text) (function_name text ts)
function_cut text ts h = first_cut text _ (either (AreCut text) (begins text (codes "*") ts) (drop 1 ts) ts (but_first (IsCut text) ts h) h)

given_cut : (text : List ℕ) (ts : List Token) → AreCut text ts → IfThere (IsCut text) (given_name text ts)
given_cut text [] h = tt
given_cut text (t ∷ ts) h =
    either (IfThere (IsCut text)) (is_word text (codes "class") t) _ _ (first_cut text ts h.1)
    (either (IfThere (IsCut text)) (is_word text (codes "function") t) _ _ (function_cut text ts h.1) (only_if (IsCut text) _ (function_name text (drop 1 ts)) (function_cut text (drop 1 ts) (but_first (IsCut text) ts h.1))))

unless_cut : (text : List ℕ) (test : Token → Bool) (o : Option Token) → IfThere (IsCut text) o → IfThere (IsCut text) (unless test o)
unless_cut text test None h = tt
unless_cut text test (Some t) h = either (IfThere (IsCut text)) (test t) None (Some t) tt h

-- the tokens of sites
sites_cut : (text : List ℕ) (before : Option Token) (depth : ℕ) (ts : List Token) → AreCut text ts → AllByRecursion (λ s. IsCut text s.here) (sites text before depth ts)
sites_cut text before depth [] h = tt
sites_cut text before depth (t ∷ ts) h = (h.0, sites_cut text (Some t) (depth_after text depth t) ts h.1)

until_cut : (text : List ℕ) (test : Site → Bool) (ss : List Site) → AllByRecursion (λ s. IsCut text s.here) ss → AllByRecursion (λ s. IsCut text s.here) (until test ss)
until_cut text test [] h = tt
until_cut text test (s ∷ ss) h = either (AllByRecursion (λ s. IsCut text s.here)) (test s) [] (s ∷ until test ss) tt (h.0, until_cut text test ss h.1)

filter_by :
    (text : List ℕ) (s : Site) (ss : List Site) (b : Bool) → IsCut text s.here → AreCut text (map (λ s. s.here) ss) → AreCut text (map (λ s. s.here) (cond b (s ∷ ss) ss))
filter_by text s ss true c h = (c, h)
filter_by text s ss false c h = h

filter_cut : (text : List ℕ) (test : Site → Bool) (ss : List Site) → AllByRecursion (λ s. IsCut text s.here) ss → AreCut text (map (λ s. s.here) (filter test ss))
filter_cut text test [] h = tt
filter_cut text test (s ∷ ss) h = filter_by text s (filter test ss) (test s) h.0 (filter_cut text test ss h.1)

names_cut : (text : List ℕ) (keyword : Token) (ts : List Token) → AreCut text ts → AreCut text (declared_names text keyword ts)
names_cut text keyword [] h = tt
names_cut text keyword (l ∷ ts) h =
    (h.0, filter_cut text (is_declared text) (until (ends_names text) (sites text (Some keyword) 0 (l ∷ ts))) (until_cut text (ends_names text) (sites text (Some keyword) 0 (l ∷ ts)) (sites_cut text (Some keyword) 0 (l ∷ ts) h)))

declared_cut : (text : List ℕ) (t : Token) (ts : List Token) → AreCut text (t ∷ ts) → IfThere (IsFormCut text) (export_declared text t ts)
declared_cut text t ts h =
    either (IfThere (IsFormCut text)) (is_some (given_name text (t ∷ ts))) _ _ (mapped (IsCut text) (IsFormCut text) _ (given_name text (t ∷ ts)) (λ l c. (c, tt)) (given_cut text (t ∷ ts) h))
    (only_if (IsFormCut text) _ (Some (ExportDeclared (declared_names text t ts))) (names_cut text t ts h.1))

export_cut : (text : List ℕ) (ts : List Token) → AreCut text ts → IfThere (IsFormCut text) (export_form text ts)
export_cut text [] h = tt
export_cut text (t ∷ ts) h =
    either (IfThere (IsFormCut text)) (is_mark text (codes "{") t) _ _ (after (IsListCut text) (IsFormCut text) (export_list text) (list text [] ts) (λ l c. export_list_cut text l c) (list_cut text [] ts tt h.1))
    (either (IfThere (IsFormCut text)) (is_mark text (codes "*") t) _ _ (export_all_cut text ts h.1)
    (either (IfThere (IsFormCut text)) (is_word text (codes "default") t) _ _ (h.0.1, unless_cut text (is_extends text) (given_name text ts) (given_cut text ts h.1)) (declared_cut text t ts h)))

-- ---- what is found at tokens that are cut

token_cut : (text : List ℕ) (ts : List Token) → AreCut text ts → IfThere (IsCut text) (first_token ts)
token_cut text [] h = tt
token_cut text (t ∷ ts) h = h.0

close_cut : (text : List ℕ) (ts : List Token) → AreCut text ts → IfThere (IsCut text) (call_close text ts)
close_cut text [] h = tt
close_cut text (t ∷ ts) h = either (IfThere (IsCut text)) (is_mark text (codes ")") t) _ _ h.0 (only_if (IsCut text) _ (first_token ts) (token_cut text ts h.1))

argument_cut : (text : List ℕ) (ts : List Token) → AreCut text ts → IfThere (IsNamedCut text) (argument text ts)
argument_cut text [] h = tt
argument_cut text (o ∷ []) h = tt
argument_cut text (o ∷ s ∷ ts) h =
    only_if (IsNamedCut text) (is_mark text (codes "(") o) _ (after (IsCut text) (IsNamedCut text) _ (call_close text ts) (λ c k. named_cut text s c.end h.1.0 k.1) (close_cut text ts h.1.1))

dynamic_cut : (text : List ℕ) (s : Site) → IfThere (IsFoundCut text) (dynamic_call text s)
dynamic_cut text s = only_if (IsFoundCut text) _ (Some Dynamic) tt

call_cut : (text : List ℕ) (make : Named → Found) (a : Option Named) (o : Option Found) → ((m : Named) → IsNamedCut text m → IsFoundCut text (make m)) → IfThere (IsNamedCut text) a → IfThere (IsFoundCut text) o → IfThere (IsFoundCut text) (call_or make a o)
call_cut text make None o g h k = k
call_cut text make (Some m) o g h k = g m h

abbrev IsAnswerCut : List ℕ → Result (Option Found) DepFault → Type 0
IsAnswerCut text (Ok o) = IfThere (IsFoundCut text) o
IsAnswerCut text (Err e) = Unit {0}

form_or_cut : (text : List ℕ) (e : DepFault) (w : Token) (o : Option Form) → IsCut text w → IfThere (IsFormCut text) o → IsAnswerCut text (form_or e w o)
form_or_cut text e w None c h = tt
form_or_cut text e w (Some form) c h = (c, h)

require_cut : (text : List ℕ) (shielded : Bool) (s : Site) → AreCut text s.after → IfThere (IsFoundCut text) (read_require text shielded s)
require_cut text shielded s h =
    either (IfThere (IsFoundCut text)) shielded None _ tt (call_cut text (λ m. Require m) (argument text s.after) (dynamic_call text s) (λ m c. c) (argument_cut text s.after h) (dynamic_cut text s))

read_import_cut : (text : List ℕ) (s : Site) → IsCut text s.here → AreCut text s.after → IsAnswerCut text (read_import text s)
read_import_cut text s c h =
    either (IsAnswerCut text) (begins text (codes "(") s.after) _ _
    (call_cut text (λ m. ImportCall s.here m) (argument text s.after) (dynamic_call text s) (λ m k. (c, k)) (argument_cut text s.after h) (dynamic_cut text s))
    (either (IsAnswerCut text) _ (Ok None) _ tt (form_or_cut text (ImportForm s.here.start) s.here (import_form text s.after) c (import_cut text s.after h)))

read_export_cut : (text : List ℕ) (s : Site) → IsCut text s.here → AreCut text s.after → IsAnswerCut text (read_export text s)
read_export_cut text s c h =
    either (IsAnswerCut text) _ _ (Ok None) (form_or_cut text (ExportForm s.here.start) s.here (export_form text s.after) c (export_cut text s.after h)) tt

site_cut : (text : List ℕ) (shielded : Bool) (s : Site) → IsCut text s.here → AreCut text s.after → IsAnswerCut text (read_site text shielded s)
site_cut text shielded s c h =
    either (IsAnswerCut text) (is_plain_at text (codes "import") s) _ _ (read_import_cut text s c h)
    (either (IsAnswerCut text) (is_plain_at text (codes "export") s) _ _ (read_export_cut text s c h)
    (either (IsAnswerCut text) (is_plain_at text (codes "require") s) _ (Ok None) (require_cut text shielded s h) tt))

pub option_cut : (text : List ℕ) (shielded : Bool) (s : Site) (o : Option Found) → read_site text shielded s ≡ Ok o → IsCut text s.here → AreCut text s.after → IfThere (IsFoundCut text) o
option_cut text shielded s o e c h = subst (IsAnswerCut text) e (site_cut text shielded s c h)

abbrev pub AreFoundCut : List ℕ → Result (List Found) DepFault → Type 0
AreFoundCut text (Ok fs) = AllByRecursion (IsFoundCut text) fs
AreFoundCut text (Err e) = Unit {0}

before_cut : (text : List ℕ) (one : Result (Option Found) DepFault) (more : Result (List Found) DepFault) → IsAnswerCut text one → AreFoundCut text more → AreFoundCut text (found_before one more)
before_cut text (Err e) more h k = tt
before_cut text (Ok None) more h k = k
before_cut text (Ok (Some f)) (Ok fs) h k = (h, k)
before_cut text (Ok (Some f)) (Err e) h k = tt

pub found_cut : (text : List ℕ) (c : Cover) (before : Option Token) (depth : ℕ) (ts : List Token) → AreCut text ts → AreFoundCut text (found_at text c before depth ts)
found_cut text c before depth [] h = tt
found_cut text c before depth (t ∷ ts) h =
    before_cut text (read_site text (nat_lt 0 c.count) (record { before = before; depth = depth; here = t; after = ts })) (found_at text (cover_after text c t ts) (Some t) (depth_after text depth t) ts)
    (site_cut text (nat_lt 0 c.count) (record { before = before; depth = depth; here = t; after = ts }) h.0 h.1)
    (found_cut text (cover_after text c t ts) (Some t) (depth_after text depth t) ts h.1)
