-- What takes the place of imports and exports is UTF-8.
use Rattle.std.proofs.Common.{arith, ◌≡◌, ◌≤◌, ◌<◌, ◌^◌, ℕ, ◌-◌, Bool, true, false, cond, List, [], ◌∷◌, ◌++◌, drop, take, Option, Some, None, refl, subst, codes, decimal, ltb, nat_lt, IsCharBoundary, IsUtf8}
use Rattle.std.specs.List.{AllByRecursion, flat_map, list_all}
use Rattle.std.proofs.lemmas.Bool.Decides.{nat_tests}
use Rattle.std.proofs.lemmas.Fmt.{IsAscii-decimal}
use Rattle.std.proofs.lemmas.Str.{IsUtf8-append, IsUtf8-between, IsUtf8-from_ascii, IsUtf8-nil}
use Rattle.mt_tokens.specs.Cut.{IfThere, IsBoundCut, IsFormCut, IsItemCut}
use Rattle.mt_tokens.specs.Replacements.{bound_text, default_text, defaulted, export_default_text, export_from_text, form_text, import_call_text, import_text, item_text, list_text, map_entry, more_text, only_required, property, required, set_begin, set_to, whole}
use Rattle.mt_tokens.specs.Tokens.{IsCut}
use Rattle.mt_tokens.specs.Words.{bytes_of, is_word}
use Rattle.mt_tokens.specs.declared.forms.Bound.{Bound}
use Rattle.mt_tokens.specs.declared.forms.Bound.TheVariants.{All, Listed, Nothing}
use Rattle.mt_tokens.specs.declared.forms.Form.{Form}
use Rattle.mt_tokens.specs.declared.forms.Form.TheVariants.{ExportDeclared, ExportDefault, ExportFrom, ExportList, Import}
use Rattle.mt_tokens.specs.declared.forms.Item.{Item}
use Rattle.mt_tokens.specs.declared.token.Token.{Token}
use Rattle.mt_chars.proofs.Ascii.{word_ascii}

-- what both values have, one of them chosen by a test has
pub either : {X : Type 0} (P : X → Type 0) (b : Bool) (x y : X) → P x → P y → P (cond b x y)
either P true x y h k = h
either P false x y h k = k

pub word_utf8 : (bs : List ℕ) → list_all (λ b. ltb b 128) bs ≡ true → IsUtf8 bs
word_utf8 bs h = IsUtf8-from_ascii bs (word_ascii bs h)

both : (a b : List ℕ) → IsUtf8 a → IsUtf8 b → IsUtf8 (a ++ b)
both a b h k = IsUtf8-append a b h k

three : (a b c : List ℕ) → IsUtf8 a → IsUtf8 b → IsUtf8 c → IsUtf8 (a ++ b ++ c)
three a b c h k l = both (a ++ b) c (both a b h k) l

bytes_by : (text : List ℕ) (start end : ℕ) (late : Bool) → nat_lt end start ≡ late → IsUtf8 text → IsCharBoundary text start → IsCharBoundary text end → IsUtf8 (take (end - start) (drop start text))
bytes_by text start end true e u b c =
    let none : 0 ≡ end - start = grind (arith, nat_tests) in
    subst (λ n. IsUtf8 (take n (drop start text))) none IsUtf8-nil
bytes_by text start end false e u b c = let within : start ≤ end = grind (arith, nat_tests) in IsUtf8-between text start end u within b c

-- the bytes of a token that is cut between characters
pub bytes_utf8 : (text : List ℕ) (t : Token) → IsUtf8 text → IsCut text t → IsUtf8 (bytes_of text t)
bytes_utf8 text t u c = bytes_by text t.start t.end (nat_lt t.end t.start) refl u c.0 c.1

-- ---- the texts

pub entry_utf8 : (i : ℕ) → i < 2 ^ 64 → IsUtf8 (map_entry i)
entry_utf8 i l = three (codes "dependencyMap[") (decimal i) (codes "]") (word_utf8 (codes "dependencyMap[") refl) (IsUtf8-from_ascii (decimal i) (IsAscii-decimal i l)) (word_utf8 (codes "]") refl)

required_utf8 : (i : ℕ) → i < 2 ^ 64 → IsUtf8 (required i)
required_utf8 i l = three (codes "require(") (map_entry i) (codes ")") (word_utf8 (codes "require(") refl) (entry_utf8 i l) (word_utf8 (codes ")") refl)

defaulted_utf8 : (i : ℕ) → i < 2 ^ 64 → IsUtf8 (defaulted i)
defaulted_utf8 i l = three (codes "importDefault(") (map_entry i) (codes ")") (word_utf8 (codes "importDefault(") refl) (entry_utf8 i l) (word_utf8 (codes ")") refl)

whole_utf8 : (i : ℕ) → i < 2 ^ 64 → IsUtf8 (whole i)
whole_utf8 i l = three (codes "importAll(") (map_entry i) (codes ")") (word_utf8 (codes "importAll(") refl) (entry_utf8 i l) (word_utf8 (codes ")") refl)

only_utf8 : (i : ℕ) → i < 2 ^ 64 → IsUtf8 (only_required i)
only_utf8 i l = both (required i) (codes ";") (required_utf8 i l) (word_utf8 (codes ";") refl)

set_utf8 : (text target : List ℕ) (n : Token) (value : List ℕ) → IsUtf8 text → IsUtf8 target → IsCut text n → IsUtf8 value → IsUtf8 (set_to text target n value)
set_utf8 text target n value u t c v =
    three (set_begin text target n) value (codes ";") (three target (bytes_of text n) (codes " = ") t (bytes_utf8 text n u c) (word_utf8 (codes " = ") refl)) v (word_utf8 (codes ";") refl)

property_utf8 : (text : List ℕ) (i : ℕ) (n : Token) → IsUtf8 text → i < 2 ^ 64 → IsCut text n → IsUtf8 (property text i n)
property_utf8 text i n u l c =
    either IsUtf8 (is_word text (codes "default") n) (defaulted i) (required i ++ codes "." ++ bytes_of text n) (defaulted_utf8 i l)
    (three (required i) (codes ".") (bytes_of text n) (required_utf8 i l) (word_utf8 (codes ".") refl) (bytes_utf8 text n u c))

item_utf8 : (text target : List ℕ) (i : ℕ) (it : Item) → IsUtf8 text → IsUtf8 target → i < 2 ^ 64 → IsItemCut text it → IsUtf8 (item_text text target i it)
item_utf8 text target i it u t l c = set_utf8 text target it.other (property text i it.name) u t c.1 (property_utf8 text i it.name u l c.0)

more_utf8 : (text target : List ℕ) (i : ℕ) (its : List Item) → IsUtf8 text → IsUtf8 target → i < 2 ^ 64 → AllByRecursion (IsItemCut text) its → IsUtf8 (flat_map (λ more. codes " " ++ item_text text target i more) its)
more_utf8 text target i [] u t l c = IsUtf8-nil
more_utf8 text target i (it ∷ its) u t l c =
    both (codes " " ++ item_text text target i it) (flat_map (λ more. codes " " ++ item_text text target i more) its)
    (both (codes " ") (item_text text target i it) (word_utf8 (codes " ") refl) (item_utf8 text target i it u t l c.0))
    (more_utf8 text target i its u t l c.1)

list_utf8 : (text target : List ℕ) (i : ℕ) (its : List Item) → IsUtf8 text → IsUtf8 target → i < 2 ^ 64 → AllByRecursion (IsItemCut text) its → IsUtf8 (list_text text target i its)
list_utf8 text target i [] u t l c = only_utf8 i l
list_utf8 text target i (it ∷ its) u t l c =
    both (item_text text target i it) (flat_map (λ more. codes " " ++ item_text text target i more) its) (item_utf8 text target i it u t l c.0) (more_utf8 text target i its u t l c.1)

bound_utf8 : (text target : List ℕ) (i : ℕ) (b : Bound) → IsUtf8 text → IsUtf8 target → i < 2 ^ 64 → IsBoundCut text b → IsUtf8 (bound_text text target i b)
bound_utf8 text target i Nothing u t l c = only_utf8 i l
bound_utf8 text target i (All n) u t l c = set_utf8 text target n (whole i) u t c (whole_utf8 i l)
bound_utf8 text target i (Listed its) u t l c = list_utf8 text target i its u t l c

var_utf8 : IsUtf8 (codes "var ")
var_utf8 = word_utf8 (codes "var ") refl

exports_utf8 : IsUtf8 (codes "exports.")
exports_utf8 = word_utf8 (codes "exports.") refl

after_default : (text : List ℕ) (i : ℕ) (b : Bound) → IsUtf8 text → i < 2 ^ 64 → IsBoundCut text b → IsUtf8 (more_text text i b)
after_default text i Nothing u l c = IsUtf8-nil
after_default text i (All n) u l c = both (codes " ") (bound_text text (codes "var ") i (All n)) (word_utf8 (codes " ") refl) (bound_utf8 text (codes "var ") i (All n) u var_utf8 l c)
after_default text i (Listed its) u l c = both (codes " ") (bound_text text (codes "var ") i (Listed its)) (word_utf8 (codes " ") refl) (bound_utf8 text (codes "var ") i (Listed its) u var_utf8 l c)

import_utf8 : (text : List ℕ) (i : ℕ) (d : Option Token) (b : Bound) → IsUtf8 text → i < 2 ^ 64 → IfThere (IsCut text) d → IsBoundCut text b → IsUtf8 (import_text text i d b)
import_utf8 text i None b u l c h = bound_utf8 text (codes "var ") i b u var_utf8 l h
import_utf8 text i (Some d) b u l c h =
    both (default_text text i d) (more_text text i b) (set_utf8 text (codes "var ") d (defaulted i) u var_utf8 c (defaulted_utf8 i l)) (after_default text i b u l h)

pub call_utf8 : (i : ℕ) → i < 2 ^ 64 → IsUtf8 (import_call_text i)
call_utf8 i l = three (codes "Promise.resolve(") (map_entry i) (codes ").then(importAll)") (word_utf8 (codes "Promise.resolve(") refl) (entry_utf8 i l) (word_utf8 (codes ").then(importAll)") refl)

from_utf8 : (text : List ℕ) (i : ℕ) (b : Bound) → IsUtf8 text → i < 2 ^ 64 → IsBoundCut text b → IsUtf8 (export_from_text text i b)
from_utf8 text i Nothing u l c = three (codes "__exportAll(exports, ") (required i) (codes ");") (word_utf8 (codes "__exportAll(exports, ") refl) (required_utf8 i l) (word_utf8 (codes ");") refl)
from_utf8 text i (All n) u l c = bound_utf8 text (codes "exports.") i (All n) u exports_utf8 l c
from_utf8 text i (Listed its) u l c = bound_utf8 text (codes "exports.") i (Listed its) u exports_utf8 l c

default_utf8 : (l : Option Token) → IsUtf8 (export_default_text l)
default_utf8 None = word_utf8 (codes "exports.default =") refl
default_utf8 (Some l) = IsUtf8-nil

pub form_utf8 : (text : List ℕ) (i : ℕ) (form : Form) → IsUtf8 text → i < 2 ^ 64 → IsFormCut text form → IsUtf8 (form_text text i form)
form_utf8 text i (Import d b m) u l c = import_utf8 text i d b u l c.0 c.1
form_utf8 text i (ExportFrom b m) u l c = from_utf8 text i b u l c.0
form_utf8 text i (ExportList its e) u l c = IsUtf8-nil
form_utf8 text i (ExportDefault e l) u k c = default_utf8 l
form_utf8 text i (ExportDeclared ls) u l c = IsUtf8-nil
