-- The forms of imports and exports.
use Rattle.std.specs.Prelude.{ℕ, ◌==◌, Bool, false, not, ◌&&◌, ◌||◌, List, [], ◌∷◌, ◌++◌, drop, map, filter, if◌then◌else◌, Option, Some, None, is_some, option_map, option_and_then, codes}
use Rattle.std.specs.Option.{option_map_or}
use Rattle.mt_chars.specs.Escapes.{cooked}
use Rattle.mt_tokens.specs.Sites.{Site, begins, begins_word, first_name, is_plain_at, sites, until}
use Rattle.mt_tokens.specs.Words.{bytes_of, is_ident, is_mark, is_plain_after, is_str, is_word}
use Rattle.mt_tokens.specs.declared.forms.Bound.{Bound}
use Rattle.mt_tokens.specs.declared.forms.Bound.TheVariants.{All, Listed, Nothing}
use Rattle.mt_tokens.specs.declared.forms.Form.{Form}
use Rattle.mt_tokens.specs.declared.forms.Form.TheVariants.{ExportDeclared, ExportDefault, ExportFrom, ExportList, Import}
use Rattle.mt_tokens.specs.declared.forms.Item.{Item}
use Rattle.mt_tokens.specs.declared.forms.Named.{Named}
use Rattle.mt_tokens.specs.declared.token.Token.{Token}

-- the module that a string names, in a statement or a call up to this end; none where the string says nothing
unfoldable pub named_by : List ℕ → Token → ℕ → Option Named
named_by text t end = if is_str t.kind then option_map (λ name. record { name = name; string = t; end = end }) (cooked (bytes_of text t)) else None

-- what is read at the front of tokens, and the tokens after it
pub record Read (X : Type 0) : Type 0 where
  pub found : X
  pub rest : List Token

-- the place after a statement with this last token: a `;` directly after it belongs to it
abbrev pub statement_end : List ℕ → Token → List Token → ℕ
statement_end text last [] = last.end
statement_end text last (t ∷ ts) = if is_mark text (codes ";") t then t.end else last.end

-- `from S`
abbrev pub from_named : List ℕ → List Token → Option Named
from_named text [] = None
from_named text (f ∷ []) = None
from_named text (f ∷ s ∷ rest) = if is_word text (codes "from") f then named_by text s (statement_end text s rest) else None

-- `n`, or `n as m`
abbrev pub item : List ℕ → List Token → Option Item
item text [] = None
item text (n ∷ []) = if is_ident n.kind then Some (record { name = n; other = n }) else None
item text (n ∷ a ∷ []) = None
item text (n ∷ a ∷ m ∷ []) = if is_ident n.kind && is_word text (codes "as") a && is_ident m.kind then Some (record { name = n; other = m }) else None
item text (n ∷ a ∷ m ∷ t ∷ ts) = None

-- the items of a list, the `}` that ends it, and the tokens after it
pub record Items : Type 0 where
  pub items : List Item
  pub close : Token
  pub rest : List Token

abbrev pub with_item : Item → Items → Items
with_item i l = record { items = i ∷ l.items; close = l.close; rest = l.rest }

-- what is between the last `,` and the `}`: an item, or nothing
abbrev pub last_item : List ℕ → List Token → Option (List Item)
last_item text [] = Some []
last_item text (t ∷ ts) = option_map (λ i. i ∷ []) (item text (t ∷ ts))

-- LIST, after its `{` or a `,` of it and these tokens of the next item: items with `,` between them, and optionally after the last
abbrev pub list : List ℕ → List Token → List Token → Option Items
list text begun [] = None
list text begun (t ∷ ts) =
    if is_mark text (codes "}") t then option_map (λ is. record { items = is; close = t; rest = ts }) (last_item text begun)
    else (if is_mark text (codes ",") t then option_and_then (λ i. option_map (with_item i) (list text [] ts)) (item text begun)
    else list text (begun ++ t ∷ []) ts)

-- `as n`, for the whole of a module
abbrev pub all_as : List ℕ → List Token → Option (Read Bound)
all_as text [] = None
all_as text (a ∷ []) = None
all_as text (a ∷ n ∷ rest) = if is_word text (codes "as") a && is_ident n.kind then Some (record { found = All n; rest = rest }) else None

-- `* as n`, or LIST
abbrev pub bound : List ℕ → List Token → Option (Read Bound)
bound text [] = None
bound text (t ∷ ts) =
    if is_mark text (codes "*") t then all_as text ts
    else (if is_mark text (codes "{") t then option_map (λ l. record { found = Listed l.items; rest = l.rest }) (list text [] ts) else None)

-- `* as n from S`, or `LIST from S`
abbrev pub bound_import : List ℕ → Option Token → List Token → Option Form
bound_import text default ts = option_and_then (λ b. option_map (λ m. Import default b.found m) (from_named text b.rest)) (bound text ts)

-- after `import d`: `from S`, or `,` and one of those
abbrev pub default_import : List ℕ → Token → List Token → Option Form
default_import text d ts =
    if begins text (codes ",") ts then bound_import text (Some d) (drop 1 ts) else option_map (λ m. Import (Some d) Nothing m) (from_named text ts)

-- after `import`
abbrev pub import_form : List ℕ → List Token → Option Form
import_form text [] = None
import_form text (t ∷ ts) =
    if is_str t.kind then option_map (λ m. Import None Nothing m) (named_by text t (statement_end text t ts))
    else (if is_ident t.kind then default_import text t ts else bound_import text None (t ∷ ts))

-- `LIST from S`, or `LIST`
abbrev pub export_list : List ℕ → Items → Option Form
export_list text l =
    if begins_word text (codes "from") l.rest then option_map (λ m. ExportFrom (Listed l.items) m) (from_named text l.rest)
    else Some (ExportList l.items (statement_end text l.close l.rest))

-- after `export *`: `from S`, or `as n from S`
abbrev pub export_all : List ℕ → List Token → Option Form
export_all text ts =
    if begins_word text (codes "from") ts then option_map (λ m. ExportFrom Nothing m) (from_named text ts)
    else option_and_then (λ b. option_map (λ m. ExportFrom b.found m) (from_named text b.rest)) (all_as text ts)

-- the name after `function`, which a `*` may follow
abbrev pub function_name : List ℕ → List Token → Option Token
function_name text ts = first_name (if begins text (codes "*") ts then drop 1 ts else ts)

-- the name after `function`, `function *`, `async function`, `async function *` or `class`
abbrev pub given_name : List ℕ → List Token → Option Token
given_name text [] = None
given_name text (t ∷ ts) =
    if is_word text (codes "class") t then first_name ts
    else (if is_word text (codes "function") t then function_name text ts
    else (if is_word text (codes "async") t && begins_word text (codes "function") ts then function_name text (drop 1 ts) else None))

abbrev pub is_extends : List ℕ → Token → Bool
is_extends text t = is_word text (codes "extends") t

abbrev pub unless : (Token → Bool) → Option Token → Option Token
unless test None = None
unless test (Some t) = if test t then None else Some t

-- after `export default`: the name of a function or of a class, and none where the class has only `extends`
abbrev pub export_default : List ℕ → Token → List Token → Form
export_default text default ts = ExportDefault default.end (unless (is_extends text) (given_name text ts))

-- whether a token is one of these words
abbrev pub is_any_word : List ℕ → List (List ℕ) → Token → Bool
is_any_word text [] t = false
is_any_word text (w ∷ ws) t = is_word text w t || is_any_word text ws t

-- an `import` that begins a statement: it is neither a call nor `import.meta`
abbrev pub begins_import : List ℕ → Site → Bool
begins_import text s = is_plain_at text (codes "import") s && not (begins text (codes "(") s.after || begins text (codes ".") s.after)

-- the words that begin the next statement, where no `;` ends a declaration
abbrev pub ending_words : List (List ℕ)
ending_words =
    codes "export" ∷ codes "var" ∷ codes "let" ∷ codes "const" ∷ codes "if" ∷ codes "for" ∷ codes "while" ∷ codes "do" ∷ codes "switch" ∷ codes "try" ∷ codes "throw" ∷ []

-- whether a list of declared names is over here: at depth 0 by a `;`, or by a plain word that begins a statement
abbrev pub ends_names : List ℕ → Site → Bool
ends_names text s =
    s.depth == 0 && (is_mark text (codes ";") s.here || (is_any_word text ending_words s.here && is_plain_after text s.before) || begins_import text s)

-- whether a name stands here directly after a `,` of depth 0
abbrev pub is_declared : List ℕ → Site → Bool
is_declared text s = s.depth == 0 && is_ident s.here.kind && option_map_or (is_mark text (codes ",")) s.before false

-- the names that `var`, `let` or `const` declares: the first one in any case
abbrev pub declared_names : List ℕ → Token → List Token → List Token
declared_names text keyword [] = []
declared_names text keyword (l ∷ ts) =
    l ∷ map (λ s. s.here) (filter (is_declared text) (until (ends_names text) (sites text (Some keyword) 0 (l ∷ ts))))

-- the words before names that are declared
abbrev pub declaring_words : List (List ℕ)
declaring_words = codes "var" ∷ codes "let" ∷ codes "const" ∷ []

-- after `export`: a function or a class with a name, or names that are declared
abbrev pub export_declared : List ℕ → Token → List Token → Option Form
export_declared text t ts =
    if is_some (given_name text (t ∷ ts)) then option_map (λ l. ExportDeclared (l ∷ [])) (given_name text (t ∷ ts))
    else (if is_any_word text declaring_words t && is_some (first_name ts) then Some (ExportDeclared (declared_names text t ts)) else None)

-- after `export`
abbrev pub export_form : List ℕ → List Token → Option Form
export_form text [] = None
export_form text (t ∷ ts) =
    if is_mark text (codes "{") t then option_and_then (export_list text) (list text [] ts)
    else (if is_mark text (codes "*") t then export_all text ts
    else (if is_word text (codes "default") t then Some (export_default text t ts) else export_declared text t ts))
