-- What is found at each word of a script, or the first import or export that has no form.
use Rattle.std.specs.Prelude.{ℕ, ◌==◌, nat_lt, Bool, false, not, ◌&&◌, ◌||◌, List, [], ◌∷◌, if◌then◌else◌, Option, Some, None, option_and_then, codes, Result, Ok, Err}
use Rattle.std.specs.Option.{option_map_or}
use Rattle.mt_tokens.specs.Forms.{export_form, import_form, named_by}
use Rattle.mt_tokens.specs.Shields.{cover_after, no_cover}
use Rattle.mt_tokens.specs.Sites.{Site, begins, depth_after, first_token, is_plain_at}
use Rattle.mt_tokens.specs.Words.{is_mark, is_word, seen}
use Rattle.mt_tokens.specs.declared.dep.DepFault.{DepFault}
use Rattle.mt_tokens.specs.declared.dep.DepFault.TheVariants.{ExportForm, ImportForm}
use Rattle.mt_tokens.specs.declared.forms.Cover.{Cover}
use Rattle.mt_tokens.specs.declared.forms.Form.{Form}
use Rattle.mt_tokens.specs.declared.forms.Found.{Found}
use Rattle.mt_tokens.specs.declared.forms.Found.TheVariants.{Dynamic, ImportCall, Require, Statement}
use Rattle.mt_tokens.specs.declared.forms.Named.{Named}
use Rattle.mt_tokens.specs.declared.token.Token.{Token}

-- an optional `,` and `)`: the `)`
abbrev pub call_close : List ℕ → List Token → Option Token
call_close text [] = None
call_close text (t ∷ ts) = if is_mark text (codes ")") t then Some t else (if is_mark text (codes ",") t && begins text (codes ")") ts then first_token ts else None)

-- `(`, a string, an optional `,`, `)`: the module of the string
abbrev pub argument : List ℕ → List Token → Option Named
argument text [] = None
argument text (o ∷ []) = None
argument text (o ∷ s ∷ ts) = if is_mark text (codes "(") o then option_and_then (λ c. named_by text s c.end) (call_close text ts) else None

-- a call that names no module, unless the word is the name of a function
abbrev pub dynamic_call : List ℕ → Site → Option Found
dynamic_call text s = if begins text (codes "(") s.after && not (option_map_or (is_word text (codes "function")) s.before false) then Some Dynamic else None

abbrev pub call_or : (Named → Found) → Option Named → Option Found → Option Found
call_or make None other = other
call_or make (Some m) other = Some (make m)

abbrev pub form_or : DepFault → Token → Option Form → Result (Option Found) DepFault
form_or fault word None = Err fault
form_or fault word (Some form) = Ok (Some (Statement word form))

-- at a plain `require`: nothing where a function shields it
abbrev pub read_require : List ℕ → Bool → Site → Option Found
read_require text shielded s = if shielded then None else call_or (λ m. Require m) (argument text s.after) (dynamic_call text s)

-- at a plain `import`: a call at any depth, and a statement at depth 0
abbrev pub read_import : List ℕ → Site → Result (Option Found) DepFault
read_import text s =
    if begins text (codes "(") s.after then Ok (call_or (λ m. ImportCall s.here m) (argument text s.after) (dynamic_call text s))
    else (if begins text (codes ".") s.after || not (s.depth == 0) then Ok None else form_or (ImportForm s.here.start) s.here (import_form text s.after))

-- at a plain `export`: a statement at depth 0
abbrev pub read_export : List ℕ → Site → Result (Option Found) DepFault
read_export text s = if s.depth == 0 then form_or (ExportForm s.here.start) s.here (export_form text s.after) else Ok None

-- what is found at a token
abbrev pub read_site : List ℕ → Bool → Site → Result (Option Found) DepFault
read_site text shielded s =
    if is_plain_at text (codes "import") s then read_import text s
    else (if is_plain_at text (codes "export") s then read_export text s
    else (if is_plain_at text (codes "require") s then Ok (read_require text shielded s) else Ok None))

abbrev pub found_before : Result (Option Found) DepFault → Result (List Found) DepFault → Result (List Found) DepFault
found_before (Err e) more = Err e
found_before (Ok None) more = more
found_before (Ok (Some f)) (Ok fs) = Ok (f ∷ fs)
found_before (Ok (Some f)) (Err e) = Err e

-- what is found at these tokens, or the first fault, with this cover, after this token and at this depth
abbrev pub found_at : List ℕ → Cover → Option Token → ℕ → List Token → Result (List Found) DepFault
found_at text c before depth [] = Ok []
found_at text c before depth (t ∷ ts) =
    found_before (read_site text (nat_lt 0 c.count) (record { before = before; depth = depth; here = t; after = ts }))
    (found_at text (cover_after text c t ts) (Some t) (depth_after text depth t) ts)

-- what is found in a text with these tokens, or the first fault
abbrev pub found_in : List ℕ → List Token → Result (List Found) DepFault
found_in text ts = found_at text no_cover None 0 (seen ts)
