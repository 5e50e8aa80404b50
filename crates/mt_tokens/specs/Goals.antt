-- Whether a slash begins a regular expression: where an operand comes next, and not an operator.
use Rattle.std.specs.Prelude.{ℕ, Bool, ◌==◌, ◌||◌, ◌&&◌, not, true, false, List, [], ◌∷◌, slice_get, Option, Some, None, if◌then◌else◌, codes}
use Rattle.std.specs.Option.{option_map_or}
use Rattle.std.specs.Str.{bytes_eq}
use Rattle.mt_tokens.specs.Brackets.{Unclosed, closing, unclosed}
use Rattle.mt_tokens.specs.Words.{bytes_of, is_ident, is_one_of, is_plain_after, is_word}
use Rattle.mt_tokens.specs.declared.token.Token.{Token}
use Rattle.mt_tokens.specs.declared.token.TokenKind.{TokenKind}
use Rattle.mt_tokens.specs.declared.token.TokenKind.TheVariants.{Ident, Head, Middle, Punct}

-- the words after which an operand comes
unfoldable pub operand_words : List (List ℕ)
operand_words =
    codes "return" ∷ codes "typeof" ∷ codes "instanceof" ∷ codes "in" ∷ codes "of" ∷ codes "new" ∷ codes "delete" ∷ codes "void" ∷ codes "throw" ∷ codes "case" ∷ codes "do"
    ∷ codes "else"
    ∷ codes "yield"
    ∷ codes "await"
    ∷ codes "extends"
    ∷ codes "default"
    ∷ []

-- the words after whose parentheses a statement comes, and so an operand
unfoldable pub head_words : List (List ℕ)
head_words = codes "if" ∷ codes "while" ∷ codes "for" ∷ codes "with" ∷ []

-- those words of the first list after which a `{` begins a block
unfoldable pub block_words : List (List ℕ)
block_words = codes "else" ∷ codes "do" ∷ []

-- the punctuators after which a `{` begins a block
unfoldable pub block_marks : List (List ℕ)
block_marks = codes ";" ∷ codes "{" ∷ codes "}" ∷ codes ")" ∷ codes "]" ∷ codes "=>" ∷ []

-- the punctuators after which an operator comes, those apart that close parentheses or braces
unfoldable pub operator_marks : List (List ℕ)
operator_marks = codes "]" ∷ codes "++" ∷ codes "--" ∷ []

-- whether the parentheses that begin after these two tokens, the last one first, are the head of a statement: `if`, `while`, `for`, `with` or `for await` stands there
abbrev pub is_head : List ℕ → Option Token → Option Token → Bool
is_head text None earlier = false
is_head text (Some t) earlier =
    is_ident t.kind && ((is_plain_after text earlier && is_one_of head_words (bytes_of text t)) || (bytes_eq (bytes_of text t) (codes "await") && option_map_or (is_word text (codes "for")) earlier false))

-- whether a `{` begins a block after a token of this kind and these bytes, before which another token stands
abbrev pub is_block_after : List ℕ → TokenKind → List ℕ → Option Token → Bool
is_block_after text Ident word earlier = not (is_plain_after text earlier && is_one_of operand_words word) || is_one_of block_words word
is_block_after text Punct mark earlier = is_one_of block_marks mark
is_block_after text Head piece earlier = false
is_block_after text Middle piece earlier = false
is_block_after text kind part earlier = true

-- whether a `{` begins a block after these two tokens, the last one first
abbrev pub is_block : List ℕ → Option Token → Option Token → Bool
is_block text None earlier = true
is_block text (Some t) earlier = is_block_after text t.kind (bytes_of text t) earlier

-- whether an operand comes after what a closer ends, where these two tokens stand before its opener, the last one first
abbrev pub is_operand_after : List ℕ → ℕ → Option Token → Option Token → Bool
is_operand_after text closer last earlier = if closer == 41 then is_head text last earlier else (if closer == 125 then is_block text last earlier else false)

-- whether an operand comes after an opener, once it is closed
abbrev pub operand_after : List ℕ → Unclosed → Bool
operand_after text o = is_operand_after text o.closer (slice_get o.before 0) (slice_get o.before 1)

-- the same of the innermost of the openers
abbrev pub operand_after_innermost : List ℕ → List Unclosed → Bool
operand_after_innermost text openers = option_map_or (operand_after text) (slice_get openers 0) false

-- whether an operand comes after a token of this kind and these bytes: by what it closes, by the token before it, and by whether one comes after the opener that it closes
abbrev pub kind_goal : List ℕ → TokenKind → List ℕ → ℕ → Option Token → Bool → Bool
kind_goal text Ident word closed last inner = is_plain_after text last && is_one_of operand_words word
kind_goal text Punct mark closed last inner = if closed == 41 || closed == 125 then inner else not (is_one_of operator_marks mark)
kind_goal text Head piece closed last inner = true
kind_goal text Middle piece closed last inner = true
kind_goal text kind part closed last inner = false

-- whether an operand comes after these tokens, which are neither blanks nor comments, from the last one back: a closer is looked up at the opener that it closes, which counting finds
abbrev pub goal : List ℕ → List Token → Bool
goal text [] = true
goal text (t ∷ back) = kind_goal text t.kind (bytes_of text t) (closing text t) (slice_get back 0) (operand_after_innermost text (unclosed text 0 back))
