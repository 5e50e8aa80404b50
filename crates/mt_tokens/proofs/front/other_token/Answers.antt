-- The first kind that fits.
use Rattle.std.proofs.Common.{arith, ◌≡◌, ◌∙◌, false, get_or, sym}
use Rattle.mt_chars.specs.Names.{private_len}
use Rattle.mt_chars.specs.Numbers.{begins_number}
use Rattle.mt_tokens.specs.Regexes.{begins_regex}
use Rattle.mt_tokens.specs.Strings.{is_quote}
use Rattle.mt_tokens.specs.Templates.{begins_piece}
use Rattle.mt_tokens.proofs.FirstKinds.{other_is_punct}
use Rattle.mt_tokens.proofs.front.other_token.Goals as goal

pub returns : goal.returns
returns c =
    let rest = c.args.rest.now in
    let p : private_len rest ≡ 0 = let v = c.front_private_len-private.ensures in omega (arith, v) in
    let n : begins_number rest ≡ false = sym c.begins_number_at.ensures ∙ c.if-begins_number_at.false in
    let q : is_quote (get_or rest 0 0) ≡ false = sym c.is_quote_byte.ensures ∙ c.if-is_quote_byte.false in
    let t : begins_piece c.args.before.in_template (get_or rest 0 0) ≡ false = sym c.begins_piece_at.ensures ∙ c.if-begins_piece_at.false in
    let r : begins_regex c.args.before.operand (get_or rest 0 0) ≡ false = sym c.begins_regex_at.ensures ∙ c.if-begins_regex_at.false in
    c.punctuator.ensures ∙ sym (other_is_punct c.args.before c.args.place rest (omega arith) p n q t r)
