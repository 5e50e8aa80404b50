use Rattle.std.proofs.Common.{◌∙◌, Ok, ap, sym}
use Rattle.mt_tokens.specs.declared.token.TokenKind.TheVariants.{Ident}
use Rattle.mt_tokens.proofs.FirstBytes.{front_letter, front_lone}
use Rattle.mt_tokens.proofs.front.front_token.Goals as goal

pub returns-in-len1-up : goal.returns-in-len1-up
returns-in-len1-up c = front_lone c.args.before c.args.place c.args.rest.now c.in-len1-up.len_at_least (sym c.is_lone_mark.ensures ∙ c.if-is_lone_mark.true)

pub returns-in-len1-up-2 : goal.returns-in-len1-up-2
returns-in-len1-up-2 c =
    ap (λ n. Ok (Ident, n)) c.front_name_len.ensures.value
    ∙ front_letter c.args.before c.args.place c.args.rest.now c.in-len1-up.len_at_least (sym c.is_ascii_alphabetic.ensures.value ∙ c.if-is_ascii_alphabetic.true)
