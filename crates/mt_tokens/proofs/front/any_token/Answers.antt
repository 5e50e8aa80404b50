-- The first kind that fits.
use Rattle.std.proofs.Common.{arith, ◌≡◌, ◌∙◌, true, false, sym}
use Rattle.mt_chars.specs.Names.{name_len, run_len}
use Rattle.mt_chars.specs.declared.names.RunOf.TheVariants.{Blanks}
use Rattle.mt_tokens.specs.Comments.{begins_comment}
use Rattle.mt_tokens.proofs.FirstKinds.{front_comment, front_other}
use Rattle.mt_tokens.proofs.front.any_token.Goals as goal

pub returns-then-begins_comment_at : goal.returns-then-begins_comment_at
returns-then-begins_comment_at c =
    let z : run_len Blanks c.args.rest.now ≡ 0 = let v = c.front_run_len-blanks.ensures.value in omega (arith, v) in
    let b : begins_comment c.args.place c.args.rest.now ≡ true = sym c.begins_comment_at.ensures ∙ c.if-begins_comment_at.true in
    c.comment.ensures ∙ sym (front_comment c.args.before c.args.place c.args.rest.now z b)

pub returns : goal.returns
returns c =
    let z : run_len Blanks c.args.rest.now ≡ 0 = let v = c.front_run_len-blanks.ensures.value in omega (arith, v) in
    let b : begins_comment c.args.place c.args.rest.now ≡ false = sym c.begins_comment_at.ensures ∙ c.if-begins_comment_at.false in
    let n : name_len c.args.rest.now ≡ 0 = let v = c.front_name_len-name.ensures.value in omega (arith, v) in
    c.other_token.ensures ∙ sym (front_other c.args.before c.args.place c.args.rest.now z b n)
