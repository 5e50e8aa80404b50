use Rattle.std.proofs.Common.{◌≡◌, ◌∙◌, ◌||◌, nat_eq, ap, sym}
use Rattle.std.specs.List.{list_any}
use Rattle.std.specs.FinMap.{contains_key, keys}
use Rattle.mt_revision.proofs.Sets.{has_number, taken_in}
use Rattle.mt_revision.proofs.touched.add_numbers.Goals as goal

pub loop-number-init : goal.loop-number-init
loop-number-init c n =
    let is : c.into_iter-number-iterator.result ≡ keys c.args.modules.now = c.into_iter-number-iterator.ensures.into_iter_gives ∙ c.keys-number-items.ensures.rest ∙ ap keys c.modules.view_is in
    ap (λ ks. list_any (nat_eq n) ks || contains_key c.args.numbers.now n) is ∙ ap (λ b. b || contains_key c.args.numbers.now n) (sym (has_number c.args.modules.now n))

pub loop-number-preserved : goal.loop-number-preserved
loop-number-preserved c n =
    ap (λ m. list_any (nat_eq n) c.next.new.self || contains_key m n) c.in_ok-insert.ensures.ok
    ∙ taken_in c.loop-number.numbers c.in-Some.number.now tt c.next.new.self n
    ∙ ap (λ ks. list_any (nat_eq n) ks || contains_key c.loop-number.numbers n) (sym c.in-Some.ensures.steps)
    ∙ c.loop-number.invariant n
