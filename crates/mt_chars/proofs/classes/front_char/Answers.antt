-- The character by its bytes.
use Rattle.std.proofs.Common.{arith, sym}
use Rattle.mt_chars.proofs.Characters.{first_char_four, first_char_one, first_char_short, first_char_three, first_char_two, char_len_few}
use Rattle.mt_chars.proofs.classes.front_char.Goals as goal

pub returns-then-len-rest : goal.returns-then-len-rest
returns-then-len-rest c = sym (first_char_short c.args.rest.now (omega arith))

pub returns-then-len-eq2 : goal.returns-then-len-eq2
returns-then-len-eq2 c = let f = first_char_two c.args.rest.now (omega arith) (omega arith) in omega (arith, f)

pub returns-then-len-eq3 : goal.returns-then-len-eq3
returns-then-len-eq3 c = let f = first_char_three c.args.rest.now (omega arith) (omega arith) in omega (arith, f)

pub returns-then-len-eq4 : goal.returns-then-len-eq4
returns-then-len-eq4 c = let f = first_char_four c.args.rest.now (omega arith) (omega arith) in omega (arith, f)

pub returns : goal.returns
returns c =
    let few = char_len_few c.args.rest.now in
    let f = first_char_one c.args.rest.now (omega (arith, few)) in
    omega (arith, f)
