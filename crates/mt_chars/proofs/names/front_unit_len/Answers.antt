-- A character that is one of a class isn't cut off.
use Rattle.std.proofs.Common.{arith, ◌≡◌, true, refl}
use Rattle.mt_chars.specs.Classes.{first_char, is_part, is_space}
use Rattle.mt_chars.proofs.Extents.{char_fits, part_zero}
use Rattle.mt_chars.proofs.names.front_unit_len.Goals as goal

pub returns-in-Blanks-clause-within : goal.returns-in-Blanks-clause-within
returns-in-Blanks-clause-within c =
    let t : is_space (first_char c.args.rest.now) ≡ true = cc in
    let f = char_fits is_space c.args.rest.now refl t in
    omega (arith, f)

pub returns-in-NameParts-clause-within : goal.returns-in-NameParts-clause-within
returns-in-NameParts-clause-within c =
    let t : is_part (first_char c.args.rest.now) ≡ true = cc in
    let f = char_fits is_part c.args.rest.now part_zero t in
    omega (arith, f)

pub returns-in-Flags-clause-within : goal.returns-in-Flags-clause-within
returns-in-Flags-clause-within c =
    let t : is_part (first_char c.args.rest.now) ≡ true = cc in
    let f = char_fits is_part c.args.rest.now part_zero t in
    omega (arith, f)
