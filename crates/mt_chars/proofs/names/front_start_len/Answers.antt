-- A character that is one of a class isn't cut off.
use Rattle.std.proofs.Common.{arith, ◌≡◌, true}
use Rattle.mt_chars.specs.Classes.{first_char, is_start}
use Rattle.mt_chars.proofs.Extents.{char_fits, start_zero}
use Rattle.mt_chars.proofs.names.front_start_len.Goals as goal

pub returns-then-is_start_char-clause-within : goal.returns-then-is_start_char-clause-within
returns-then-is_start_char-clause-within c =
    let t : is_start (first_char c.args.rest.now) ≡ true = cc in
    let f = char_fits is_start c.args.rest.now start_zero t in
    omega (arith, f)
