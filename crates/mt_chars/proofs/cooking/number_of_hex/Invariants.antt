use Rattle.std.proofs.Common.{take, ◌≡◌, ◌≤◌}
use Rattle.mt_chars.specs.Escapes.{hex_number}
use Rattle.mt_chars.proofs.cooking.number_of_hex.Given as goal

abbrev pub invariant-loop-b : goal.invariant-loop-b
invariant-loop-b l = record { number : l.number ≡ hex_number (take l.b-index l.digits); small : l.number ≤ 1114112 }
