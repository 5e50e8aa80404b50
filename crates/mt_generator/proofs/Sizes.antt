-- How long drawn texts are.
use Rattle.std.proofs.Common.{◌≤◌, ◌<◌, ◌+◌, ◌*◌, ◌/◌, ◌^◌, ◌&&◌, if◌then◌else◌, nat_lt, Bool, true, false, ℕ, zero, suc, List, [], ◌++◌, length, length-append, arith, codes}
use Rattle.std.specs.Fmt.{decimal}
use Rattle.std.proofs.lemmas.Fmt.{length-decimal-le}
use Rattle.std.proofs.lemmas.Nat.{mod_below}
use Rattle.mt_generator.specs.Draws.{drawn, next_state}
use Rattle.mt_generator.specs.Modules.{chain_line, lines_drawn, module_drawn, names_drawn, require_line, value_line}

-- a drawn number is below its bound
pub drawn_below : (state n : ℕ) → 0 < n → (drawn state n).0 < n
unfolding drawn
drawn_below state n some = mod_below (next_state state / 2 ^ 33) n some

digits_few : (number : ℕ) → number < 2 ^ 32 → length (decimal number) ≤ 10
digits_few number small = length-decimal-le 10 number (omega arith) (omega arith) (omega arith)

require_short : (number : ℕ) → number < 2 ^ 32 → length (require_line number) ≤ 29
require_short number small = let parts = length-append (decimal number) (codes ".js\");\n") in omega (arith, digits_few number small, parts)

value_short : (value : ℕ) → value < 2 ^ 32 → length (value_line value) ≤ 24
value_short value small = let parts = length-append (decimal value) (codes ";\n") in omega (arith, digits_few value small, parts)

maybe_short : (b : Bool) (line : List ℕ) → length line ≤ 29 → length (if b then line else []) ≤ 29
maybe_short true line h = h
maybe_short false line h = omega arith

chain_short : (modules number : ℕ) (chained : Bool) → number < modules → modules < 2 ^ 32 → length (chain_line modules number chained) ≤ 29
chain_short modules number chained there small = maybe_short (chained && nat_lt (number + 1) modules) (require_line (number + 1)) (require_short (number + 1) (omega arith))

lines_short : (state modules n : ℕ) → 0 < modules → modules < 2 ^ 32 → length (lines_drawn state modules n).0 ≤ 29 * n
lines_short state modules zero some small = omega arith
lines_short state modules (suc n) some small =
    let before = lines_drawn state modules n in
    let target = drawn_below before.1 modules some in
    let line = require_short (drawn before.1 modules).0 (omega (arith, target)) in
    let parts = length-append before.0 (require_line (drawn before.1 modules).0) in
    omega (arith, lines_short state modules n some small, line, parts)

names_short : (state modules : ℕ) → 0 < modules → modules < 2 ^ 32 → length (names_drawn state modules).0 ≤ 58
names_short state modules some small =
    let count = drawn_below state 3 (omega arith) in
    omega (arith, count, lines_short (drawn state 3).1 modules (drawn state 3).0 some small)

-- the text of a module is short
pub module_short : (state modules number : ℕ) (chained : Bool) → number < modules → modules < 2 ^ 32 → length (module_drawn state modules number chained).0 ≤ 111
unfolding module_drawn
module_short state modules number chained there small =
    let names = names_drawn state modules in
    let chain = chain_line modules number chained in
    let value = value_line (drawn names.1 1000000).0 in
    let few = drawn_below names.1 1000000 (omega arith) in
    omega (
      arith,
      chain_short modules number chained there small,
      names_short state modules (omega arith) small,
      value_short (drawn names.1 1000000).0 (omega (arith, few)),
      length-append chain (names.0 ++ value),
      length-append names.0 value,
    )
