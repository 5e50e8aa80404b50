-- Numbers drawn from a state.
use Rattle.std.specs.Prelude.{ℕ, ◌+◌, ◌*◌, ◌/◌, ◌%◌, ◌^◌}

-- the state after another
abbrev pub next_state : ℕ → ℕ
next_state state = (state * 6364136223846793005 + 1442695040888963407) % 2 ^ 64

-- a number below n drawn from a state, and the next state
unfoldable pub drawn : ℕ → ℕ → ℕ × ℕ
drawn state n = (next_state state / 2 ^ 33 % n, next_state state)
