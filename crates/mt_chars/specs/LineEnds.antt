-- Line ends, and what a `\` takes with it.
use Rattle.std.specs.Prelude.{ℕ, Bool, ◌&&◌, ◌||◌, ◌==◌, List, [], ◌∷◌, nat_eq, slice_index, if◌then◌else◌}
use Rattle.std.specs.List.{starts_with}

-- whether the text begins with a line end: line feed, carriage return, U+2028 or U+2029
abbrev pub begins_line_end : List ℕ → Bool
begins_line_end rest =
    slice_index rest 0 == 10 || slice_index rest 0 == 13 || (slice_index rest 0 == 226 && slice_index rest 1 == 128 && (slice_index rest 2 == 168 || slice_index rest 2 == 169))

-- how many bytes a `\` takes with it from those after it: of a longer character the first, since no other byte of it is a
-- quote, a `\` or a line end
abbrev pub escape_len : List ℕ → ℕ
escape_len rest = if starts_with nat_eq rest (13 ∷ 10 ∷ []) then 2 else 1
