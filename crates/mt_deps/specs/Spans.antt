-- The spans of tokens, as they are kept.
use Rattle.std.specs.Prelude.{ℕ, zero, suc, List, [], ◌∷◌}
use Rattle.mt_deps.specs.declared.spans.Span.{Span}

-- so many zeros before numbers
abbrev pub zeros_before : ℕ → List ℕ → List ℕ
zeros_before zero ns = ns
zeros_before (suc k) ns = 0 ∷ zeros_before k ns

-- each span, and the zeros after it
abbrev pub spans_in : List Span → List ℕ
spans_in [] = []
spans_in (s ∷ ss) = s.count ∷ zeros_before s.zeros (spans_in ss)
