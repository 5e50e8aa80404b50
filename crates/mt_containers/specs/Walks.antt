-- Walks from key to key, and the keys that they reach.
use Rattle.std.specs.Prelude.{ℕ, zero, suc, ◌≡◌, Bool, false, ◌||◌, List, [], ◌∷◌, filter, length}
use Rattle.std.specs.List.{Contains, flat_map, list_any}

-- each next key is one of the steps from the key before
abbrev pub IsWalk : {K : Type 0} → (K → List K) → K → List K → Type 0
IsWalk step key [] = Unit
IsWalk step key (next ∷ rest) = Contains (step key) next × IsWalk step next rest

-- the last key of a walk
abbrev pub end_of : {K : Type 0} → K → List K → K
end_of key [] = key
end_of key (next ∷ rest) = end_of next rest

-- a walk leads from one of the starts to a key
pub record IsReached {K : Type 0} (step : K → List K) (starts : List K) (key : K) : Type 0 where
  pub first : K
  pub rest : List K
  pub begun : Contains starts first
  pub walked : IsWalk step first rest
  pub ended : end_of first rest ≡ key

-- the keys at which the walks of n steps end
abbrev pub ends : {K : Type 0} → (K → List K) → List K → ℕ → List K
ends step starts zero = starts
ends step starts (suc n) = flat_map step (ends step starts n)

-- whether a walk of fewer than n steps ends at a key
abbrev pub is_end_within : {K : Type 0} → (K → K → Bool) → (K → List K) → List K → ℕ → K → Bool
is_end_within eq step starts zero key = false
is_end_within eq step starts (suc n) key = list_any (eq key) (ends step starts n) || is_end_within eq step starts n key

-- the keys of a list at which a walk of fewer steps than there are keys ends: where no walk leaves the list, longer walks reach nothing more
abbrev pub reach_among : {K : Type 0} → (K → K → Bool) → (K → List K) → List K → List K → List K
reach_among eq step starts keys = filter (is_end_within eq step starts (length keys)) keys

-- no walk leaves a list of keys: it has each start, and each step from one of its keys
pub record IsClosed {K : Type 0} (step : K → List K) (starts keys : List K) : Type 0 where
  pub begun : (key : K) → Contains starts key → Contains keys key
  pub followed : (key next : K) → Contains keys key → Contains (step key) next → Contains keys next
