-- Walks reach the least keys that have the starts and each step, and no walk needs as many steps as there are keys.
use Rattle.std.proofs.Common.{inl, inr, ◌⊎◌, ◌≡◌, ◌≤◌, ◌<◌, ◌+◌, ◌-◌, ◌||◌, ℕ, zero, suc, Bool, true, false, not, List, [], ◌∷◌, ◌++◌, filter, length, refl, sym, arith, subst}
use Rattle.std.specs.Bool.{Decides}
use Rattle.std.specs.List.{Contains, list_all, list_any}
use Rattle.std.proofs.lemmas.Bool.{or_cases, or_left, or_right, both_ways, not-true, false≢true}
use Rattle.mt_containers.specs.Walks.{IsClosed, IsReached, IsWalk, end_of, ends, is_end_within, reach_among}
use Rattle.mt_containers.proofs.Members.{all_contains, any_contains, contains_any, contains_filter, contains_flat_map, fewer_pass, filter_contains, flat_map_contains, one_more}

-- ---- walks

module _ {K : Type 0} (step : K → List K) where
  -- a walk with one step more
  walk_more : (key : K) (rest : List K) (next : K) → IsWalk step key rest → Contains (step (end_of key rest)) next → IsWalk step key (rest ++ next ∷ [])
  walk_more key [] next w s = (s, tt)
  walk_more key (k ∷ rest) next w s = (w.0, walk_more k rest next w.1 s)

  end_more : (key : K) (rest : List K) (next : K) → end_of key (rest ++ next ∷ []) ≡ next
  end_more key [] next = refl
  end_more key (k ∷ rest) next = end_more k rest next

  -- ---- what is reached

  pub reached_start : (starts : List K) (key : K) → Contains starts key → IsReached step starts key
  reached_start starts key h = record { first = key; rest = []; begun = h; walked = tt; ended = refl }

  pub reached_step : (starts : List K) (key next : K) → IsReached step starts key → Contains (step key) next → IsReached step starts next
  reached_step starts key next h s = record {
    first = h.first;
    rest = h.rest ++ next ∷ [];
    begun = h.begun;
    walked = walk_more h.first h.rest next h.walked (subst (λ k. Contains (step k) next) (sym h.ended) s);
    ended = end_more h.first h.rest next;
  }

  kept_along : (P : K → Type 0) → ((key next : K) → P key → Contains (step key) next → P next) → (key : K) (rest : List K) → IsWalk step key rest → P key → P (end_of key rest)
  kept_along P follow key [] w p = p
  kept_along P follow key (next ∷ rest) w p = kept_along P follow next rest w.1 (follow key next p w.0)

  -- what holds of the starts, and of each step from where it holds, holds of all that is reached
  pub reached_least :
      (starts : List K) (P : K → Type 0) → ((key : K) → Contains starts key → P key) → ((key next : K) → P key → Contains (step key) next → P next)
      → (key : K) → IsReached step starts key → P key
  reached_least starts P start follow key h = subst P h.ended (kept_along P follow h.first h.rest h.walked (start h.first h.begun))

  -- what is reached from keys that are reached is reached
  pub reached_through : (starts more : List K) → ((key : K) → Contains more key → IsReached step starts key) → (key : K) → IsReached step more key → IsReached step starts key
  reached_through starts more each key h = reached_least more (IsReached step starts) each (reached_step starts) key h

  -- keys that no walk leaves have all that is reached
  pub reached_inside : (starts keys : List K) → IsClosed step starts keys → (key : K) → IsReached step starts key → Contains keys key
  reached_inside starts keys closed key h = reached_least starts (Contains keys) closed.begun closed.followed key h

  -- ---- the ends of the walks of n steps

  pub end_reached : (starts : List K) (n : ℕ) (key : K) → Contains (ends step starts n) key → IsReached step starts key
  end_reached starts zero key h = reached_start starts key h
  end_reached starts (suc n) key h = let e = contains_flat_map step (ends step starts n) key h in reached_step starts e.0 key (end_reached starts n e.0 e.1) e.2

  -- an end of a walk of some length
  abbrev pub IsEnd : List K → K → Type 0
  IsEnd starts key = (n : ℕ) × Contains (ends step starts n) key

  end_step : (starts : List K) (key next : K) → IsEnd starts key → Contains (step key) next → IsEnd starts next
  end_step starts key next h s = (suc h.0, flat_map_contains step (ends step starts h.0) key next h.1 s)

  pub reached_end : (starts : List K) (key : K) → IsReached step starts key → IsEnd starts key
  reached_end starts key h = reached_least starts (IsEnd starts) (λ k s. (zero, s)) (end_step starts) key h

-- with more starts and more steps no less is reached
pub reached_wider :
    {K : Type 0} (step wider : K → List K) (starts more : List K) → ((key : K) → Contains starts key → Contains more key) → ((key next : K) → Contains (step key) next → Contains (wider key) next)
    → (key : K) → IsReached step starts key → IsReached wider more key
reached_wider step wider starts more starts_in steps_in key h =
    reached_least step starts (IsReached wider more) (λ k s. reached_start wider more k (starts_in k s)) (λ k next r s. reached_step wider more k next r (steps_in k next s)) key h

-- ---- walks of fewer than n steps

module _ {K : Type 0} (eq : K → K → Bool) (decides : (a b : K) → Decides (eq a b) (a ≡ b)) (step : K → List K) (starts : List K) where
  -- a walk of fewer than n steps ends at a key
  abbrev IsWithin : ℕ → K → Type 0
  IsWithin n key = is_end_within eq step starts n key ≡ true

  -- a step from the end of a walk is the end of a walk of one step more
  within_step : (n : ℕ) (key next : K) → IsWithin n key → Contains (step key) next → IsWithin (suc n) next
  within_step zero key next h s = absurd (false≢true h)
  within_step (suc n) key next h s =
      elim (or_cases (list_any (eq key) (ends step starts n)) (is_end_within eq step starts n key) h) [
        | inl a ↦ or_left (list_any (eq next) (ends step starts (suc n))) (is_end_within eq step starts (suc n) next)
            (contains_any eq decides (ends step starts (suc n)) next (flat_map_contains step (ends step starts n) key next (any_contains eq decides (ends step starts n) key a) s))
        | inr b ↦ or_right (list_any (eq next) (ends step starts (suc n))) (is_end_within eq step starts (suc n) next) (within_step n key next b s)
      ]

  -- what shorter walks reach stays reached
  within_more : (n : ℕ) (key : K) → IsWithin n key → IsWithin (suc n) key
  within_more n key h = or_right (list_any (eq key) (ends step starts n)) (is_end_within eq step starts n key) h

  within_add : (k n : ℕ) (key : K) → IsWithin n key → IsWithin (k + n) key
  within_add zero n key h = let e : n ≡ 0 + n = omega arith in subst (λ m. IsWithin m key) e h
  within_add (suc k) n key h = let e : suc (k + n) ≡ suc k + n = omega arith in subst (λ m. IsWithin m key) e (within_more (k + n) key (within_add k n key h))

  within_reached : (n : ℕ) (key : K) → IsWithin n key → IsReached step starts key
  within_reached zero key h = absurd (false≢true h)
  within_reached (suc n) key h =
      elim (or_cases (list_any (eq key) (ends step starts n)) (is_end_within eq step starts n key) h) [
        | inl a ↦ end_reached step starts n key (any_contains eq decides (ends step starts n) key a)
        | inr b ↦ within_reached n key b
      ]

  -- what a list's reach has is reached
  pub among_reached : (keys : List K) (key : K) → Contains (reach_among eq step starts keys) key → IsReached step starts key
  among_reached keys key h = within_reached (length keys) key (contains_filter (is_end_within eq step starts (length keys)) keys key h).1

  module _ (keys : List K) (closed : IsClosed step starts keys) where
    -- walks of n steps end at no key at which shorter ones don't
    abbrev IsStable : ℕ → Type 0
    IsStable n = list_all (λ q. not (is_end_within eq step starts (suc n) q) || is_end_within eq step starts n q) keys ≡ true

    -- so many keys are ends, or some length of walk adds none
    enough : (n : ℕ) → ((k : ℕ) × (k < n × IsStable k)) ⊎ (n ≤ length (filter (is_end_within eq step starts n) keys))
    enough zero = inr (omega arith)
    enough (suc n) =
        elim (enough n) [
          | inl s ↦ inl (s.0, (omega (arith, s.1.0), s.1.1))
          | inr many ↦ elim (one_more (is_end_within eq step starts n) (is_end_within eq step starts (suc n)) (within_more n) keys) [
            | inl stable ↦ inl (n, (omega arith, stable))
            | inr more ↦ inr (omega arith)
          ]
        ]

    -- where a length of walk adds no key, each end of a walk is an end of a shorter one
    shorter : (k : ℕ) (key : K) → IsStable k → IsWithin (suc k) key → IsWithin k key
    shorter k key stable h =
        let a = all_contains (λ q. not (is_end_within eq step starts (suc k) q) || is_end_within eq step starts k q) keys key stable (reached_inside step starts keys closed key (within_reached (suc k) key h)) in
        elim (or_cases (not (is_end_within eq step starts (suc k) key)) (is_end_within eq step starts k key) a) [
          | inl left ↦ absurd (both_ways (is_end_within eq step starts (suc k) key) (not-true (is_end_within eq step starts (suc k) key) left) h)
          | inr right ↦ right
        ]

    within_stable : (k : ℕ) (key : K) → IsStable k → IsReached step starts key → IsWithin k key
    within_stable k key stable h =
        reached_least step starts (IsWithin k)
        (λ q s. let e : k + suc zero ≡ suc k = omega arith in shorter k q stable (subst (λ m. IsWithin m q) e (within_add k (suc zero) q (or_left (list_any (eq q) (ends step starts zero)) false (contains_any eq decides starts q s)))))
        (λ q next w s. shorter k next stable (within_step k q next w s))
        key h

    -- what is reached, a walk of fewer steps than there are keys reaches
    pub reached_within : (key : K) → IsReached step starts key → IsWithin (length keys) key
    reached_within key h =
        elim (enough (suc (length keys))) [
          | inl s ↦
              let e : (length keys - s.0) + s.0 ≡ length keys = omega (arith, s.1.0) in
              subst (λ n. IsWithin n key) e (within_add (length keys - s.0) s.0 key (within_stable s.0 key s.1.1 h))
          | inr many ↦ let few = fewer_pass (is_end_within eq step starts (suc (length keys))) keys in absurd (omega arith)
        ]

    -- a list that no walk leaves has in its reach all that is reached
    pub reached_among : (key : K) → IsReached step starts key → Contains (reach_among eq step starts keys) key
    reached_among key h = filter_contains (is_end_within eq step starts (length keys)) keys key (reached_inside step starts keys closed key h) (reached_within key h)

    -- so a test of that reach decides whether a key is reached
    pub reached_decides : (key : K) → Decides (list_any (eq key) (reach_among eq step starts keys)) (IsReached step starts key)
    reached_decides key = (
      λ h. among_reached keys key (any_contains eq decides (reach_among eq step starts keys) key h),
      λ h. contains_any eq decides (reach_among eq step starts keys) key (reached_among key h),
    )
