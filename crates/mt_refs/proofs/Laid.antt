-- An overlay, and the graph that it shows.
use Rattle.std.proofs.Common.{ℕ, ◌+◌, ◌<◌, ◌≤◌, ◌^◌, ◌≡◌, ◌||◌, Bool, true, false, cond, nat_eq, List, length, Option, Some, None, inl, inr, ◌⊎◌, ⊎_elim, eq-eqb, ap, sym, refl, ◌∙◌, arith}
use Rattle.std.specs.Option.{is_some, option_or, unwrap_or}
use Rattle.std.specs.Ordering.{nat_cmp, eq_by_cmp}
use Rattle.std.specs.Cmp.{nat_cmp_total}
use Rattle.std.specs.List.Sorted.{IsStrictlySortedBy}
use Rattle.std.specs.FinMap.{FinMap, contains_key, empty, entries, find, get, get-empty, get-entries, get-insert, insert, same_map, nat_cmp-IsAntisymmetric}
use Rattle.std.proofs.lemmas.List.Sums.{sum_by-le-sum_by, count_by-le-length}
use Rattle.std.proofs.lemmas.Bool.{cases_lt}
use Rattle.mt_refs.specs.Lists.{times, targets_in}
use Rattle.mt_refs.specs.Graphs.{Edges, Graph, count, edge_total, sum_lists}
use Rattle.mt_refs.specs.Patches.{filled, nodes_of, overlaid, sum_now, sum_then}
use Rattle.mt_refs.specs.Overlays.{count_in, laid}
use Rattle.mt_refs.proofs.Rows.{above_apart, apart_eq, below_apart, ties, times_once, times_at_most}
use Rattle.mt_refs.proofs.Fills.{get_filled}
use Rattle.mt_refs.proofs.Totals.{sum_filled, sum_now_le}

-- ---- lists

-- what is there is the list that is kept, or else that of the graph below
pub get_laid : (lists edges : Edges) (q : ℕ) → get (filled (entries lists) edges) q ≡ option_or (get lists q) (get edges q)
get_laid lists edges q = get_filled (entries lists) edges q ∙ ap (λ o. option_or o (get edges q)) (sym (get-entries lists q))

or_none : (o : Option (List ℕ)) → option_or o None ≡ o
or_none None = refl
or_none (Some x) = refl

pub same_filled : (set : List (ℕ × List ℕ)) (edges : Edges) → filled (entries (filled set empty)) edges ≡ filled set edges
same_filled set edges = same_map nat_cmp_total nat_cmp-IsAntisymmetric _ _ (λ q.
    get_laid (filled set empty) edges q
    ∙ ap (λ o. option_or o (get edges q)) (get_filled set empty q ∙ ap (option_or (find nat_cmp q set)) (get-empty nat_cmp q) ∙ or_none (find nat_cmp q set))
    ∙ sym (get_filled set edges q))

pub laid_is : (g : Graph) (set : List (ℕ × List ℕ)) (pins : List ℕ) (lists : Edges) → lists ≡ filled set empty → laid g lists pins ≡ overlaid g set pins
laid_is g set pins lists is = ap (λ m. laid g m pins) is ∙ ap (λ m. record { edges = m; pins = pins; spare = g.spare }) (same_filled set g.edges)

some_or : (o p : Option (List ℕ)) → is_some (option_or o p) ≡ (is_some o || is_some p)
some_or None p = refl
some_or (Some x) p = refl

pub live_laid : (lists edges : Edges) (q : ℕ) → contains_key (filled (entries lists) edges) q ≡ (contains_key lists q || contains_key edges q)
live_laid lists edges q = ap is_some (get_laid lists edges q) ∙ some_or (get lists q) (get edges q)

pub list_laid : (lists edges : Edges) (q : ℕ) (o : Option (List ℕ)) → o ≡ get lists q → targets_in (get (filled (entries lists) edges) q) ≡ targets_in (option_or o (get edges q))
list_laid lists edges q o is = ap targets_in (get_laid lists edges q ∙ ap (λ o. option_or o (get edges q)) (sym is))

-- ---- one count changed

chosen : (b : Bool) (x : ℕ) (o : Option ℕ) (d : ℕ) → unwrap_or (cond b (Some x) o) d ≡ cond b x (unwrap_or o d)
chosen true x o d = refl
chosen false x o d = refl

count_insert : (counts : FinMap nat_cmp ℕ) (g : Graph) (t x n : ℕ) → count_in (insert counts t x) g n ≡ cond (eq_by_cmp nat_cmp n t) x (count_in counts g n)
count_insert counts g t x n = ap (λ o. unwrap_or o (count g n)) (get-insert nat_cmp_total counts t x n) ∙ chosen (eq_by_cmp nat_cmp n t) x (get counts n) (count g n)

-- two numbers tie, or they don't
pub tie : (n t : ℕ) → ((n ≡ t) × ((eq_by_cmp nat_cmp n t ≡ true) × (nat_eq n t ≡ true))) ⊎ ((eq_by_cmp nat_cmp n t ≡ false) × (nat_eq n t ≡ false))
tie n t = ⊎_elim
    (λ low. inr (below_apart n t low, apart_eq n t (λ s. omega arith)))
    (λ least. ⊎_elim
    (λ high. inr (above_apart n t high, apart_eq n t (λ s. omega arith)))
    (λ most. let e : n ≡ t = omega arith in inl (e, (ties n t e, eq-eqb n t e)))
    (cases_lt t n))
    (cases_lt n t)

pub one : (b : Bool) → b ≡ true → cond {A = ℕ} b 1 0 ≡ 1
one b e = ap (λ (b : Bool). cond {A = ℕ} b 1 0) e

pub none : (b : Bool) → b ≡ false → cond {A = ℕ} b 1 0 ≡ 0
none b e = ap (λ (b : Bool). cond {A = ℕ} b 1 0) e

pub raised : (counts : FinMap nat_cmp ℕ) (g : Graph) (t x n : ℕ) → x ≡ count_in counts g t + 1 → count_in (insert counts t x) g n ≡ count_in counts g n + cond (nat_eq n t) 1 0
raised counts g t x n is = elim (tie n t) [
  | inl s ↦
      let new : count_in (insert counts t x) g n ≡ x = count_insert counts g t x n ∙ ap (λ b. cond b x (count_in counts g n)) s.1.0 in
      let old : count_in counts g n ≡ count_in counts g t = ap (count_in counts g) s.0 in
      let more = one (nat_eq n t) s.1.1 in
      omega arith
  | inr a ↦
      let new : count_in (insert counts t x) g n ≡ count_in counts g n = count_insert counts g t x n ∙ ap (λ b. cond b x (count_in counts g n)) a.0 in
      let more = none (nat_eq n t) a.1 in
      omega arith
]

pub lowered : (counts : FinMap nat_cmp ℕ) (g : Graph) (t x n : ℕ) → x + 1 ≡ count_in counts g t → count_in (insert counts t x) g n + cond (nat_eq n t) 1 0 ≡ count_in counts g n
lowered counts g t x n is = elim (tie n t) [
  | inl s ↦
      let new : count_in (insert counts t x) g n ≡ x = count_insert counts g t x n ∙ ap (λ b. cond b x (count_in counts g n)) s.1.0 in
      let old : count_in counts g n ≡ count_in counts g t = ap (count_in counts g) s.0 in
      let more = one (nat_eq n t) s.1.1 in
      omega arith
  | inr a ↦
      let new : count_in (insert counts t x) g n ≡ count_in counts g n = count_insert counts g t x n ∙ ap (λ b. cond b x (count_in counts g n)) a.0 in
      let more = none (nat_eq n t) a.1 in
      omega arith
]

pub count_empty : (g : Graph) (n : ℕ) → count_in empty g n ≡ count g n
count_empty g n = ap (λ o. unwrap_or o (count g n)) (get-empty nat_cmp n)

-- ---- all counts

-- how often a number is pinned
count_times : (g : Graph) (n : ℕ) → IsStrictlySortedBy nat_cmp g.pins → count g n ≡ sum_lists (times n) g.edges + times n g.pins
count_times g n h = ap (λ k. sum_lists (times n) g.edges + k) (sym (times_once n g.pins h))

times_le : (n : ℕ) (edges : Edges) → sum_lists (times n) edges ≤ edge_total edges
times_le n edges = sum_by-le-sum_by (λ (e : ℕ × List ℕ). times n e.1) (λ (e : ℕ × List ℕ). length e.1) (entries edges) (λ e. count_by-le-length (nat_eq n) e.1)

module _ (g : Graph) (set : List (ℕ × List ℕ)) (n a : ℕ) (nodes : IsStrictlySortedBy nat_cmp (nodes_of set)) (pinned : IsStrictlySortedBy nat_cmp g.pins) (without : a + sum_now (times n) g.edges set ≡ count g n) where
  -- the counts with the new lists, and with the pins of the graph below
  filled_count : a + sum_then (times n) set ≡ sum_lists (times n) (filled set g.edges) + times n g.pins
  filled_count =
      let sum = sum_filled (times n) refl set g.edges nodes in
      let all = count_times g n pinned in
      omega arith

  pub filled_fits : edge_total (filled set g.edges) + 1 < 2 ^ 32 → a + sum_then (times n) set < 2 ^ 32
  filled_fits few =
      let is = filled_count in
      let most = times_le n (filled set g.edges) in
      let once = times_at_most n g.pins pinned in
      omega arith

  module _ (b : ℕ) (pins : List ℕ) (ascending : IsStrictlySortedBy nat_cmp pins) (with_lists : b ≡ a + sum_then (times n) set) where
    pub pins_counted : times n g.pins ≤ b
    pins_counted = let is = filled_count in omega arith

    pub pins_fit : edge_total (filled set g.edges) + 1 < 2 ^ 32 → b + times n pins < 2 ^ 32 + times n g.pins
    pins_fit few =
        let is = filled_count in
        let most = times_le n (filled set g.edges) in
        let once = times_at_most n pins ascending in
        omega arith

    pub count_laid : (d : ℕ) → d + times n g.pins ≡ b + times n pins → d ≡ count (overlaid g set pins) n
    count_laid d moved =
        let is = filled_count in
        let all = count_times (overlaid g set pins) n ascending in
        omega arith

-- what a node that is set has is counted
pub now_counted : (g : Graph) (set : List (ℕ × List ℕ)) (n : ℕ) → IsStrictlySortedBy nat_cmp (nodes_of set) → sum_now (times n) g.edges set ≤ count g n
now_counted g set n h = let le = sum_now_le (times n) refl set g.edges h in omega arith
