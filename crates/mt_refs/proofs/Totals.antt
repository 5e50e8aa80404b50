-- Sums over the lists of a graph once some are set.
use Rattle.std.proofs.Common.{ℕ, ◌+◌, ◌<◌, ◌≤◌, ◌≡◌, Bool, true, false, cond, List, [], ◌∷◌, length, Option, Some, None, ap, sym, subst, refl, ◌∙◌, arith}
use Rattle.std.specs.Prelude.{T, ◌||◌}
use Rattle.std.specs.declared.cmp.Ordering.TheVariants.{Less, Equal, Greater}
use Rattle.std.specs.Ordering.{nat_cmp, is_eq, eq_by_cmp}
use Rattle.std.specs.Cmp.{nat_cmp_total, nat_cmp_is, ranked}
use Rattle.std.specs.List.{sum_by, list_any, AllByRecursion}
use Rattle.std.specs.List.Sorted.{IsStrictlySortedBy}
use Rattle.std.specs.FinMap.{get, insert, entries, entries_sorted, entries-insert, get-entries, get-insert, find, put}
use Rattle.std.specs.FinMap.Entries.{below_all, is_sorted, by_order}
use Rattle.std.proofs.lemmas.List.Sums.{sum_by-cons}
use Rattle.mt_containers.proofs.Tables.{first_true, second_true, less_is}
use Rattle.mt_refs.specs.Lists.{targets_in}
use Rattle.mt_refs.specs.Graphs.{Edges, edge_total, sum_lists}
use Rattle.mt_refs.specs.Patches.{removed, filled, nodes_of, size_of, sum_now, sum_then}
use Rattle.mt_refs.proofs.Fills.{get_removed, emptied_first}

apart : (q k : ℕ) → q < k → eq_by_cmp nat_cmp q k ≡ false
apart q k h = ap is_eq (sym (nat_cmp_is q k Less h))

either_true : (a b : Bool) → b ≡ true → (a || b) ≡ true
either_true true b h = refl
either_true false b h = h

no_list : (b : Bool) (x : Option (List ℕ)) → x ≡ None → cond b None x ≡ None
no_list true x e = refl
no_list false x e = e

-- a key below all is not there
find_below : (k x : ℕ) (es : List (ℕ × List ℕ)) → k < x → T (below_all nat_cmp x es) → find nat_cmp k es ≡ None
find_below k x [] h b = refl
find_below k x (e ∷ es) h b =
    let above : x < e.0 = ranked x e.0 Less (sym (less_is (nat_cmp x e.0) (first_true _ _ b))) in
    ap (λ t. cond t (Some e.1) (find nat_cmp k es)) (apart k e.0 (omega arith)) ∙ find_below k x es h (second_true _ _ b)

module _ (f : List ℕ → ℕ) (z : f [] ≡ 0) where
  put_sum : (k : ℕ) (v : List ℕ) (es : List (ℕ × List ℕ)) → T (is_sorted nat_cmp es) → sum_by (λ (e : ℕ × List ℕ). f e.1) (put nat_cmp k v es) + f (targets_in (find nat_cmp k es)) ≡ sum_by (λ (e : ℕ × List ℕ). f e.1) es + f v
  put_sum k v [] h = let one = sum_by-cons (λ (e : ℕ × List ℕ). f e.1) (k, v) [] in omega arith
  put_sum k v (e ∷ es) h =
      let ih = put_sum k v es (second_true _ _ h) in
      let whole = sum_by-cons (λ (e : ℕ × List ℕ). f e.1) e es in
      elim (nat_cmp k e.0) as (λ r. nat_cmp k e.0 ≡ r → sum_by (λ (e : ℕ × List ℕ). f e.1) (by_order r ((k, v) ∷ e ∷ es) ((e.0, v) ∷ es) (e ∷ put nat_cmp k v es)) + f (targets_in (cond (is_eq r) (Some e.1) (find nat_cmp k es))) ≡ sum_by (λ (e : ℕ × List ℕ). f e.1) (e ∷ es) + f v) [
        | Less ↦ λ p.
            let none : f (targets_in (find nat_cmp k es)) ≡ 0 = ap (λ o. f (targets_in o)) (find_below k e.0 es (ranked k e.0 Less (sym p)) (first_true _ _ h)) ∙ z in
            let more = sum_by-cons (λ (e : ℕ × List ℕ). f e.1) (k, v) (e ∷ es) in
            omega arith
        | Equal ↦ λ p. let more = sum_by-cons (λ (e : ℕ × List ℕ). f e.1) (e.0, v) es in omega arith
        | Greater ↦ λ p. let more = sum_by-cons (λ (e : ℕ × List ℕ). f e.1) e (put nat_cmp k v es) in omega arith
      ] refl

  -- a sum over the lists with one set
  pub sum_insert : (edges : Edges) (k : ℕ) (v : List ℕ) → sum_lists f (insert edges k v) + f (targets_in (get edges k)) ≡ sum_lists f edges + f v
  sum_insert edges k v =
      ap (λ es. sum_by (λ (e : ℕ × List ℕ). f e.1) es + f (targets_in (get edges k))) (entries-insert nat_cmp_total edges k v)
      ∙ ap (λ o. sum_by (λ (e : ℕ × List ℕ). f e.1) (put nat_cmp k v (entries edges)) + f (targets_in o)) (get-entries edges k)
      ∙ put_sum k v (entries edges) (entries_sorted edges)

  filled_other : (q : ℕ) (set : List (ℕ × List ℕ)) (edges : Edges) → AllByRecursion (λ y. nat_cmp q y ≡ Less) (nodes_of set) → get (filled set edges) q ≡ get edges q
  filled_other q [] edges h = refl
  filled_other q (s ∷ set) edges h = get-insert nat_cmp_total (filled set edges) s.0 s.1 q
      ∙ ap (λ t. cond t (Some s.1) (get (filled set edges) q)) (ap is_eq h.0)
      ∙ filled_other q set edges h.1

  -- a sum over the lists with many set
  pub sum_filled : (set : List (ℕ × List ℕ)) (edges : Edges) → IsStrictlySortedBy nat_cmp (nodes_of set) → sum_lists f (filled set edges) + sum_now f edges set ≡ sum_lists f edges + sum_then f set
  unfolding IsStrictlySortedBy
  sum_filled [] edges h = refl
  sum_filled (s ∷ set) edges h =
      let ih = sum_filled set edges h.1 in
      let same : f (targets_in (get (filled set edges) s.0)) ≡ f (targets_in (get edges s.0)) = ap (λ o. f (targets_in o)) (filled_other s.0 set edges h.0) in
      let step = sum_insert (filled set edges) s.0 s.1 in
      let now = sum_by-cons (λ (s : ℕ × List ℕ). f (targets_in (get edges s.0))) s set in
      let then = sum_by-cons (λ (s : ℕ × List ℕ). f s.1) s set in
      omega arith

  -- ---- the same nodes with empty lists

  abbrev cleared : List (ℕ × List ℕ) → List (ℕ × List ℕ)
  cleared [] = []
  cleared (s ∷ set) = (s.0, []) ∷ cleared set

  cleared_nodes : (set : List (ℕ × List ℕ)) → nodes_of (cleared set) ≡ nodes_of set
  cleared_nodes [] = refl
  cleared_nodes (s ∷ set) = ap (λ ns. s.0 ∷ ns) (cleared_nodes set)

  cleared_now : (edges : Edges) (set : List (ℕ × List ℕ)) → sum_now f edges (cleared set) ≡ sum_now f edges set
  cleared_now edges [] = refl
  cleared_now edges (s ∷ set) =
      let ih = cleared_now edges set in
      let a = sum_by-cons (λ (s : ℕ × List ℕ). f (targets_in (get edges s.0))) s set in
      let b = sum_by-cons (λ (s : ℕ × List ℕ). f (targets_in (get edges s.0))) (s.0, []) (cleared set) in
      omega arith

  cleared_then : (set : List (ℕ × List ℕ)) → sum_then f (cleared set) ≡ 0
  cleared_then [] = refl
  cleared_then (s ∷ set) =
      let ih = cleared_then set in
      let b = sum_by-cons (λ (s : ℕ × List ℕ). f s.1) (s.0, []) (cleared set) in
      omega arith

  -- what the nodes that are set have is among all
  pub sum_now_le : (set : List (ℕ × List ℕ)) (edges : Edges) → IsStrictlySortedBy nat_cmp (nodes_of set) → sum_now f edges set ≤ sum_lists f edges
  sum_now_le set edges h =
      let e = sum_filled (cleared set) edges (subst (IsStrictlySortedBy nat_cmp) (sym (cleared_nodes set)) h) in
      let n = cleared_now edges set in
      let t = cleared_then set in
      omega arith

  -- nodes without lists have nothing now
  sum_none : (set : List (ℕ × List ℕ)) (edges : Edges) → ((q : ℕ) → list_any (eq_by_cmp nat_cmp q) (nodes_of set) ≡ true → get edges q ≡ None) → sum_now f edges set ≡ 0
  sum_none [] edges free = refl
  sum_none (s ∷ set) edges free =
      let ih = sum_none set edges (λ q a. free q (either_true (eq_by_cmp nat_cmp q s.0) _ a)) in
      let none : f (targets_in (get edges s.0)) ≡ 0 = ap (λ o. f (targets_in o)) (free s.0 (ap (λ t. t || list_any (eq_by_cmp nat_cmp s.0) (nodes_of set)) (ap is_eq (sym (nat_cmp_is s.0 s.0 Equal refl))))) ∙ z in
      let now = sum_by-cons (λ (s : ℕ × List ℕ). f (targets_in (get edges s.0))) s set in
      omega arith

-- once their rows are empty, the lists fit if they do in the end
pub room : (set : List (ℕ × List ℕ)) (dead : List ℕ) (edges : Edges) → IsStrictlySortedBy nat_cmp (nodes_of set) → edge_total (removed dead (removed (nodes_of set) edges)) + size_of set ≡ edge_total (filled set (removed dead edges))
room set dead edges h =
    let bare = removed dead (removed (nodes_of set) edges) in
    let sum = sum_filled (λ es. length es) refl set bare h in
    let none = sum_none (λ es. length es) refl set bare (λ q a.
    get_removed dead (removed (nodes_of set) edges) q ∙ no_list (list_any (eq_by_cmp nat_cmp q) dead) _ (get_removed (nodes_of set) edges q ∙ ap (λ b. cond b None (get edges q)) a)) in
    let whole : edge_total (filled set bare) ≡ edge_total (filled set (removed dead edges)) = ap edge_total (emptied_first set dead edges) in
    omega arith
