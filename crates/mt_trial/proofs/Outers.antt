-- Edges from some nodes, and edges from the others.
use Rattle.std.proofs.Common.{ℕ, ◌+◌, ◌<◌, ◌≡◌, Bool, true, false, cond, nat_eq, List, [], ◌∷◌, Option, Some, None, is_some, inl, inr, ⊎_elim, eq-eqb, ap, sym, subst, refl, ◌∙◌, arith}
use Rattle.std.specs.Prelude.{T}
use Rattle.std.specs.List.{Contains, sum_by}
use Rattle.std.specs.List.Sorted.{IsStrictlySortedBy}
use Rattle.std.specs.declared.cmp.Ordering.TheVariants.{Less}
use Rattle.std.specs.Ordering.{nat_cmp, eq_by_cmp}
use Rattle.std.specs.Cmp.{nat_cmp_total, ranked}
use Rattle.std.specs.Option.{option_or}
use Rattle.std.specs.FinMap.{entries, entries_sorted, find, get, get-entries, nat_cmp-IsAntisymmetric}
use Rattle.std.specs.FinMap.Entries.{below_all, is_sorted}
use Rattle.std.proofs.lemmas.Bool.{cases_lt, eqb-true, false≢true}
use Rattle.std.proofs.lemmas.List.Sums.{sum_by-cons}
use Rattle.mt_containers.proofs.Members.{contains_cases, contains_head, contains_none, contains_tail, tie_decides}
use Rattle.mt_containers.proofs.Tables.{first_true, second_true, less_is}
use Rattle.mt_refs.specs.Lists.{times, targets_in}
use Rattle.mt_refs.specs.Graphs.{Edges, Graph, edges_from, sum_lists}
use Rattle.mt_refs.specs.Patches.{filled, nodes_of, sum_now, sum_then}
use Rattle.mt_refs.proofs.Fills.{get_filled}
use Rattle.mt_refs.proofs.Totals.{sum_filled, sum_insert}
use Rattle.mt_refs.proofs.Rows.{above_apart, ties}
use Rattle.mt_trial.specs.Deaths.{inner}

-- the nodes with empty lists
abbrev pub bare : List ℕ → List (ℕ × List ℕ)
bare [] = []
bare (k ∷ ks) = (k, []) ∷ bare ks

bare_nodes : (ks : List ℕ) → nodes_of (bare ks) ≡ ks
bare_nodes [] = refl
bare_nodes (k ∷ ks) = ap (λ ns. k ∷ ns) (bare_nodes ks)

module _ (f : List ℕ → ℕ) (z : f [] ≡ 0) where
  bare_now : (edges : Edges) (ks : List ℕ) → sum_now f edges (bare ks) ≡ sum_by (λ k. f (targets_in (get edges k))) ks
  bare_now edges [] = refl
  bare_now edges (k ∷ ks) =
      let ih = bare_now edges ks in
      let a = sum_by-cons (λ (s : ℕ × List ℕ). f (targets_in (get edges s.0))) (k, []) (bare ks) in
      let b = sum_by-cons (λ k. f (targets_in (get edges k))) k ks in
      omega arith

  bare_then : (ks : List ℕ) → sum_then f (bare ks) ≡ 0
  bare_then [] = refl
  bare_then (k ∷ ks) =
      let ih = bare_then ks in
      let a = sum_by-cons (λ (s : ℕ × List ℕ). f s.1) (k, []) (bare ks) in
      omega arith

  -- a sum over all lists is that over those of some nodes, and that over the rest
  pub sum_parts : (edges : Edges) (ks : List ℕ) → IsStrictlySortedBy nat_cmp ks → sum_lists f (filled (bare ks) edges) + sum_by (λ k. f (targets_in (get edges k))) ks ≡ sum_lists f edges
  sum_parts edges ks h =
      let all = sum_filled f z (bare ks) edges (subst (IsStrictlySortedBy nat_cmp) (sym (bare_nodes ks)) h) in
      let now = bare_now edges ks in
      let then = bare_then ks in
      omega arith

-- ---- a look-up in an ascending list of entries

below_all_contains : (x : ℕ) (es : List (ℕ × List ℕ)) (e : ℕ × List ℕ) → T (below_all nat_cmp x es) → Contains es e → x < e.0
below_all_contains x [] e h w = absurd (contains_none e w)
below_all_contains x (y ∷ es) e h w = elim (contains_cases y e es w) [
  | inl is ↦ subst (λ (z : ℕ × List ℕ). x < z.0) is (ranked x y.0 Less (sym (less_is (nat_cmp x y.0) (first_true _ _ h))))
  | inr more ↦ below_all_contains x es e (second_true _ _ h) more
]

find_contained : (es : List (ℕ × List ℕ)) (e : ℕ × List ℕ) → T (is_sorted nat_cmp es) → Contains es e → find nat_cmp e.0 es ≡ Some e.1
find_contained [] e h w = absurd (contains_none e w)
find_contained (y ∷ es) e h w = elim (contains_cases y e es w) [
  | inl is ↦ subst (λ (z : ℕ × List ℕ). find nat_cmp z.0 (y ∷ es) ≡ Some z.1) is (ap (λ b. cond b (Some y.1) (find nat_cmp y.0 es)) (ties y.0 y.0 refl))
  | inr more ↦ ap (λ b. cond b (Some y.1) (find nat_cmp e.0 es)) (above_apart e.0 y.0 (below_all_contains y.0 es e (first_true _ _ h) more)) ∙ find_contained es e (second_true _ _ h) more
]

get_contained : (edges : Edges) (e : ℕ × List ℕ) → Contains (entries edges) e → get edges e.0 ≡ Some e.1
get_contained edges e w = get-entries edges e.0 ∙ find_contained (entries edges) e (entries_sorted edges) w

-- ---- what is counted is there

some_part : {X : Type 0} (f : X → ℕ) (xs : List X) → 0 < sum_by f xs → (x : X) × (Contains xs x × (0 < f x))
some_part f [] h = absurd (omega arith)
some_part f (x ∷ xs) h =
    let all = sum_by-cons f x xs in
    ⊎_elim
    (λ here. (x, (contains_head x xs, here)))
    (λ none. let more = some_part f xs (omega arith) in (more.0, (contains_tail x more.0 xs more.1.0, more.1.1)))
    (cases_lt 0 (f x))

some_time : (n : ℕ) (b : Bool) (x : ℕ) → (b ≡ true → x ≡ n) → 0 < cond b 1 0 → x ≡ n
some_time n true x is h = is refl
some_time n false x is h = absurd (omega arith)

-- a number that is counted in a list is there
pub counted_contains : (n : ℕ) (xs : List ℕ) → 0 < times n xs → Contains xs n
counted_contains n xs h =
    let at = some_part (λ x. cond (nat_eq n x) 1 0) xs h in
    subst (Contains xs) (some_time n (nat_eq n at.0) at.0 (λ e. sym (eqb-true n at.0 e)) at.1.1) at.1.0

-- and one that is there is counted
pub contains_counted : (n : ℕ) (xs : List ℕ) → Contains xs n → 0 < times n xs
contains_counted n [] w = absurd (contains_none n w)
contains_counted n (x ∷ xs) w =
    let all : times n (x ∷ xs) ≡ cond (nat_eq n x) 1 0 + times n xs = sum_by-cons (λ x. cond (nat_eq n x) 1 0) x xs in
    elim (contains_cases x n xs w) [
      | inl is ↦
          let one : cond {A = ℕ} (nat_eq n x) 1 0 ≡ 1 = ap (λ (b : Bool). cond {A = ℕ} b 1 0) (eq-eqb n x (sym is)) in
          omega arith
      | inr more ↦ let rest = contains_counted n xs more in omega arith
    ]

-- ---- edges from the others

bare_empty : (u : ℕ) (ks : List ℕ) (v : List ℕ) → find nat_cmp u (bare ks) ≡ Some v → v ≡ []
bare_empty u [] v h = absurd (false≢true (ap is_some h))
bare_empty u (k ∷ ks) v h = elim (eq_by_cmp nat_cmp u k) as (λ b. cond b (Some []) (find nat_cmp u (bare ks)) ≡ Some v → v ≡ []) [
  | true ↦ λ e. sym (ap (λ o. targets_in o) e)
  | false ↦ λ e. bare_empty u ks v e
] h

-- a node that is not among them keeps its list
bare_other : (u : ℕ) (ks : List ℕ) → (Contains ks u → ⊥) → find nat_cmp u (bare ks) ≡ None
bare_other u [] h = refl
bare_other u (k ∷ ks) h = elim (eq_by_cmp nat_cmp u k) as (λ b. eq_by_cmp nat_cmp u k ≡ b → cond b (Some []) (find nat_cmp u (bare ks)) ≡ None) [
  | true ↦ λ e. absurd (h (subst (Contains (k ∷ ks)) (sym (((tie_decides nat_cmp_total nat_cmp-IsAntisymmetric) u k).0 e)) (contains_head k ks)))
  | false ↦ λ e. bare_other u ks (λ w. h (contains_tail k u ks w))
] refl

bare_here : (u : ℕ) (ks : List ℕ) → Contains ks u → find nat_cmp u (bare ks) ≡ Some []
bare_here u [] w = absurd (contains_none u w)
bare_here u (k ∷ ks) w = elim (eq_by_cmp nat_cmp u k) as (λ b. eq_by_cmp nat_cmp u k ≡ b → cond b (Some []) (find nat_cmp u (bare ks)) ≡ Some []) [
  | true ↦ λ e. refl
  | false ↦ λ e. elim (contains_cases k u ks w) [
    | inl is ↦ absurd (false≢true (sym e ∙ ((tie_decides nat_cmp_total nat_cmp-IsAntisymmetric) u k).1 (sym is)))
    | inr more ↦ bare_here u ks more
  ]
] refl

-- how many edges lead to a node from outside some nodes
abbrev pub outer : Graph → ℕ → List ℕ → ℕ
outer g n ks = sum_lists (times n) (filled (bare ks) g.edges)

pub outer_and_inner : (g : Graph) (n : ℕ) (ks : List ℕ) → IsStrictlySortedBy nat_cmp ks → outer g n ks + inner g n ks ≡ sum_lists (times n) g.edges
outer_and_inner g n ks h = sum_parts (times n) refl g.edges ks h

-- a list with something in it is one that was not emptied
from : (n : ℕ) (o p : Option (List ℕ)) (es : List ℕ) → ((v : List ℕ) → o ≡ Some v → v ≡ []) → option_or o p ≡ Some es → Contains es n → Contains (targets_in p) n
from n None p es empty was there = subst (λ o. Contains (targets_in o) n) (sym was) there
from n (Some v) p es empty was there = absurd (contains_none n (subst (λ xs. Contains xs n) (sym (ap targets_in was) ∙ empty v refl) there))

-- an edge from outside comes from a node outside
pub outer_from : (g : Graph) (n : ℕ) (ks : List ℕ) → 0 < outer g n ks → (u : ℕ) × ((Contains ks u → ⊥) × Contains (edges_from g u) n)
outer_from g n ks h =
    let rest = filled (bare ks) g.edges in
    let at = some_part (λ (e : ℕ × List ℕ). times n e.1) (entries rest) h in
    let e : ℕ × List ℕ = at.0 in
    let kept : get rest e.0 ≡ Some e.1 = get_contained rest e at.1.0 in
    let was : option_or (find nat_cmp e.0 (bare ks)) (get g.edges e.0) ≡ Some e.1 = sym (get_filled (bare ks) g.edges e.0) ∙ kept in
    let there : Contains e.1 n = counted_contains n e.1 at.1.1 in (
      e.0,
      (
        (λ w.
            let empty : Some [] ≡ Some e.1 = sym (ap (λ o. option_or o (get g.edges e.0)) (bare_here e.0 ks w)) ∙ was in
            contains_none n (subst (λ xs. Contains xs n) (sym (ap targets_in empty)) there)),
        from n (find nat_cmp e.0 (bare ks)) (get g.edges e.0) e.1 (bare_empty e.0 ks) was there,
      ),
    )

-- and an edge from a node outside is counted
pub from_outer : (g : Graph) (n u : ℕ) (ks : List ℕ) → (Contains ks u → ⊥) → Contains (edges_from g u) n → 0 < outer g n ks
from_outer g n u ks out there =
    let rest = filled (bare ks) g.edges in
    let same : get rest u ≡ get g.edges u = get_filled (bare ks) g.edges u ∙ ap (λ o. option_or o (get g.edges u)) (bare_other u ks out) in
    let one : 0 < times n (targets_in (get rest u)) = contains_counted n (targets_in (get rest u)) (subst (λ o. Contains (targets_in o) n) (sym same) there) in
    let parts = sum_insert (times n) refl rest u [] in
    omega arith
